use Rattle.std.proofs.Common.{◌∙◌, ap, subst, sym, take}
use Rattle.data_history.specs.Life.{IsLife}
use Rattle.data_history.specs.Parts.{HasPart, part_rest}
use Rattle.data_history.specs.Snapshots.{HoldsHistory}
use Rattle.data_history.specs.Stores.{front_of, held_of}
use Rattle.data_history.proofs.Serving.{front_is, no_front, served_last}
use Rattle.data_history.proofs.stores.Stores.history.Goals as goal

pub returns-in-None-clause-finds : goal.returns-in-None-clause-finds
returns-in-None-clause-finds c = λ b is h.
    absurd (no_front c.args.self.now.served
    (held_of c.args.self.now.second c.args.first.now c.args.second.now) b c.in-None.is is)

pub returns-in-Some-first_part-clause-is : goal.returns-in-Some-first_part-clause-is
returns-in-Some-first_part-clause-is c = λ b is.
    c.in-Some-first_part.ensures.rest
    ∙ ap part_rest (c.held.ensures ∙ front_is c.args.self.now.served c.in-Some.size
    (held_of c.args.self.now.second c.args.first.now c.args.second.now) b c.in-Some.is is)

pub returns-in-Some-first_part-clause-last : goal.returns-in-Some-first_part-clause-last
returns-in-Some-first_part-clause-last c = λ xs file taken l.
    let buffer = held_of c.args.self.now.second c.args.first.now c.args.second.now in
    let t = served_last xs file taken (take c.in-Some.size buffer)
    (subst (λ o. IsLife xs file (front_of o buffer) taken) c.in-Some.is l) in (
      t.z,
      t.before,
      t.ys,
      t.all,
      subst (λ b. HoldsHistory b t.z t.ys)
          (sym (c.in-Some-first_part.ensures.rest ∙ ap part_rest c.held.ensures)) t.store.history,
    )

pub returns-in-None-first_part-clause-finds : goal.returns-in-None-first_part-clause-finds
returns-in-None-first_part-clause-finds c = λ b is h.
    c.in-None-first_part.ensures.finds
    (subst HasPart (sym (c.held.ensures ∙ front_is c.args.self.now.served c.in-Some.size
    (held_of c.args.self.now.second c.args.first.now c.args.second.now) b c.in-Some.is is)) h)

pub returns-in-Some-first_part-clause-only : goal.returns-in-Some-first_part-clause-only
returns-in-Some-first_part-clause-only c = λ some.
    let buffer = held_of c.args.self.now.second c.args.first.now c.args.second.now in (
      take c.in-Some.size buffer,
      ap (λ o. front_of o buffer) c.in-Some.is,
      subst HasPart c.held.ensures c.in-Some-first_part.ensures.is_there,
    )
