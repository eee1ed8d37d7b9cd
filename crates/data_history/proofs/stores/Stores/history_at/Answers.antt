use Rattle.std.proofs.Common.{ap, subst, take}
use Rattle.data_history.specs.Parts.{HasPart}
use Rattle.data_history.specs.Stores.{front_of}
use Rattle.data_history.specs.Stores.{held_of}
use Rattle.data_history.proofs.Serving.{no_front}
use Rattle.data_history.proofs.stores.Stores.history_at.Goals as goal

pub returns-in-None-clause-finds : goal.returns-in-None-clause-finds
returns-in-None-clause-finds c = λ b is h.
    absurd (no_front c.args.self.now.served
    (held_of c.args.self.now.second c.args.first.now c.args.second.now) b c.in-None.is is)

pub returns-in-Some-clause-only : goal.returns-in-Some-clause-only
returns-in-Some-clause-only c = λ some.
    let buffer = held_of c.args.self.now.second c.args.first.now c.args.second.now in (
      take c.in-Some.size buffer,
      ap (λ o. front_of o buffer) c.in-Some.is,
      subst HasPart c.held.ensures (c.rest_at.ensures.only some),
    )
