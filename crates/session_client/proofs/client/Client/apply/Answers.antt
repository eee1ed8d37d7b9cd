use Rattle.std.proofs.Common.{◌≤◌, length, subst, sym}
use Rattle.session_client.specs.Holding.{AsksRoom, WantsData, room_at}
use Rattle.session_client.specs.Words.{IsOfChanges}
use Rattle.session_client.proofs.client.Client.apply.Goals as goal

pub returns-in-Answer-clause-enough : goal.returns-in-Answer-clause-enough
returns-in-Answer-clause-enough c =
    let s = c.args.self.now in
    subst (λ m. room_at m s.shown s.kept ≤ length c.args.made.now → WantsData c.make_all.result → ⊥)
    (sym c.in-Answer.is) c.make_all.ensures.enough

pub returns-in-Answer-clause-asks : goal.returns-in-Answer-clause-asks
returns-in-Answer-clause-asks c =
    let s = c.args.self.now in
    subst (λ m. AsksRoom c.make_all.result (room_at m s.shown s.kept) s.router.units)
    (sym c.in-Answer.is) c.make_all.ensures.asks

pub returns-in-Answer-clause-takes : goal.returns-in-Answer-clause-takes
returns-in-Answer-clause-takes c =
    let s = c.args.self.now in
    let x = c.make_all in
    let takes = x.ensures.takes in (
      takes.0,
      subst (λ m. IsOfChanges m s.kept s.shown c.args.input.now c.args.held.now
          (length c.args.index.now) c.args.made.now x.new.made takes.0.word) (sym c.in-Answer.is)
          takes.1,
    )

pub returns-in-Answer-clause-whole : goal.returns-in-Answer-clause-whole
returns-in-Answer-clause-whole c = c.make_all.ensures.whole

pub returns-in_default-clause-whole : goal.returns-in_default-clause-whole
returns-in_default-clause-whole c = λ shows. absurd shows
