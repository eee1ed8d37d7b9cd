use Rattle.make_work.proofs.Takings.{asserts_all, asserts_next, asserts_none}
use Rattle.make_work.proofs.gathering.take_entries.Goals as goal

pub loop-entry-init : goal.loop-entry-init
loop-entry-init c = asserts_none c.args.gathering.now

pub loop-entry-preserved : goal.loop-entry-preserved
loop-entry-preserved c =
    asserts_next c.args.entries.now c.loop-entry.entry-index c.entry-item.result _ _ _
    c.loop-entry-test.true c.entry-item.is c.loop-entry.invariant c.in-Ok.ensures

pub returns : goal.returns
returns c =
    asserts_all c.args.entries.now c.loop-entry.entry-index _ _ c.loop-entry-test.false
    c.loop-entry.invariant
