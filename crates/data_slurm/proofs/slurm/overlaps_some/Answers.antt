use Rattle.std.proofs.Common.{refl, sym, ◌∙◌}
use Rattle.data_slurm.specs.Overlaps.{entries_overlap, overlaps_some}
use Rattle.data_slurm.proofs.TestedSoFar.{ended, found, passed, starts}
use Rattle.data_slurm.proofs.slurm.overlaps_some.Goals as goal

pub loop-other-init : goal.loop-other-init
loop-other-init c = starts (λ fs. overlaps_some fs c.args.entry.now) c.args.entries.now

pub returns-then-overlaps : goal.returns-then-overlaps
returns-then-overlaps c =
    found (λ fs. overlaps_some fs c.args.entry.now) (entries_overlap c.args.entry.now) refl
    (λ x xs. refl) c.args.entries.now c.loop-other.other-index c.other-item.result
    c.loop-other-test.true c.other-item.is c.loop-other.invariant
    (sym c.overlaps.ensures ∙ c.if-overlaps.true)

pub loop-other-preserved : goal.loop-other-preserved
loop-other-preserved c =
    passed (λ fs. overlaps_some fs c.args.entry.now) (entries_overlap c.args.entry.now) refl
    (λ x xs. refl) c.args.entries.now c.loop-other.other-index c.other-item.result
    c.loop-other-test.true c.other-item.is c.loop-other.invariant
    (sym c.overlaps.ensures ∙ c.if-overlaps.false)

pub returns : goal.returns
returns c =
    ended (λ fs. overlaps_some fs c.args.entry.now) (entries_overlap c.args.entry.now) refl
    (λ x xs. refl) c.args.entries.now c.loop-other.other-index c.loop-other-test.false
    c.loop-other.invariant
