use Rattle.std.proofs.Common.{refl, sym, ◌∙◌}
use Rattle.data_slurm.specs.Overlaps.{files_overlap, overlaps_some}
use Rattle.data_slurm.proofs.TestedSoFar.{ended, found, passed, starts}
use Rattle.data_slurm.proofs.slurm.files_overlap.Goals as goal

pub loop-entry-init : goal.loop-entry-init
loop-entry-init c = starts (λ es. files_overlap es c.args.others.now) c.args.entries.now

pub returns-then-overlaps_some : goal.returns-then-overlaps_some
returns-then-overlaps_some c =
    found (λ es. files_overlap es c.args.others.now) (λ e. overlaps_some c.args.others.now e) refl
    (λ x xs. refl) c.args.entries.now c.loop-entry.entry-index c.entry-item.result
    c.loop-entry-test.true c.entry-item.is c.loop-entry.invariant
    (sym c.overlaps_some.ensures ∙ c.if-overlaps_some.true)

pub loop-entry-preserved : goal.loop-entry-preserved
loop-entry-preserved c =
    passed (λ es. files_overlap es c.args.others.now) (λ e. overlaps_some c.args.others.now e) refl
    (λ x xs. refl) c.args.entries.now c.loop-entry.entry-index c.entry-item.result
    c.loop-entry-test.true c.entry-item.is c.loop-entry.invariant
    (sym c.overlaps_some.ensures ∙ c.if-overlaps_some.false)

pub returns : goal.returns
returns c =
    ended (λ es. files_overlap es c.args.others.now) (λ e. overlaps_some c.args.others.now e) refl
    (λ x xs. refl) c.args.entries.now c.loop-entry.entry-index c.loop-entry-test.false
    c.loop-entry.invariant
