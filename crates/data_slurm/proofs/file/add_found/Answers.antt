use Rattle.std.proofs.Common.{MatchResult, subst, sym}
use Rattle.data_slurm.specs.PrivateEntries.{AddsEntries}
use Rattle.data_slurm.specs.SlurmFiles.{ArrayValueWrong, IsArrayValue}
use Rattle.data_slurm.proofs.Seen.{array_seen}
use Rattle.data_slurm.proofs.file.add_found.Goals as goal

pub returns-in-Array : goal.returns-in-Array
returns-in-Array c =
    subst (λ j. MatchResult c.add_items.result
    (λ _. AddsEntries (IsArrayValue c.args.kind j) c.args.entries.now.items
    c.add_items.new.entries.items)
    (λ r. ArrayValueWrong c.args.kind j r.reason))
    (sym (array_seen c.args.value.now c.in-Array.list c.as_slice.result.now c.in-Array.is
    c.as_slice.ensures.value)) c.add_items.ensures
