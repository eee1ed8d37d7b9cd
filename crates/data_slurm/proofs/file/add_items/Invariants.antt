use Rattle.data_slurm.proofs.EntriesSoFar.{AddsFirst}
use Rattle.data_slurm.proofs.file.add_items.Given as goal

abbrev pub invariant-loop-item : goal.invariant-loop-item
invariant-loop-item l =
    AddsFirst l.kind l.list l.item-index l.initial.entries.items l.entries.items
