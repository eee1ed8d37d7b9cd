use Rattle.std.proofs.Common.{◌≡◌, length}
use Rattle.data_slices.proofs.OffsetsRead.{ReadSoFar}
use Rattle.data_slices.proofs.reading.read_offsets.Given as goal

abbrev pub invariant-items : goal.invariant-items
invariant-items l =
    ReadSoFar l.fn.input l.rest l.version l.count l.index
    × (length l.index ≡ length l.initial.index)

abbrev pub decreases-items : goal.decreases-items
decreases-items l = length l.rest
