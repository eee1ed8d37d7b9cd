use Rattle.std.proofs.Common.{◌≡◌, ℕ, ◌<◌, length, slice_index}
use Rattle.data_validation.specs.Tables.{IsStart}
use Rattle.data_validation.proofs.tables.starts_of.Given as goal

abbrev pub invariant-bytes : goal.invariant-bytes
invariant-bytes l = record {
  long : length l.starts ≡ 256;
  starts : (k : ℕ) → k < l.byte → IsStart l.units l.count k (slice_index l.starts k);
}
