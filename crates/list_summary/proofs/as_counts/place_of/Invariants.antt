use Rattle.std.proofs.Common.{◌≡◌, ℕ, ◌<◌, get_or, false, nat_lt}
use Rattle.list_summary.proofs.as_counts.place_of.Given as goal

abbrev pub invariant-loop-place : goal.invariant-loop-place
invariant-loop-place l =
    (k : ℕ) (d : ℕ × ℕ) → k < l.place → nat_lt (get_or l.rows k d).1 l.count ≡ false
