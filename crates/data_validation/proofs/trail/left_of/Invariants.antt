use Rattle.std.proofs.Common.{ℕ, ◌<◌, ◌≤◌, slice_index}
use Rattle.rtr_base.specs.Addresses.{family_of}
use Rattle.data_validation.specs.PrivateTrail.{host}
use Rattle.data_validation.specs.Tables.{vrp_at}
use Rattle.data_validation.specs.Validity.{Covers}
use Rattle.data_validation.proofs.trail.left_of.Given as goal

abbrev pub invariant-tops : goal.invariant-tops
invariant-tops l = record {
  most : l.left ≤ l.count;
  apart : (k : ℕ) → l.left ≤ k → k < l.count →
      Covers (vrp_at (family_of l.is_v4) l.units (slice_index l.kept k))
      (host (family_of l.is_v4) l.address) → ⊥;
}

abbrev pub decreases-tops : goal.decreases-tops
decreases-tops l = l.left
