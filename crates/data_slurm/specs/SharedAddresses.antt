-- Which addresses are in a prefix, and which prefixes have one in common (RFC 8416 section 4.2).
use Rattle.std.specs.Prelude.{◌≡◌, ℕ, ◌^◌, ◌<◌, Some}
use Rattle.std.specs.Bool.{MatchBool}
use Rattle.rtr_base.specs.Addresses.{Family, IsPrefix, PrefixParts, cleared, width}
use Rattle.data_slurm.specs.Overlaps.{share_address}

-- the address, a number, is of the prefix's family, and the bits that the prefix length specifies
-- are those of the prefix
pub record IsInPrefix (f : Family) (a : ℕ) (p : PrefixParts) : Type 0 where
  pub family : p.family ≡ f
  pub address : a < 2 ^ width f
  pub bits : cleared (width f) p.len a ≡ p.address

-- some address is in both
abbrev pub ShareAddress : PrefixParts → PrefixParts → Type 0
ShareAddress p q = (f : Family) × (a : ℕ) × IsInPrefix f a p × IsInPrefix f a q

-- some address is in both exactly if one covers the other
abbrev pub SharesIfCovered : PrefixParts → PrefixParts → Type 0
SharesIfCovered p q =
    MatchBool (share_address (Some p) (Some q)) (ShareAddress p q) (ShareAddress p q → ⊥)
