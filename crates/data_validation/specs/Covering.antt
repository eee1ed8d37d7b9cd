-- The VRPs of data that cover a prefix, and why one doesn't match a route.
use Rattle.std.specs.Prelude.{◌≡◌, ◌≢◌, ℕ, ◌+◌, ◌<◌, ◌≤◌, List, Option, Some, None}
use Rattle.std.specs.Prelude.{slice_get}
use Rattle.rtr_base.specs.Addresses.{PrefixParts, resolved_len}
use Rattle.rtr_units.specs.PrefixUnits.{OriginParts}
use Rattle.rtr_payload.specs.Payloads.{Payload, origin}
use Rattle.rtr_payload.specs.declared.payload.RouteOrigin.{RouteOrigin}
use Rattle.data_validation.specs.Validity.{Covers}
use Rattle.data_validation.specs.declared.finding.CoveringVrp.{CoveringVrp}
use Rattle.data_validation.specs.declared.mismatch.Mismatch.{Mismatch}
use Rattle.data_validation.specs.declared.mismatch.Mismatch.TheVariants.{AsZero, OtherAs, TooLong}

-- the VRP that an origin is
abbrev pub vrp : RouteOrigin → OriginParts
vrp o = record {
  family = o.prefix.prefix.family;
  address = o.prefix.prefix.address;
  prefix_len = o.prefix.prefix.len;
  max_len = resolved_len o.prefix;
  asn = o.asn;
}

-- no VRP at these places of data covers the prefix
abbrev pub NoneCovers : List Payload → PrefixParts → (IsPlace : ℕ → Type 0) → Type 0
NoneCovers d p IsPlace =
    (i : ℕ) → IsPlace i → (v : OriginParts) → slice_get d i ≡ Some (origin v) → Covers v p → ⊥

-- the first VRP from a place of data on that covers the prefix
pub record IsFirstCover (d : List Payload) (p : PrefixParts) (from : ℕ) (c : CoveringVrp) :
    Type 0 where
  pub within : from ≤ c.place
  pub at : slice_get d c.place ≡ Some (origin (vrp c.origin))
  pub covers : Covers (vrp c.origin) p
  pub first : NoneCovers d p (λ i. (from ≤ i) × (i < c.place))

-- that VRP, or there is none
abbrev pub IsFirstCovering : List Payload → PrefixParts → (from : ℕ) → Option CoveringVrp → Type 0
IsFirstCovering d p from None = NoneCovers d p (λ i. from ≤ i)
IsFirstCovering d p from (Some c) = IsFirstCover d p from c

-- where to look for the one after it
abbrev pub next_place : Option CoveringVrp → (from : ℕ) → ℕ
next_place None from = from
next_place (Some c) from = c.place + 1

-- Why a VRP that covers a route of this length and this AS doesn't match it, as the first of three
-- reasons; with none, it matches (RFC 6811 section 2; the order of the reasons is this library's
-- own).
abbrev pub IsMismatch : Option Mismatch → OriginParts → PrefixParts → (asn : ℕ) → Type 0
IsMismatch (Some AsZero) v p asn = v.asn ≡ 0
IsMismatch (Some OtherAs) v p asn = (v.asn ≢ 0) × (v.asn ≢ asn)
IsMismatch (Some TooLong) v p asn = (v.asn ≢ 0) × (v.asn ≡ asn) × (v.max_len < p.len)
IsMismatch None v p asn = (v.asn ≢ 0) × (v.asn ≡ asn) × (p.len ≤ v.max_len)
