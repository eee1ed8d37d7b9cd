-- Origin validation of a route over the origins of data (RFC 6811 section 2).
use Rattle.std.specs.Prelude.{◌≡◌, ℕ, ◌-◌, ◌/◌, ◌^◌, ◌<◌, ◌≤◌, List}
use Rattle.std.specs.List.{Contains}
use Rattle.rtr_base.specs.Addresses.{PrefixParts, width}
use Rattle.rtr_units.specs.PrefixUnits.{OriginParts}
use Rattle.rtr_payload.specs.Payloads.{Payload, origin}
use Rattle.data_validation.specs.declared.validity.Validity.{Validity}
use Rattle.data_validation.specs.declared.validity.Validity.TheVariants.{NotFound, Valid, Invalid}

-- the first l bits of an address of w bits
abbrev pub first_bits : (w l a : ℕ) → ℕ
first_bits w l a = a / 2 ^ (w - l)

-- "Covered": the VRP's prefix is not longer than the route's, and both agree in all bits that the
-- VRP's prefix length specifies
pub record Covers (v : OriginParts) (p : PrefixParts) : Type 0 where
  pub family : v.family ≡ p.family
  pub shorter : v.prefix_len ≤ p.len
  pub bits : first_bits (width p.family) v.prefix_len v.address
      ≡ first_bits (width p.family) v.prefix_len p.address

-- "Matched": covered, the route's prefix is not longer than the VRP's max length, and the AS that
-- the route is from is the VRP's. AS 0 matches no route (RFC 6483 section 4, RFC 7607), and a route
-- that is from no single AS is one of AS 0 here.
pub record Matches (v : OriginParts) (p : PrefixParts) (asn : ℕ) : Type 0 where
  pub covers : Covers v p
  pub within : p.len ≤ v.max_len
  pub same : v.asn ≡ asn
  pub some : 0 < asn

-- "NotFound": no VRP covers the route. "Valid": at least one matches it. "Invalid": at least one
-- covers it, and none matches.
abbrev pub Says : Validity → (IsVrp : OriginParts → Type 0) → PrefixParts → (asn : ℕ) → Type 0
Says NotFound IsVrp p asn = (v : OriginParts) → IsVrp v → Covers v p → ⊥
Says Valid IsVrp p asn = (v : OriginParts) × IsVrp v × Matches v p asn
Says Invalid IsVrp p asn =
    ((v : OriginParts) × IsVrp v × Covers v p)
    × ((v : OriginParts) → IsVrp v → Matches v p asn → ⊥)

-- the validity of a route of this prefix and this AS, by the origins among these payloads
abbrev pub IsValidity : List Payload → PrefixParts → (asn : ℕ) → Validity → Type 0
IsValidity d p asn answer = Says answer (λ v. Contains d (origin v)) p asn
