-- What C says of a route, and what it gets of its validity (RFC 6811 section 2; the numbers are
-- this library's own).
use Rattle.std.specs.Prelude.{◌≡◌, ℕ, ◌≤◌, ◌&&◌, ◌==◌, Bool, true, false, List, take}
use Rattle.std.specs.Prelude.{Option, Some, None, IfSome, nat_le, if◌then◌else◌}
use Rattle.rtr_base.specs.Addresses.{Family, v4, v6, PrefixParts, width, cleared, resolved_len}
use Rattle.rtr_base.specs.Bytes.{value}
use Rattle.rtr_units.specs.End.{EndMeaning}
use Rattle.rtr_units.specs.PrefixUnits.{address_bytes}
use Rattle.rtr_payload.specs.Payloads.{Payload}
use Rattle.data_slices.specs.Canonical.{HoldsData}
use Rattle.data_validation.specs.Covering.{IsFirstCovering, IsMismatch, vrp}
use Rattle.data_validation.specs.Tables.{AreTables}
use Rattle.data_validation.specs.Validity.{IsValidity}
use Rattle.data_validation.specs.declared.finding.CoveringVrp.{CoveringVrp}
use Rattle.data_validation.specs.declared.mismatch.Mismatch.{Mismatch}
use Rattle.data_validation.specs.declared.mismatch.Mismatch.TheVariants.{AsZero, OtherAs, TooLong}
use Rattle.data_validation.specs.declared.tables.Tables.{Tables}
use Rattle.data_validation.specs.declared.validity.Validity.{Validity}
use Rattle.data_validation.specs.declared.validity.Validity.TheVariants.{NotFound, Valid, Invalid}
use Rattle.rtr_c.specs.declared.validation.RtrCovering.{RtrCovering}
use Rattle.rtr_c.specs.declared.validation.RtrRoute.{RtrRoute}

-- the prefix of a route of this family: its address with all bits after the length cleared
abbrev pub prefix_of : Family → RtrRoute → PrefixParts
prefix_of f r = record {
  family = f;
  address = cleared (width f) r.prefix_length (value (take (address_bytes f) r.address));
  len = r.prefix_length;
}

-- the prefix of a route, unless its family or its length is none
abbrev pub route_prefix : RtrRoute → Option PrefixParts
route_prefix r =
    if (r.family == 4) && nat_le r.prefix_length 32 then Some (prefix_of v4 r)
    else if (r.family == 6) && nat_le r.prefix_length 128 then Some (prefix_of v6 r)
    else None

abbrev pub validity_number : Validity → ℕ
validity_number NotFound = 0
validity_number Valid = 1
validity_number Invalid = 2

abbrev pub mismatch_number : Option Mismatch → ℕ
mismatch_number None = 0
mismatch_number (Some AsZero) = 1
mismatch_number (Some OtherAs) = 2
mismatch_number (Some TooLong) = 3

-- the family or the prefix length of a route is none
abbrev pub validity_no_route : ℕ
validity_no_route = 3

-- the data weren't checked
abbrev pub validity_unchecked : ℕ
validity_unchecked = 4

-- The number of the validity of a route over data, where the lookup is sealed for these bytes. The
-- tables are those of the data where the check filled the lookup.
abbrev pub TellsValidity : Bool → Option PrefixParts → List ℕ → Tables → (asn code : ℕ) → Type 0
TellsValidity false p input t asn code = code ≡ validity_unchecked
TellsValidity true None input t asn code = code ≡ validity_no_route
TellsValidity true (Some p) input t asn code =
    (answer : Validity) × (code ≡ validity_number answer)
    × (AreTables input t → (d : List Payload) → (e : EndMeaning) → HoldsData input d e →
    IsValidity d p asn answer)

-- ---- what covers

-- the number of why a VRP that covers a route doesn't match it
abbrev pub TellsMismatch : CoveringVrp → PrefixParts → (asn code : ℕ) → Type 0
TellsMismatch c p asn code =
    (m : Option Mismatch) × IsMismatch m (vrp c.origin) p asn × (code ≡ mismatch_number m)

-- the numbers of a VRP that covers a route
pub record ShowsCovering (c : CoveringVrp) (p : PrefixParts) (origin_as : ℕ)
    (shown : RtrCovering) : Type 0 where
  pub place : shown.place ≡ c.place
  pub asn : shown.asn ≡ c.origin.asn
  pub prefix_length : shown.prefix_length ≡ c.origin.prefix.prefix.len
  pub max_length : shown.max_length ≡ resolved_len c.origin.prefix
  pub mismatch : TellsMismatch c p origin_as shown.mismatch

abbrev pub nothing_covers : RtrCovering
nothing_covers = record {
  place = 0;
  asn = 0;
  prefix_length = 0;
  max_length = 0;
  mismatch = 0;
}

-- no VRP covers the route
abbrev pub covers_none : ℕ
covers_none = 0

-- one covers it
abbrev pub covers_one : ℕ
covers_one = 1

-- the family or the prefix length of the route is none
abbrev pub covers_no_route : ℕ
covers_no_route = 2

-- the data weren't checked
abbrev pub covers_unchecked : ℕ
covers_unchecked = 3

-- what is shown, and that it is
abbrev pub ShowsOne : (one shown : RtrCovering) → (code : ℕ) → Type 0
ShowsOne one shown code = (code ≡ covers_one) × (shown ≡ one)

-- nothing is shown, for this reason
abbrev pub ShowsNone : (why : ℕ) → RtrCovering → (code : ℕ) → Type 0
ShowsNone why shown code = (code ≡ why) × (shown ≡ nothing_covers)

abbrev pub ShowsFound : Option CoveringVrp → PrefixParts → ℕ → RtrCovering → (code : ℕ) → Type 0
ShowsFound None p asn shown code = ShowsNone covers_none shown code
ShowsFound (Some c) p asn shown code = (code ≡ covers_one) × ShowsCovering c p asn shown

-- The first VRP from a place of data on that covers a route, where the lookup is sealed for these
-- bytes. Whatever the bytes are, it isn't before that place.
abbrev pub TellsCovering : Bool → Option PrefixParts → List ℕ → Tables → (asn from : ℕ) →
    RtrCovering → (code : ℕ) → Type 0
TellsCovering false p input t asn from shown code = ShowsNone covers_unchecked shown code
TellsCovering true None input t asn from shown code = ShowsNone covers_no_route shown code
TellsCovering true (Some p) input t asn from shown code =
    (found : Option CoveringVrp) × ShowsFound found p asn shown code
    × IfSome found (λ c. from ≤ c.place)
    × (AreTables input t → (d : List Payload) → (e : EndMeaning) → HoldsData input d e →
    IsFirstCovering d p from found)
