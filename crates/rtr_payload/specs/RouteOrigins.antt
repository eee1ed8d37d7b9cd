-- The units of route origins (RFC 8210 sections 5.6 and 5.7, RFC 6810 sections 5.6 and 5.7): which
-- bytes are one, and what it means. Their fields and byte list stand in `rtr_units`.
use Rattle.std.specs.Prelude.{◌≡◌, ◌^◌, ◌<◌, List, ℕ}
use Rattle.rtr_base.specs.Actions.{act}
use Rattle.rtr_base.specs.Addresses.{width, cleared}
use Rattle.rtr_units.specs.PrefixUnits.{OriginParts, PrefixFields, prefix_list}
use Rattle.rtr_payload.specs.Payloads.{Meaning, origin, LengthsInOrder}

-- each number of the unit fits its place (RFC 8210 sections 5.1, 5.6 and 5.7)
abbrev pub PrefixFits : PrefixFields → Type 0
PrefixFits u =
    (u.session < 2 ^ 16) × (u.origin.address < 2 ^ width u.origin.family) × (u.origin.asn < 2 ^ 32)

-- the origin that is meant: the bits of its address after the prefix length are cleared (RFC 8210
-- section 5.6)
abbrev pub meant_origin : OriginParts → OriginParts
meant_origin o = record o { address = cleared (width o.family) o.prefix_len o.address }

-- these are the bytes of a prefix unit with this meaning (RFC 8210 sections 5.6 and 5.7); of its
-- flags the lowest bit counts (section 5.1)
pub record IsOriginUnit (b : List ℕ) (m : Meaning) : Type 0 where
  pub unit : PrefixFields
  pub bytes : b ≡ prefix_list unit
  pub ranges : PrefixFits unit
  pub lengths : LengthsInOrder unit.origin
  pub means : m ≡ record {
    version = unit.version;
    action = act unit.flags;
    payload = origin (meant_origin unit.origin);
  }
