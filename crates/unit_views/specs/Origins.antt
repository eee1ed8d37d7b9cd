-- What views show of prefix units (RFC 8210 sections 5.6 and 5.7; the view is this library's own).
use Rattle.std.specs.Prelude.{◌≡◌, ℕ, List, Some}
use Rattle.rtr_base.specs.Actions.{act}
use Rattle.rtr_base.specs.Addresses.{Family}
use Rattle.rtr_payload.specs.Payloads.{Meaning}
use Rattle.rtr_units.specs.PrefixUnits.{PrefixFields, prefix_at}
use Rattle.rtr_payload.specs.RouteOrigins.{meant_origin}
use Rattle.rtr_payload.specs.UnitFields.{prefix_unit, HasFields, LengthsAgree}
use Rattle.rtr_payload.specs.Meanings.{origin_of}
use Rattle.unit_views.specs.declared.origin.OriginView.{OriginView}

abbrev pub origin_meaning : OriginView → Meaning
origin_meaning v =
    record { version = v.version; action = act v.flags; payload = origin_of v.origin }

-- the view shows the version, the flags and the origin of these fields: the address cleared, the
-- max length given
abbrev pub ShowsOrigin : OriginView → PrefixFields → Type 0
ShowsOrigin v u =
    (v.version ≡ u.version) × (v.flags ≡ u.flags)
    × (v.origin.prefix.prefix ≡ record {
      family = u.origin.family;
      address = (meant_origin u.origin).address;
      len = u.origin.prefix_len;
    })
    × (v.origin.prefix.max_len ≡ Some u.origin.max_len) × (v.origin.asn ≡ u.origin.asn)

-- a view of the prefix unit b of family f
pub record IsOriginOf (f : Family) (v : OriginView) (b : List ℕ) : Type 0 where
  pub shape : HasFields b (prefix_unit (prefix_at f b))
  pub lengths : LengthsAgree (prefix_unit (prefix_at f b))
  pub shows : ShowsOrigin v (prefix_at f b)
