-- The two forms of a unit say the same: `IsUnit`, kind by kind, and `HasMeaning`, by its fields.
use Rattle.std.proofs.Common.{◌≡◌, ℕ, List, ◌⊎◌, inl, inr, refl}
use Rattle.rtr_base.specs.Bytes.{IsBytes}
use Rattle.rtr_payload.specs.AspaUnits.{IsAspaUnit}
use Rattle.rtr_payload.specs.KeyUnits.{IsKeyUnit}
use Rattle.rtr_payload.specs.Payloads.{Payload, origin, key, aspa, Meaning}
use Rattle.rtr_payload.specs.RouteOrigins.{IsOriginUnit}
use Rattle.rtr_payload.specs.UnitFields.{Fields, prefix_unit, key_unit, aspa_unit, unit_list}
use Rattle.rtr_payload.specs.UnitFields.{HasFields, LengthsAgree, HasMeaning, meaning}
use Rattle.rtr_payload.specs.UnitFields.{written_fields}
use Rattle.rtr_payload.specs.Units.{IsUnit, form}

kind_has : (b : List ℕ) (m : Meaning) → IsBytes b →
    IsOriginUnit b m ⊎ (IsKeyUnit b m ⊎ IsAspaUnit b m) → HasMeaning b m
kind_has b m h (inl k) = record {
  fields = prefix_unit k.unit;
  shape = record { fits = k.ranges; limits = tt; bytes = k.bytes; are_bytes = h };
  lengths = k.lengths;
  means = k.means;
}
kind_has b m h (inr (inl k)) = record {
  fields = key_unit k.unit;
  shape = record { fits = k.ranges; limits = k.limit; bytes = k.bytes; are_bytes = h };
  lengths = tt;
  means = k.means;
}
kind_has b m h (inr (inr k)) = record {
  fields = aspa_unit k.unit;
  shape = record { fits = k.ranges; limits = k.has_providers; bytes = k.bytes; are_bytes = h };
  lengths = tt;
  means = k.means;
}

fields_kind : (b : List ℕ) (m : Meaning) (u : Fields) → HasFields b u → LengthsAgree u →
    m ≡ meaning u → IsOriginUnit b m ⊎ (IsKeyUnit b m ⊎ IsAspaUnit b m)
fields_kind b m (prefix_unit u) h l e =
    inl (record { unit = u; bytes = h.bytes; ranges = h.fits; lengths = l; means = e })
fields_kind b m (key_unit u) h l e =
    inr
    (inl (record { unit = u; bytes = h.bytes; ranges = h.fits; limit = h.limits; means = e }))
fields_kind b m (aspa_unit u) h l e =
    inr (inr (record {
      unit = u;
      bytes = h.bytes;
      ranges = h.fits;
      has_providers = h.limits;
      means = e;
    }))

pub unit_fields_of : (b : List ℕ) (m : Meaning) → IsUnit b m → HasMeaning b m
unit_fields_of b m h = kind_has b m h.are_bytes h.kind

pub unit_of_fields : (b : List ℕ) (m : Meaning) → HasMeaning b m → IsUnit b m
unit_of_fields b m h = record {
  are_bytes = h.are_bytes;
  kind = fields_kind b m h.fields h.shape h.lengths h.means;
}

pub fields_unit : (b : List ℕ) (u : Fields) → HasFields b u → LengthsAgree u → IsUnit b (meaning u)
fields_unit b u h l =
    unit_of_fields b (meaning u) (record { fields = u; shape = h; lengths = l; means = refl })

-- a form is the list of the fields that are written
pub form_is : (v f : ℕ) (p : Payload) → form v f p ≡ unit_list (written_fields v f p)
form_is v f (origin o) = refl
form_is v f (key k) = refl
form_is v f (aspa a) = refl
