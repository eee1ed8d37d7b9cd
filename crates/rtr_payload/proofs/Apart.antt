-- No payload unit begins as an end of data does.
use Rattle.std.proofs.Common.{◌≡◌, ◌≢◌, ℕ, List, ◌++◌, Option}
use Rattle.std.proofs.Common.{Some, None, refl, sym, ap, ◌∙◌, arith}
use Rattle.rtr_base.specs.declared.timing.Timing.{Timing}
use Rattle.rtr_base.specs.Actions.{flags_of}
use Rattle.rtr_base.specs.Addresses.{Family, v4, v6}
use Rattle.rtr_units.specs.End.{EndMeaning, IsEnd, end_list, timed_list}
use Rattle.rtr_units.specs.Header.{type_field}
use Rattle.rtr_units.specs.PrefixUnits.{prefix_type}
use Rattle.rtr_payload.specs.Payloads.{Meaning}
use Rattle.rtr_payload.specs.UnitFields.{Fields, prefix_unit, key_unit, aspa_unit, unit_list}
use Rattle.rtr_payload.specs.UnitFields.{written_fields}
use Rattle.rtr_payload.specs.Units.{IsUnit, form_of}
use Rattle.rtr_payload.specs.FirstFault.{BeginsUnit, BeginsEnd}
use Rattle.rtr_payload.proofs.ByFields.{unit_fields_of, form_is}

fields_type : (u : Fields) (r : List ℕ) → type_field (unit_list u ++ r) ≢ 7
fields_type (prefix_unit u) r h = by_family u.origin.family h
  where
    by_family : (f : Family) → prefix_type f ≢ 7
    by_family v4 e = omega arith
    by_family v6 e = omega arith
fields_type (key_unit u) r h = omega arith
fields_type (aspa_unit u) r h = omega arith

timed_type : (v s q : ℕ) (t : Option Timing) (r : List ℕ) → type_field (timed_list v s q t ++ r) ≡ 7
timed_type v s q None r = refl
timed_type v s q (Some t) r = refl

pub unit_type : (r : List ℕ) → BeginsUnit r → type_field r ≢ 7
unit_type r h e =
    let unit = unit_fields_of h.bytes h.means h.unit in
    fields_type unit.fields h.rest
    (ap (λ b. type_field (b ++ h.rest)) (sym unit.bytes) ∙ ap type_field (sym h.parts) ∙ e)

pub end_type : (r : List ℕ) → BeginsEnd r → type_field r ≡ 7
end_type r h =
    ap type_field h.parts ∙ ap (λ b. type_field (b ++ h.rest)) h.end.bytes
    ∙ timed_type h.means.version h.means.session h.means.serial h.means.timing h.rest

pub begins_apart : (r : List ℕ) → BeginsUnit r → BeginsEnd r → ⊥
begins_apart r h j = unit_type r h (end_type r j)

pub unit_or_end : (a b r s : List ℕ) (m : Meaning) (e : EndMeaning) → IsUnit a m → IsEnd b e →
    a ++ r ≡ b ++ s → ⊥
unit_or_end a b r s m e h j eq =
    begins_apart (a ++ r) (record { bytes = a; means = m; rest = r; unit = h; parts = refl })
    (record { bytes = b; means = e; rest = s; end = j; parts = eq })

pub form_or_end : (m : Meaning) (e : EndMeaning) (r s : List ℕ) →
    form_of m ++ r ≡ end_list e ++ s → ⊥
form_or_end m e r s eq =
    fields_type (written_fields m.version (flags_of m.action) m.payload) r
    (ap (λ b. type_field (b ++ r)) (sym (form_is m.version (flags_of m.action) m.payload))
    ∙ ap type_field eq ∙ timed_type e.version e.session e.serial e.timing s)
