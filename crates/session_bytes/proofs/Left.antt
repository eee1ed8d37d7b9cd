-- Where an input begins with a payload unit, its type says so and it has no fault.
use native.Mathlib.Omega.{arith}
use Rattle.std.proofs.Common.{◌≡◌, ℕ, ◌≤◌, true, List, length, Option, None}
use Rattle.std.proofs.Common.{sym, ap, subst, ◌∙◌, length-append}
use Rattle.std.specs.Prelude.{◌==◌, ◌||◌, ◌&&◌, nat_le, IsTrue}
use Rattle.std.proofs.lemmas.Bool.Decides.{nat_tests}
use Rattle.rtr_units.specs.Header.{type_field}
use Rattle.rtr_units.specs.StopCauses.{Refusal}
use Rattle.rtr_units.proofs.Headers.{same_header}
use Rattle.rtr_payload.specs.FaultSteps.{first_unit}
use Rattle.rtr_payload.specs.FirstFault.{BeginsUnit, is_payload_or_end}
use Rattle.rtr_payload.proofs.ByFields.{unit_fields_of}
use Rattle.rtr_payload.proofs.Rests.{begins_unit_none}
use Rattle.unit_views.specs.Faults.{NamesRefusal}
use Rattle.unit_views.specs.declared.fault.ViewFault.{ViewFault}
use Rattle.unit_views.specs.declared.fault.ViewFault.TheVariants as faults
use Rattle.unit_any.specs.AnyFields.{payload}
use Rattle.unit_any.specs.SessionViews.{IsSessionFault, session_fault}
use Rattle.unit_any.proofs.Agreement.{IsPayloadType, payload_type, same_faults}
use Rattle.unit_any.proofs.Units.{payload_has}
use Rattle.unit_any.proofs.Wholes.{any_whole}
use Rattle.session_bytes.specs.PrivateReading.{begins_payload}

record Begun (rest : List ℕ) : Type 0 where
  pub kind : IsPayloadType (type_field rest)
  pub long : 8 ≤ length rest

begun : (rest : List ℕ) → BeginsUnit rest → Begun rest
begun rest x =
    let is = unit_fields_of x.bytes x.means x.unit in
    let w = any_whole x.bytes (payload is.fields) (payload_has x.bytes is.fields is.shape) in
    let kind = (same_header x.bytes x.rest w.header).kind in
    let all = length-append x.bytes x.rest in
    let same = ap length x.parts in
    record {
      kind = subst IsPayloadType
          (sym (ap type_field x.parts ∙ kind ∙ ap type_field is.shape.bytes))
          (payload_type is.fields);
      long = omega (arith, w.header, all, same);
    }

of_type : (n t : ℕ) → 8 ≤ n → IsPayloadType t →
    (nat_le 2 n && ((t == 4) || (t == 6) || (t == 9) || (t == 11))) ≡ true
of_type n t long kind = grind (arith, nat_tests)

pub is_begun : (rest : List ℕ) → BeginsUnit rest → begins_payload rest ≡ true
is_begun rest x =
    let b = begun rest x in of_type (length rest) (type_field rest) b.long b.kind

pub typed : (t : ℕ) → IsPayloadType t → IsTrue (is_payload_or_end t)
typed t kind = grind (arith, nat_tests)

pub none_named : (b : List ℕ) (wrong : Option Refusal) (e : ViewFault) → wrong ≡ None →
    NamesRefusal b wrong e → ⊥
none_named b wrong (faults.Writer e) none is = is
none_named b wrong faults.Short none is = let w = sym none ∙ is in cc
none_named b wrong (faults.UnitType t) none is = let w = sym none ∙ is in cc
none_named b wrong faults.UnitLength none is = let w = sym none ∙ is in cc
none_named b wrong faults.TooLong none is = let w = sym none ∙ is in cc
none_named b wrong faults.EmptyProviders none is = let w = sym none ∙ is in cc
none_named b wrong (faults.UnitVersion v) none is = let w = sym none ∙ is in cc
none_named b wrong (faults.Prefix rule) none is = let w = sym none ∙ is in cc
none_named b wrong faults.TooMany none is = is

pub not_refused : (rest : List ℕ) (e : ViewFault) (size : Option ℕ) →
    IsSessionFault rest e size → BeginsUnit rest → ⊥
not_refused rest e size is x =
    let none = same_faults rest (typed (type_field rest) (begun rest x).kind)
    ∙ begins_unit_none rest x in
    none_named (first_unit rest) (session_fault rest) e none is.0
