-- Each list of bytes begins with a unit, begins with an end of data, or meets a step.
use Rattle.std.proofs.Common.{◌≡◌, ℕ, ◌≤◌, ◌⊎◌, List, ◌++◌, length, take, drop, Option, Some, None}
use Rattle.std.proofs.Common.{refl, sym, ap, ◌∙◌, arith, get_or, inl, inr}
use Rattle.std.specs.Prelude.{IsSome}
use Rattle.std.proofs.lemmas.Bool.Decides.{nat_tests}
use Rattle.std.proofs.lemmas.List.{take-append-drop, length-take-le}
use Rattle.rtr_base.specs.Addresses.{width}
use Rattle.rtr_base.specs.Bytes.{IsBytes}
use Rattle.rtr_base.proofs.Numbers.{IsBytes-take}
use Rattle.rtr_units.specs.StopCauses.{Refusal}
use Rattle.rtr_units.specs.Header.{version_field, type_field, length_field}
use Rattle.rtr_units.proofs.Headers.{same_header}
use Rattle.rtr_payload.specs.FirstFault.{header_fault, prefix_fault, first_fault, BeginsUnit}
use Rattle.rtr_payload.specs.FirstFault.{BeginsEnd, broken_rule}
use Rattle.rtr_payload.specs.FaultSteps.{header_step, frame_fault, first_unit, BeginsShape, rule_of}
use Rattle.rtr_payload.specs.UnitFields.{Fields, prefix_unit, key_unit, aspa_unit, LengthsAgree}
use Rattle.rtr_payload.specs.UnitFields.{meaning}
use Rattle.rtr_payload.proofs.ByFields.{unit_fields_of, fields_unit}
use Rattle.rtr_payload.proofs.Wholes.{whole_is}
use Rattle.rtr_payload.proofs.Frames.{Whole, InFrame, none_in_frame, first_none}
use Rattle.rtr_payload.proofs.Frames.{refuse, steps_are}
use Rattle.rtr_payload.proofs.Frames.{same_step, shape_fault, end_fault}

-- ---- a rest that meets none of the steps 1 to 7

pub eight_said : (v t g n : ℕ) → header_fault v t g n ≡ None → 8 ≤ n
unfolding header_fault
eight_said v t g n e = grind (arith, nat_tests)

-- what its length field cuts off is whole
pub cut_whole : (r : List ℕ) → InFrame r → Whole (first_unit r)
cut_whole r h =
    let b = first_unit r in
    let later = drop (length_field r) r in
    let all : b ++ later ≡ r = take-append-drop (length_field r) r in
    let n : length b ≡ length_field r = length-take-le (length_field r) r h.whole in
    let long : 8 ≤ length b =
    omega (
      arith,
      eight_said (version_field r) (type_field r) (get_or r 2 0) (length_field r) h.in_order,
    ) in
    let same : length_field r ≡ length_field b =
    ap length_field (sym all) ∙ (same_header b later long).size in
    record {
      long = long;
      in_order = sym (same_step b later long) ∙ ap header_step all ∙ h.in_order;
      size = sym same ∙ sym n;
    }

pub frame_begins : (r : List ℕ) → IsBytes r → frame_fault r ≡ None → BeginsShape r ⊎ BeginsEnd r
frame_begins r h e =
    let f = none_in_frame r e in
    let n = length_field r in
    let parts : r ≡ take n r ++ drop n r = sym (take-append-drop n r) in
    elim (whole_is (take n r) (IsBytes-take n r h) (cut_whole r f)) [
      | inl u ↦ inl (record {
        bytes = take n r;
        rest = drop n r;
        unit = record { fields = u.0; shape = u.1 };
        parts = parts;
      })
      | inr d ↦
          inr (record { bytes = take n r; means = d.0; rest = drop n r; end = d.1; parts = parts })
    ]

-- ---- units and ends of data meet no step, and what meets none is one

rule_kept : (w l x : ℕ) → (l ≤ x) × (x ≤ w) → broken_rule w l x ≡ None
unfolding broken_rule
rule_kept w l x h = grind (arith, nat_tests)

rule_from : (w l x : ℕ) → broken_rule w l x ≡ None → (l ≤ x) × (x ≤ w)
unfolding broken_rule
rule_from w l x h = grind (arith, nat_tests)

pub agree_kept : (u : Fields) → LengthsAgree u → rule_of u ≡ None
agree_kept (prefix_unit u) h =
    rule_kept (width u.origin.family) u.origin.prefix_len u.origin.max_len h
agree_kept (key_unit u) h = refl
agree_kept (aspa_unit u) h = refl

pub agree_from : (u : Fields) → rule_of u ≡ None → LengthsAgree u
agree_from (prefix_unit u) h =
    rule_from (width u.origin.family) u.origin.prefix_len u.origin.max_len h
agree_from (key_unit u) h = tt
agree_from (aspa_unit u) h = tt

refuse_none : (b : List ℕ) (o : _) → refuse b o ≡ None → o ≡ None
refuse_none b None e = refl
refuse_none b (Some f) e = absurd cc

pub begins_unit_none : (r : List ℕ) → BeginsUnit r → first_fault r ≡ None
begins_unit_none r h =
    let unit = unit_fields_of h.bytes h.means h.unit in
    ap first_fault h.parts ∙ shape_fault h.bytes h.rest unit.fields unit.shape
    ∙ ap (refuse h.bytes) (agree_kept unit.fields unit.lengths)

pub begins_end_none : (r : List ℕ) → BeginsEnd r → first_fault r ≡ None
begins_end_none r h = ap first_fault h.parts ∙ end_fault h.bytes h.rest h.means h.end

pub none_begins : (r : List ℕ) → IsBytes r → first_fault r ≡ None → BeginsUnit r ⊎ BeginsEnd r
none_begins r h e =
    let none = first_none (frame_fault r) (prefix_fault (type_field r) (first_unit r))
    (sym (steps_are r) ∙ e) in
    elim (frame_begins r h none.0) [
      | inl b ↦
          let u = b.unit.fields in
          let kept = refuse_none b.bytes (rule_of u)
          (sym (shape_fault b.bytes b.rest u b.unit.shape) ∙ ap first_fault (sym b.parts) ∙ e) in
          inl (record {
            bytes = b.bytes;
            means = meaning u;
            rest = b.rest;
            unit = fields_unit b.bytes u b.unit.shape (agree_from u kept);
            parts = b.parts;
          })
      | inr d ↦ inr d
    ]

some_or_none : (r : List ℕ) → IsBytes r → (o : Option Refusal) → first_fault r ≡ o →
    BeginsUnit r ⊎ (BeginsEnd r ⊎ IsSome o)
some_or_none r h None e = elim (none_begins r h e) [ inl u ↦ inl u | inr d ↦ inr (inl d) ]
some_or_none r h (Some f) e = inr (inr refl)

pub one_holds : (r : List ℕ) → IsBytes r → BeginsUnit r ⊎ (BeginsEnd r ⊎ IsSome (first_fault r))
one_holds r h = some_or_none r h (first_fault r) refl
