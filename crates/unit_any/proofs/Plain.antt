-- Units that are no payload units and no ends of data, by the fault that views of those give.
use Rattle.std.proofs.Common.{◌≡◌, inl, inr, ℕ, ◌≤◌, Bool, true, false, cond, ltb, List, length}
use Rattle.std.proofs.Common.{get_or, Option, Some, None, option_map, refl, sym, ap, subst, ◌∙◌}
use Rattle.std.proofs.Common.{arith, ◌++◌, drop}
use Rattle.std.specs.Option.{option_or}
use Rattle.std.proofs.lemmas.Bool.{le-ltb}
use Rattle.std.proofs.lemmas.Bool.Decides.{nat_tests}
use Rattle.std.proofs.lemmas.List.{take-append-drop}
use Rattle.std.proofs.lemmas.Option.{none-some}
use Rattle.rtr_units.specs.Header.{version_field, type_field, length_field}
use Rattle.rtr_units.specs.Reading.{IsWhole}
use Rattle.rtr_units.specs.StopCauses.{Refusal, short, unit_type, refused}
use Rattle.rtr_units.proofs.Headers.{same_header}
use Rattle.rtr_payload.specs.FaultSteps.{first_unit}
use Rattle.rtr_payload.specs.FirstFault.{first_fault, header_fault, prefix_fault, refusal_report}
use Rattle.rtr_payload.specs.FirstFault.{is_payload_or_end}
use Rattle.rtr_payload.specs.declared.pdu.prefix_rule.PrefixRule.{PrefixRule}
use Rattle.unit_views.specs.Faults.{IsFirstFault, NamesRefusal}
use Rattle.unit_views.specs.declared.fault.ViewFault.{ViewFault}
use Rattle.unit_views.specs.declared.fault.ViewFault.TheVariants as faults
use Rattle.unit_any.specs.PrivateHeaders.{IsPlainType, size_beside}
use Rattle.unit_any.specs.SessionKinds.{session_unit}
use Rattle.unit_any.specs.SessionViews.{session_fault, IsSessionFault}
use Rattle.unit_any.proofs.Agreement.{same_faults}
use Rattle.unit_any.proofs.Viewed.{other_named}
use Rattle.unit_any.proofs.Wholes.{kinds}

-- ---- a type that is refused

only_type : (v t g n x : ℕ) → header_fault v t g n ≡ Some (unit_type x) →
    is_payload_or_end t ≡ false
unfolding header_fault
only_type v t g n x e = grind (arith, nat_tests)

other_type : (v t g n : ℕ) → is_payload_or_end t ≡ false →
    header_fault v t g n ≡ Some (unit_type t)
unfolding header_fault
other_type v t g n e = rw e refl

rule_never : (o : Option PrefixRule) (u : List ℕ) (x : ℕ) →
    option_map (λ rule. refused (refusal_report u rule)) o ≡ Some (unit_type x) → ⊥
rule_never None u x e = absurd cc
rule_never (Some rule) u x e = absurd cc

of_header : (early cut : Bool) (h p : Option Refusal) (x : ℕ) → (p ≡ Some (unit_type x) → ⊥) →
    cond early (Some short) (option_or h (cond cut (Some short) p)) ≡ Some (unit_type x) →
    h ≡ Some (unit_type x)
of_header true cut h p x never e = absurd cc
of_header false true None p x never e = absurd cc
of_header false false None p x never e = absurd (never e)
of_header false true (Some f) p x never e = e
of_header false false (Some f) p x never e = e

-- the type of what is refused for it
pub refused_type : (r : List ℕ) (x : ℕ) → first_fault r ≡ Some (unit_type x) →
    is_payload_or_end (type_field r) ≡ false
refused_type r x e =
    only_type (version_field r) (type_field r) (get_or r 2 0) (length_field r) x
    (of_header (ltb (length r) 8) (ltb (length r) (length_field r))
    (header_fault (version_field r) (type_field r) (get_or r 2 0) (length_field r))
    (prefix_fault (type_field r) (first_unit r)) x (rule_never _ (first_unit r) x) e)

-- ---- the other faults

type_first : (r : List ℕ) → 8 ≤ length r → is_payload_or_end (type_field r) ≡ false →
    first_fault r ≡ Some (unit_type (type_field r))
type_first r long other = λ i.
    cond (le-ltb (length r) 8 long i) (Some short)
    (option_or
    (other_type (version_field r) (type_field r) (get_or r 2 0) (length_field r) other i)
    (cond (ltb (length r) (length_field r)) (Some short)
    (prefix_fault (type_field r) (first_unit r))))

names_other : (u : List ℕ) (t : ℕ) (e : ViewFault) → NamesRefusal u (Some (unit_type t)) e →
    ((x : ℕ) → e ≡ faults.UnitType x → ⊥) → ⊥
names_other u t (faults.Writer e) is other = is
names_other u t faults.Short is other = absurd cc
names_other u t (faults.UnitType x) is other = other x refl
names_other u t faults.UnitLength is other = absurd cc
names_other u t faults.TooLong is other = absurd cc
names_other u t faults.EmptyProviders is other = absurd cc
names_other u t (faults.UnitVersion v) is other = absurd cc
names_other u t (faults.Prefix rule) is other = absurd cc
names_other u t faults.TooMany is other = is

by_type : (r : List ℕ) (e : ViewFault) (b : Bool) → is_payload_or_end (type_field r) ≡ b →
    8 ≤ length r → IsFirstFault r e → ((x : ℕ) → e ≡ faults.UnitType x → ⊥) →
    session_fault r ≡ first_fault r
by_type r e true is long first other = same_faults r is
by_type r e false is long first other =
    absurd (names_other (first_unit r) (type_field r) e
    (subst (λ w. NamesRefusal (first_unit r) w e) (type_first r long is) first) other)

-- a fault that isn't for the type is that of a unit of any type
pub other_refused : (r : List ℕ) (e d : ViewFault) (n : ℕ) (size : Option ℕ) → 8 ≤ length r →
    ((x : ℕ) → e ≡ faults.UnitType x → ⊥) → n ≡ length_field r → IsFirstFault r e → d ≡ e →
    size ≡ size_beside e n → IsSessionFault r d size
other_refused r e d n size long other field is fault beside =
    rw (fault, beside)
    (other_named r e n (by_type r e (is_payload_or_end (type_field r)) refl long is other) field is)

-- ---- whole units of the other types

pub plain_type : (r : List ℕ) → IsWhole session_unit r → is_payload_or_end (type_field r) ≡ false →
    IsPlainType (type_field r)
plain_type r w other =
    let none_of = other_type (version_field r) (type_field r) (get_or r 2 0) (length_field r) other
    in
    elim (kinds (version_field r) (type_field r) (get_or r 2 0) (length_field r) w.in_order) [
      | inl (t, n) ↦ inl (inl t)
      | inr (inl (t, n)) ↦ inl (inr t)
      | inr (inr (inl (t, n))) ↦ inr (inl (inl t))
      | inr (inr (inr (inl (t, n)))) ↦ inr (inl (inr (inl t)))
      | inr (inr (inr (inr (inl (t, n))))) ↦ inr (inl (inr (inr t)))
      | inr (inr (inr (inr (inr (inl (t, least, most)))))) ↦ inr (inr t)
      | inr (inr (inr (inr (inr (inr fine))))) ↦ absurd (none-some _ (sym fine ∙ none_of))
    ]

-- the unit at the front is of the type that its header says
pub plain_front : (r u : List ℕ) → IsWhole session_unit u → u ≡ first_unit r →
    is_payload_or_end (type_field r) ≡ false → IsPlainType (type_field u)
plain_front r u w is other =
    let n = length_field r in
    let all : u ++ drop n r ≡ r = ap (λ l. l ++ drop n r) is ∙ take-append-drop n r in
    let same : type_field u ≡ type_field r =
    sym (same_header u (drop n r) w.header).kind ∙ ap type_field all in
    plain_type u w (ap is_payload_or_end same ∙ other)
