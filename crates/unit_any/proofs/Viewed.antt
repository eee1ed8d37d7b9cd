-- Views of units of any type: the unit at the front, what it shows, and the faults.
use Rattle.std.proofs.Common.{◌≡◌, ◌≢◌, inl, inr, ℕ, ◌≤◌, Bool, true, false, cond, ltb}
use Rattle.std.proofs.Common.{List, ◌++◌, length, take, drop, get_or, Option, Some, None, Ok}
use Rattle.std.proofs.Common.{refl, sym, ap, subst, ◌∙◌, arith}
use Rattle.std.specs.Prelude.{◌||◌, ◌==◌}
use Rattle.std.specs.Option.{option_or}
use Rattle.std.proofs.lemmas.Bool.{le-ltb, ltb-false}
use Rattle.std.proofs.lemmas.Bool.Decides.{nat_tests}
use Rattle.std.proofs.lemmas.List.{take-append-drop, length-take-le}
use Rattle.rtr_base.specs.Bytes.{IsBytes}
use Rattle.rtr_base.proofs.Numbers.{IsBytes-take}
use Rattle.rtr_units.specs.AnyEnd.{end_meaning}
use Rattle.rtr_units.specs.Header.{version_field, type_field, length_field}
use Rattle.rtr_units.specs.Reading.{IsWhole, exact_length, least_length}
use Rattle.rtr_units.specs.StopCauses.{Refusal, short, refused}
use Rattle.rtr_units.specs.PrefixUnits.{prefix_at}
use Rattle.rtr_units.proofs.Headers.{same_header}
use Rattle.rtr_payload.specs.AspaUnits.{aspa_at}
use Rattle.rtr_payload.specs.KeyUnits.{key_at}
use Rattle.rtr_payload.specs.FaultSteps.{first_unit}
use Rattle.rtr_payload.specs.FirstFault.{first_fault, header_fault, prefix_fault, refusal_report}
use Rattle.rtr_payload.specs.UnitFields.{prefix_unit, key_unit, aspa_unit}
use Rattle.unit_views.specs.Faults.{IsFirstFault, NamesRefusal}
use Rattle.unit_views.specs.Views.{IsViewOf}
use Rattle.unit_views.specs.declared.fault.ViewFault.{ViewFault}
use Rattle.unit_views.specs.declared.fault.ViewFault.TheVariants as faults
use Rattle.unit_views.specs.declared.view.UnitView.{UnitView}
use Rattle.unit_views.specs.declared.view.UnitView.TheVariants as views
use Rattle.unit_views.proofs.Fronts.{at_front}
use Rattle.unit_any.specs.AnyFields.{AnyFields, payload, end_of_data, HasAnyFields}
use Rattle.unit_any.specs.Lengths.{IsBounded, SaysLength}
use Rattle.unit_any.specs.PrivateHeaders.{IsPlainType, size_beside}
use Rattle.unit_any.specs.Reports.{IsReport}
use Rattle.unit_any.specs.SessionKinds.{any_header_fault, session_unit}
use Rattle.unit_any.specs.SessionViews.{session_fault, IsSessionFault}
use Rattle.unit_any.proofs.Lengths.{bounded}
use Rattle.unit_any.proofs.Reports.{fields_report}
use Rattle.unit_any.proofs.Units.{Sized, payload_has, end_has}
use Rattle.unit_any.proofs.Wholes.{any_whole, eight_said}

-- ---- the unit at the front

pub front_whole : (r u : List ℕ) → IsBytes r → u ≡ first_unit r → length u ≤ length r →
    SaysLength r (Ok (Some (length u))) → IsWhole session_unit u
front_whole r u h is within (long, order, size) =
    let some = eight_said (version_field r) (type_field r) (get_or r 2 0) (length_field r) order in
    let front = at_front r long some (omega (arith, size, within)) in
    let same : session_unit.fault (first_unit r) ≡ session_unit.fault r = λ i.
    any_header_fault (front.version i) (front.kind i) (front.flags i) (front.field i) in
    subst (IsWhole session_unit) (sym is) (record {
      header = omega (arith, front.size, some);
      in_order = same ∙ order;
      size = front.size ∙ sym front.field;
      are_bytes = IsBytes-take (length_field r) r h;
    })

pub whole_bounded : (u : List ℕ) → IsWhole session_unit u →
    IsBounded (version_field u) (type_field u) (length u)
whole_bounded u w =
    subst (IsBounded (version_field u) (type_field u)) (sym w.size)
    (bounded (version_field u) (type_field u) (get_or u 2 0) (length_field u) w.in_order)

pub whole_sized : (n k : ℕ) (u : List ℕ) → IsWhole session_unit u → type_field u ≡ k →
    length u ≡ n → Sized n k u
whole_sized n k u w kind size =
    record { bytes = (size, w.are_bytes); kind = kind; size = sym w.size ∙ size }

pub plain_ten : (t : ℕ) → IsPlainType t → t ≢ 0 → t ≢ 1 → t ≢ 2 → t ≢ 3 → t ≢ 8 → t ≡ 10
plain_ten t is n0 n1 n2 n3 n8 = elim is [
  | inl (inl e) ↦ absurd (n0 e)
  | inl (inr e) ↦ absurd (n1 e)
  | inr (inl (inl e)) ↦ absurd (n2 e)
  | inr (inl (inr (inl e))) ↦ absurd (n3 e)
  | inr (inl (inr (inr e))) ↦ absurd (n8 e)
  | inr (inr e) ↦ e
]

pub whole_report : (u : List ℕ) → IsWhole session_unit u → type_field u ≡ 10 → IsReport u
whole_report u w kind =
    let all = whole_bounded u w in
    fields_report u (record {
      kind = kind;
      size = sym w.size;
      least = all.report kind;
      most = all.most;
      are_bytes = w.are_bytes;
    })

-- ---- views of payload units and ends of data

view_has : (v : UnitView) (b : List ℕ) → IsViewOf v b → (f : AnyFields) × HasAnyFields b f
view_has (views.Origin v) b (f, is) =
    (payload (prefix_unit (prefix_at f b)), payload_has b (prefix_unit (prefix_at f b)) is.shape)
view_has (views.RouterKey v) b (is, shape) =
    (payload (key_unit (key_at b)), payload_has b (key_unit (key_at b)) shape)
view_has (views.Aspa v) b (is, shape) =
    (payload (aspa_unit (aspa_at b)), payload_has b (aspa_unit (aspa_at b)) shape)
view_has (views.End e) b (is, end) =
    (end_of_data (end_meaning e), end_has b (end_meaning e) end)

pub view_length : (v : UnitView) (r : List ℕ) (n : ℕ) → n ≤ length r → IsViewOf v (take n r) →
    SaysLength r (Ok (Some n))
view_length v r n within is =
    let front = take n r in
    let has = view_has v front is in
    let w = any_whole front has.0 has.1 in
    let all : front ++ drop n r ≡ r = take-append-drop n r in
    let same = same_header front (drop n r) w.header in
    let len : length front ≡ n = length-take-le n r within in
    let version = sym same.version ∙ ap version_field all in
    let kind = sym same.kind ∙ ap type_field all in
    let flags = sym same.flags ∙ ap (λ b. get_or b 2 0) all in
    let field = sym same.size ∙ ap length_field all in
    let fault : session_unit.fault front ≡ session_unit.fault r = λ i.
    any_header_fault (version i) (kind i) (flags i) (field i) in (
      omega (arith, w.header, len, within),
      sym fault ∙ w.in_order,
      sym len ∙ w.size ∙ field,
    )

-- ---- faults

header_never : (v t g n : ℕ) (x : List ℕ) → header_fault v t g n ≡ Some (refused x) → ⊥
unfolding header_fault
header_never v t g n x e = grind (arith, nat_tests)

exact_never : (m n : ℕ) (x : List ℕ) → exact_length m n ≡ Some (refused x) → ⊥
exact_never m n x e = grind (arith, nat_tests)

least_never : (m n : ℕ) (x : List ℕ) → least_length m n ≡ Some (refused x) → ⊥
least_never m n x e = grind (arith, nat_tests)

none_of : (a b c : Bool) (p q r s : Option Refusal) (x : List ℕ) → (p ≡ Some (refused x) → ⊥) →
    (q ≡ Some (refused x) → ⊥) → (r ≡ Some (refused x) → ⊥) → (s ≡ Some (refused x) → ⊥) →
    cond a p (cond b q (cond c r s)) ≡ Some (refused x) → ⊥
none_of true b c p q r s x np nq nr ns e = np e
none_of false true c p q r s x np nq nr ns e = nq e
none_of false false true p q r s x np nq nr ns e = nr e
none_of false false false p q r s x np nq nr ns e = ns e

any_never : (v t g n : ℕ) (x : List ℕ) → any_header_fault v t g n ≡ Some (refused x) → ⊥
unfolding any_header_fault
any_never v t g n x e =
    none_of ((t == 0) || (t == 1)) ((t == 2) || (t == 3) || (t == 8)) (t == 10)
    (exact_length 12 n) (exact_length 8 n) (least_length 16 n) (header_fault v t g n) x
    (exact_never 12 n x) (exact_never 8 n x) (least_never 16 n x) (header_never v t g n x) e

pub header_says : (r : List ℕ) (f : Refusal) → 8 ≤ length r → session_unit.fault r ≡ Some f →
    session_fault r ≡ Some f
header_says r f long e = λ i.
    cond (le-ltb (length r) 8 long i) (Some short)
    (option_or (e i)
    (cond (ltb (length r) (length_field r)) (Some short)
    (prefix_fault (type_field r) (first_unit r))))

pub header_named : (r : List ℕ) (e : ViewFault) → 8 ≤ length r →
    NamesRefusal r (session_unit.fault r) e → IsSessionFault r e None
header_named r (faults.Writer e) long is = absurd is
header_named r faults.Short long is = (header_says r _ long is, refl)
header_named r (faults.UnitType t) long is = (header_says r _ long is, refl)
header_named r faults.UnitLength long is = (header_says r _ long is, refl)
header_named r faults.TooLong long is = (header_says r _ long is, refl)
header_named r faults.EmptyProviders long is = (header_says r _ long is, refl)
header_named r (faults.UnitVersion v) long is = (header_says r _ long is, refl)
header_named r (faults.Prefix rule) long is =
    absurd (any_never (version_field r) (type_field r) (get_or r 2 0) (length_field r)
    (refusal_report r rule) is)
header_named r faults.TooMany long is = absurd is

not_cut : (early cut : Bool) (h p : Option Refusal) (x : List ℕ) → (h ≡ Some (refused x) → ⊥) →
    cond early (Some short) (option_or h (cond cut (Some short) p)) ≡ Some (refused x) →
    cut ≡ false
not_cut true cut h p x never e = absurd cc
not_cut false false h p x never e = refl
not_cut false true None p x never e = absurd cc
not_cut false true (Some f) p x never e = absurd (never e)

refused_within : (r x : List ℕ) → first_fault r ≡ Some (refused x) → length_field r ≤ length r
refused_within r x e =
    ltb-false (length r) (length_field r)
    (not_cut (ltb (length r) 8) (ltb (length r) (length_field r))
    (header_fault (version_field r) (type_field r) (get_or r 2 0) (length_field r))
    (prefix_fault (type_field r) (first_unit r)) x
    (header_never (version_field r) (type_field r) (get_or r 2 0) (length_field r) x) e)

pub same_fault : (r : List ℕ) →
    any_header_fault (version_field r) (type_field r) (get_or r 2 0) (length_field r) ≡
    header_fault (version_field r) (type_field r) (get_or r 2 0) (length_field r) →
    session_fault r ≡ first_fault r
same_fault r e = λ i.
    cond (ltb (length r) 8) (Some short)
    (option_or (e i)
    (cond (ltb (length r) (length_field r)) (Some short)
    (prefix_fault (type_field r) (first_unit r))))

pub other_named : (r : List ℕ) (e : ViewFault) (n : ℕ) → session_fault r ≡ first_fault r →
    n ≡ length_field r → IsFirstFault r e → IsSessionFault r e (size_beside e n)
other_named r (faults.Writer e) n same size is = absurd is
other_named r faults.Short n same size is = (same ∙ is, refl)
other_named r (faults.UnitType t) n same size is = (same ∙ is, refl)
other_named r faults.UnitLength n same size is = (same ∙ is, refl)
other_named r faults.TooLong n same size is = (same ∙ is, refl)
other_named r faults.EmptyProviders n same size is = (same ∙ is, refl)
other_named r (faults.UnitVersion v) n same size is = (same ∙ is, refl)
other_named r (faults.Prefix rule) n same size is =
    (same ∙ is, (ap Some size, refused_within r (refusal_report (first_unit r) rule) is))
other_named r faults.TooMany n same size is = absurd is
