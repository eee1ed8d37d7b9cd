-- Where reading a unit of any type stops, by what reading one of its type says.
use Rattle.std.proofs.Common.{◌≡◌, ℕ, ◌<◌, ◌≤◌, ◌⊎◌, List, ◌++◌, length, get_or, Option, Some}
use Rattle.std.proofs.Common.{Err, refl, sym, ap, ◌∙◌, arith, inl, inr, length-append}
use Rattle.std.specs.Prelude.{IsTrue, ◌==◌, ◌&&◌, ◌||◌}
use Rattle.std.proofs.lemmas.Bool.Decides.{nat_tests}
use Rattle.rtr_units.specs.StopCauses.{short, unit_type, unit_version, too_long, unit_length}
use Rattle.rtr_units.specs.StopCauses.{empty_providers, refused, Cause, by_reader, by_writer}
use Rattle.rtr_units.specs.StopCauses.{too_many}
use Rattle.rtr_units.specs.StopCauses.{no_memory, wrong, cause_of}
use Rattle.rtr_units.specs.declared.fault.Fault.{Fault}
use Rattle.rtr_units.specs.Header.{version_field, type_field, length_field}
use Rattle.rtr_units.specs.Reading.{Kind, exact_length, least_length}
use Rattle.rtr_units.specs.Reading.{of_size, ReadsAfter, Stops}
use Rattle.rtr_units.specs.Stream.{FallsShort}
use Rattle.rtr_units.specs.StopCauses.{ReaderState}
use Rattle.rtr_units.proofs.Headers.{same_header}
use Rattle.rtr_units.proofs.UnitsRead.{AlikeAfter, alike_stops, header_stops, typed_is}
use Rattle.rtr_payload.specs.FirstFault.{header_fault}
use Rattle.rtr_payload.specs.UnitKinds.{payload_unit}
use Rattle.unit_any.specs.SessionKinds.{any_header_fault, session_unit, report_unit}
use Rattle.unit_any.specs.SessionKinds.{report_sized}
use Rattle.unit_any.specs.AnyReading.{ReadsAnyAfter, StopsInAny}

-- ---- what is wrong with a header, by its type

module _ (v g n : ℕ) where
  pub of_twelve : (t : ℕ) → (t ≡ 0) ⊎ (t ≡ 1) → any_header_fault v t g n ≡ exact_length 12 n
  unfolding any_header_fault
  of_twelve t (inl e) = rw e refl
  of_twelve t (inr e) = rw e refl

  pub of_eight : (t : ℕ) → (t ≡ 2) ⊎ ((t ≡ 3) ⊎ (t ≡ 8)) → any_header_fault v t g n
      ≡ exact_length 8 n
  unfolding any_header_fault
  of_eight t (inl e) = rw e refl
  of_eight t (inr (inl e)) = rw e refl
  of_eight t (inr (inr e)) = rw e refl

  pub of_ten : any_header_fault v 10 g n ≡ least_length 16 n
  unfolding any_header_fault
  of_ten = refl

  pub of_payload : (t : ℕ) → (t ≡ 4) ⊎ ((t ≡ 6) ⊎ ((t ≡ 7) ⊎ ((t ≡ 9) ⊎ (t ≡ 11)))) →
      any_header_fault v t g n ≡ header_fault v t g n
  unfolding any_header_fault
  of_payload t (inl e) = rw e refl
  of_payload t (inr (inl e)) = rw e refl
  of_payload t (inr (inr (inl e))) = rw e refl
  of_payload t (inr (inr (inr (inl e)))) = rw e refl
  of_payload t (inr (inr (inr (inr e)))) = rw e refl

  pub of_others : (t : ℕ) → ¬ (t ≡ 0) → ¬ (t ≡ 1) → ¬ (t ≡ 2) → ¬ (t ≡ 3) → ¬ (t ≡ 8) → ¬ (t ≡ 10) →
      any_header_fault v t g n ≡ header_fault v t g n
  unfolding any_header_fault
  of_others t n0 n1 n2 n3 n8 n10 = grind (arith, nat_tests)

named : (u : List ℕ) (k : ℕ) → type_field u ≡ k →
    session_unit.fault u ≡ any_header_fault (version_field u) k (get_or u 2 0) (length_field u)
named u k kind = ap (λ t. any_header_fault (version_field u) t (get_or u 2 0) (length_field u)) kind

-- ---- a kind is read as any is, after a header of its type

more_ask : (t n : ℕ) → IsTrue ((t == 9) || (t == 11)) →
    IsTrue ((t == 9) || (t == 11) || ((t == 10) && (n == 8)))
more_ask t n e = grind (arith, nat_tests)

report_asks : (t n : ℕ) → t ≡ 10 → IsTrue (n == 8) →
    IsTrue ((t == 9) || (t == 11) || ((t == 10) && (n == 8)))
report_asks t n ten e = grind (arith, nat_tests)

module _ (h : List ℕ) (long : 8 ≤ length h) (k : ℕ) (kind : type_field h ≡ k) where
  kind_after : (t : List ℕ) → type_field (h ++ t) ≡ k
  kind_after t = (same_header h t long).kind ∙ kind

  pub twelve_alike : (k ≡ 0) ⊎ (k ≡ 1) → AlikeAfter (of_size 12) session_unit h
  twelve_alike e = record {
    fault = λ t.
        let u = h ++ t in
        sym (named u k (kind_after t)
        ∙ of_twelve (version_field u) (get_or u 2 0) (length_field u) k e);
    asks = λ t asks. absurd cc;
  }

  pub eight_alike : (k ≡ 2) ⊎ ((k ≡ 3) ⊎ (k ≡ 8)) → AlikeAfter (of_size 8) session_unit h
  eight_alike e = record {
    fault = λ t.
        let u = h ++ t in
        sym (named u k (kind_after t)
        ∙ of_eight (version_field u) (get_or u 2 0) (length_field u) k e);
    asks = λ t asks. absurd cc;
  }

  pub others_alike : ¬ (k ≡ 0) → ¬ (k ≡ 1) → ¬ (k ≡ 2) → ¬ (k ≡ 3) → ¬ (k ≡ 8) → ¬ (k ≡ 10) →
      AlikeAfter payload_unit session_unit h
  others_alike n0 n1 n2 n3 n8 n10 = record {
    fault = λ t.
        let u = h ++ t in
        let v = version_field u in
        let g = get_or u 2 0 in
        let n = length_field u in
        ap (λ t. header_fault v t g n) (kind_after t)
        ∙ sym (named u k (kind_after t) ∙ of_others v g n k n0 n1 n2 n3 n8 n10);
    asks = λ t asks. more_ask (type_field (h ++ t)) (length (h ++ t)) asks;
  }

module _ (h : List ℕ) (long : 8 ≤ length h) where
  pub report_any : type_field h ≡ 10 → AlikeAfter report_unit session_unit h
  report_any kind = record {
    fault = λ t.
        let u = h ++ t in
        let is : type_field u ≡ 10 = kind_after h long 10 kind t in
        typed_is 10 report_sized u is
        ∙ sym (named u 10 is ∙ of_ten (version_field u) (get_or u 2 0) (length_field u));
    asks = λ t eight. report_asks _ _ (kind_after h long 10 kind t) eight;
  }

-- ---- reading stopped

module _ (kind : Kind) (u : List ℕ) (some : 0 < length u)
    (same : kind.fault u ≡ session_unit.fault u)
    (asks : IsTrue (kind.asks u) → IsTrue (session_unit.asks u)) where
  stops_any : (c : Cause) (left : Option (List ℕ)) → Stops kind c u left → StopsInAny c u left
  stops_any by_reader left s = alike_stops kind session_unit u same asks by_reader left s
  stops_any by_writer left s = s
  stops_any too_many left s = s
  stops_any no_memory left s = alike_stops kind session_unit u same asks no_memory left s
  stops_any (wrong short) left s =
      (alike_stops kind session_unit u same asks (wrong short) left s, some)
  stops_any (wrong (unit_type x)) left s =
      alike_stops kind session_unit u same asks (wrong (unit_type x)) left s
  stops_any (wrong (unit_version x)) left s =
      alike_stops kind session_unit u same asks (wrong (unit_version x)) left s
  stops_any (wrong too_long) left s =
      alike_stops kind session_unit u same asks (wrong too_long) left s
  stops_any (wrong unit_length) left s =
      alike_stops kind session_unit u same asks (wrong unit_length) left s
  stops_any (wrong empty_providers) left s =
      alike_stops kind session_unit u same asks (wrong empty_providers) left s
  stops_any (wrong (refused x)) left s =
      alike_stops kind session_unit u same asks (wrong (refused x)) left s

-- after a header h of type k a fault f stopped reading a unit of this kind
pub stopped : (h : List ℕ) (k : ℕ) (kind : Kind) → length h ≡ 8 → type_field h ≡ k →
    (8 ≤ length h → type_field h ≡ k → AlikeAfter kind session_unit h) → (f : Fault)
    (old new : ReaderState) →
    ReadsAfter kind h (Err (cause_of f)) old new → ReadsAnyAfter h (Err f) old new
stopped h k kind l is alike f old new (bytes, ((t, took, s), counts)) =
    let after = alike (omega (arith, l)) is in (
      (
        t,
        took,
        stops_any kind (h ++ t) (omega (arith, l, length-append h t)) (after.fault t) (after.asks t)
            (cause_of f) new.left s,
      ),
      counts,
    )

-- ---- a header of no unit

pub unknown_header : (v t g n : ℕ) → ¬ (t ≡ 0) → ¬ (t ≡ 1) → ¬ (t ≡ 2) → ¬ (t ≡ 3) → ¬ (t ≡ 4) →
    ¬ (t ≡ 6) → ¬ (t ≡ 7) → ¬ (t ≡ 8) → ¬ (t ≡ 9) → ¬ (t ≡ 10) → ¬ (t ≡ 11) →
    any_header_fault v t g n ≡ Some (unit_type t)
unfolding any_header_fault header_fault
unknown_header v t g n n0 n1 n2 n3 n4 n6 n7 n8 n9 n10 n11 = grind (arith, nat_tests)

-- ---- inside a header

pub header_any : (c : Cause) (t : List ℕ) (left : Option (List ℕ)) → 0 < length t →
    FallsShort 8 c t left → StopsInAny c t left
header_any by_reader t left some s = header_stops session_unit by_reader t left s
header_any by_writer t left some s = s
header_any too_many t left some s = s
header_any no_memory t left some s = absurd s
header_any (wrong short) t left some s = (header_stops session_unit (wrong short) t left s, some)
header_any (wrong (unit_type x)) t left some s = absurd s
header_any (wrong (unit_version x)) t left some s = absurd s
header_any (wrong too_long) t left some s = absurd s
header_any (wrong unit_length) t left some s = absurd s
header_any (wrong empty_providers) t left some s = absurd s
header_any (wrong (refused x)) t left some s = absurd s
