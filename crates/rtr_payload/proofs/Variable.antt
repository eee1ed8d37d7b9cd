-- Where reading a router key or an ASPA unit stops, and what was read.
use Rattle.std.proofs.Common.{◌≡◌, ◌≢◌, ℕ, ◌+◌, ◌%◌, ◌<◌, ◌≤◌, List, [], ◌++◌, length, Option, Some}
use Rattle.std.proofs.Common.{None, Err, refl, ◌⊎◌, ap, ◌∙◌, arith, inl, inr}
use Rattle.std.proofs.lemmas.Bool.Decides.{nat_tests}
use Rattle.std.proofs.KnownBytes.{Consumes-nil}
use Rattle.std.proofs.lemmas.List.{length-append}
use Rattle.rtr_base.specs.Bytes.{IsBytes}
use Rattle.rtr_base.proofs.Numbers.{IsBytes-append}
use Rattle.rtr_units.specs.StopCauses.{Refusal, short, unit_type, unit_version, too_long}
use Rattle.rtr_units.specs.StopCauses.{unit_length}
use Rattle.rtr_units.specs.StopCauses.{empty_providers, refused, Cause, by_reader}
use Rattle.rtr_units.specs.StopCauses.{by_writer, too_many, no_memory, wrong}
use Rattle.rtr_units.specs.Header.{length_field}
use Rattle.rtr_units.specs.HeaderBytes.{AreBytes}
use Rattle.rtr_units.proofs.Headers.{same_header}
use Rattle.rtr_units.specs.Reading.{IsWhole, AsksAfter, Stops, Reads}
use Rattle.rtr_units.specs.StopCauses.{ReaderState}
use Rattle.rtr_units.proofs.UnitsRead.{ByHeader, rest_stops, rest_whole, at_header}
use Rattle.rtr_payload.specs.PrivateFrames.{StopsInFrame}
use Rattle.rtr_payload.specs.UnitKinds.{IsRefusedBy, variable_unit}
use Rattle.rtr_payload.specs.FirstFault.{header_fault}
use Rattle.rtr_payload.proofs.Reading.{never_short}

-- ---- headers that are refused

pub key_too_long : (v g n : ℕ) → 65535 < n → header_fault v 9 g n ≡ Some too_long
unfolding header_fault
key_too_long v g n h = grind (arith, nat_tests)

pub key_length : (v g n : ℕ) → n < 32 → header_fault v 9 g n ≡ Some unit_length
unfolding header_fault
key_length v g n h = grind (arith, nat_tests)

pub aspa_too_long : (v g n : ℕ) → 65535 < n → header_fault v 11 g n ≡ Some too_long
unfolding header_fault
aspa_too_long v g n h = grind (arith, nat_tests)

pub aspa_short : (v g n : ℕ) → n < 12 → header_fault v 11 g n ≡ Some unit_length
unfolding header_fault
aspa_short v g n h = grind (arith, nat_tests)

pub aspa_uneven : (v g n : ℕ) → n ≤ 65535 → n % 4 ≢ 0 → header_fault v 11 g n ≡ Some unit_length
unfolding header_fault
aspa_uneven v g n h k = grind (arith, nat_tests)

pub aspa_empty : (v g : ℕ) → g % 2 ≡ 1 → header_fault v 11 g 12 ≡ Some empty_providers
unfolding header_fault
aspa_empty v g h = grind (arith, nat_tests)

-- what is wrong with a header stops reading right after it
module _ (k : ℕ) (h : List ℕ) where
  stops_at : (f : Refusal) (left : Option (List ℕ)) → length h ≡ 8 →
      (variable_unit k).fault h ≡ Some f → Stops (variable_unit k) (wrong f) (h ++ []) left
  stops_at short left l e = absurd (never_short _ _ _ _ e)
  stops_at (unit_type x) left l e = at_header (variable_unit k) (unit_type x) h l e
  stops_at (unit_version x) left l e = at_header (variable_unit k) (unit_version x) h l e
  stops_at too_long left l e = at_header (variable_unit k) too_long h l e
  stops_at unit_length left l e = at_header (variable_unit k) unit_length h l e
  stops_at empty_providers left l e = at_header (variable_unit k) empty_providers h l e
  stops_at (refused x) left l e = at_header (variable_unit k) (refused x) h l e

  pub header_stops : (c : Cause) (a : ReaderState) → length h ≡ 8 →
      IsRefusedBy ((variable_unit k).fault h) c → Reads (variable_unit k) h (Err c) a a
  header_stops by_reader a l e = absurd e
  header_stops by_writer a l e = absurd e
  header_stops too_many a l e = absurd e
  header_stops no_memory a l e = absurd e
  header_stops (wrong f) a l e = (([], Consumes-nil a.left, stops_at f a.left l e), refl)

-- ---- a header in order, and what follows it

-- what is wrong with a header does not change by what follows
pub variable_by : (k : ℕ) → ByHeader (variable_unit k)
variable_by k = record {
  fault = λ h t l.
      let s = same_header h t l in λ i. header_fault (s.version i) k (s.flags i) (s.size i);
}

-- reading a frame stopped, and so did reading the unit
module _ (k n : ℕ) (h : List ℕ) (eight : length h ≡ 8) (order : (variable_unit k).fault h ≡ None)
    (size : length_field h ≡ 8 + n) where
  asked : (t : List ℕ) → (t ≡ []) ⊎ (length t ≡ n) → AsksAfter (variable_unit k) (h ++ t)
  asked t place =
      let l : 8 ≤ length h = omega (arith, eight) in
      let len = length-append h t in
      let same = (same_header h t l).size in
      record {
        header = omega (arith, len, eight);
        asks = refl;
        in_order = (variable_by k).fault h t l ∙ order;
        place = elim place [
          | inl none ↦ inl (omega (arith, len, eight, ap length none))
          | inr all ↦ inr (omega (arith, len, eight, same, size, all))
        ];
      }

  pub frame_stops : (cause : Cause) (t : List ℕ) (left : Option (List ℕ)) →
      StopsInFrame n cause t left → Stops (variable_unit k) cause (h ++ t) left
  frame_stops by_reader t left s =
      rest_stops (variable_unit k) (variable_by k) n h eight order size by_reader t left s
  frame_stops by_writer t left s = s
  frame_stops too_many t left s = s
  frame_stops no_memory t left s = asked t s
  frame_stops (wrong f) t left s =
      rest_stops (variable_unit k) (variable_by k) n h eight order size (wrong f) t left s

-- a header and the frame after it
pub is_read : (k : ℕ) (h t : List ℕ) → AreBytes 8 h → IsBytes t → (variable_unit k).fault h ≡ None →
    length_field h ≡ 8 + length t → IsWhole (variable_unit k) (h ++ t)
is_read k h t (l, hb) tb e size =
    rest_whole (variable_unit k) (variable_by k) (length t) h l e size t
    (IsBytes-append h t hb tb) refl
