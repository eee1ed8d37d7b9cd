-- Bytes whose type, version and length field say so are an end of data.
use Rattle.std.proofs.Common.{◌≡◌, ℕ, ◌≤◌, ◌++◌, ◌⊎◌, List, [], length, refl, take, drop, ap, ◌∙◌}
use Rattle.std.proofs.Common.{arith, eqb}
use Rattle.std.proofs.lemmas.Bool.{cond-false, ne_eqb}
use Rattle.std.proofs.lemmas.Bool.Decides.{nat_tests}
use Rattle.rtr_base.specs.Bytes.{be, value, IsBytes}
use Rattle.rtr_base.proofs.Cuts.{cut_number, cut_end, number_fits}
use Rattle.rtr_units.specs.End.{IsEnd, timing_fields, untimed_meaning, timed_meaning}
use Rattle.rtr_units.specs.Header.{header, version_field, type_field, session_field, length_field}
use Rattle.rtr_units.specs.AnyEnd.{end_length, end_unit}
use Rattle.rtr_units.specs.Reading.{of_size}
use Rattle.rtr_units.proofs.Headers.{header_read, session_fits, same_header}
use Rattle.rtr_units.proofs.UnitsRead.{AlikeAfter}

pub untimed_has : (b : List ℕ) → IsBytes b → version_field b ≡ 0 → type_field b ≡ 7 →
    length b ≡ 12 → length_field b ≡ 12 → IsEnd b (untimed_meaning b)
untimed_has b h v t l e =
    let serial = value (take 4 (drop 8 b)) in
    record {
      fits = record {
        session = session_fits b h (omega arith);
        serial = number_fits b 8 4 h (omega arith);
        timing = refl;
      };
      bytes =
          header_read b _ h (omega arith) (cut_number b [] 8 4 h (omega arith) (cut_end b 12 l))
          ∙ (λ i. header (v i) (t i) (session_field b) (e i) ++ be serial 4);
    }

pub timed_has : (b : List ℕ) → IsBytes b → (version_field b ≡ 1) ⊎ (version_field b ≡ 2) →
    type_field b ≡ 7 → length b ≡ 24 → length_field b ≡ 24 → IsEnd b (timed_meaning b)
timed_has b h v t l e =
    let serial = value (take 4 (drop 8 b)) in
    let times = timing_fields b in
    let after = cut_number b _ 8 4 h (omega arith)
    (cut_number b _ 12 4 h (omega arith)
    (cut_number b _ 16 4 h (omega arith)
    (cut_number b [] 20 4 h (omega arith) (cut_end b 24 l)))) in
    record {
      fits = record {
        session = session_fits b h (omega arith);
        serial = number_fits b 8 4 h (omega arith);
        timing = (
          v,
          number_fits b 12 4 h (omega arith),
          number_fits b 16 4 h (omega arith),
          number_fits b 20 4 h (omega arith),
        );
      };
      bytes =
          header_read b _ h (omega arith) after
          ∙ (λ i.
          header (version_field b) (t i) (session_field b) (e i) ++
          (be serial 4 ++ be times.refresh 4 ++ be times.retry 4 ++ be times.expire 4));
    }

-- after a header of version 0 an end of data is a unit of 12 bytes, and after one of version 1 or 2
-- of 24
module _ (h : List ℕ) (eight : length h ≡ 8) where
  sized : (n : ℕ) → version_field h ≤ 2 → end_length (version_field h) ≡ n →
      AlikeAfter (of_size n) end_unit h
  sized n small is = record {
    fault = λ t.
        let same = (same_header h t (omega (arith, eight))).version in
        let size = ap end_length same ∙ is in
        grind (arith, nat_tests, same, size);
    asks = λ t asks. asks;
  }

  pub end_of_zero : version_field h ≡ 0 → AlikeAfter (of_size 12) end_unit h
  end_of_zero zero = sized 12 (omega (arith, zero)) (ap end_length zero)

  pub end_of_later : version_field h ≤ 2 → ¬ (version_field h ≡ 0) →
      AlikeAfter (of_size 24) end_unit h
  end_of_later small later =
      sized 24 small
      (cond-false (eqb (version_field h) 0) 12 24 (ne_eqb (version_field h) 0 later))
