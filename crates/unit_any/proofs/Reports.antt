-- Error reports that are read: a header and the frame after it.
use Rattle.std.proofs.Common.{◌≡◌, ℕ, ◌+◌, ◌<◌, ◌≤◌, List, ◌++◌, length, take, drop, Some, None, ap}
use Rattle.std.proofs.Common.{sym, ◌∙◌, arith, length-append}
use Rattle.std.specs.Prelude.{◌==◌, if◌then◌else◌}
use Rattle.std.proofs.lemmas.Bool.Decides.{nat_tests}
use Rattle.std.proofs.lemmas.List.{take_at}
use Rattle.rtr_base.specs.Bytes.{IsBytes}
use Rattle.rtr_base.proofs.Numbers.{IsBytes-append}
use Rattle.rtr_units.specs.StopCauses.{unit_type, too_long, unit_length}
use Rattle.rtr_units.specs.Header.{type_field, length_field}
use Rattle.rtr_units.specs.Reading.{least_length}
use Rattle.rtr_units.specs.HeaderBytes.{AreBytes}
use Rattle.rtr_units.proofs.Headers.{same_header}
use Rattle.unit_any.specs.SessionKinds.{report_unit}
use Rattle.unit_any.specs.Reports.{IsReport}

pub report_in_order : (h : List ℕ) → type_field h ≡ 10 → 16 ≤ length_field h →
    length_field h ≤ 65535 → report_unit.fault h ≡ None
report_in_order h kind least most = grind (arith, nat_tests)

pub report_too_short : (h : List ℕ) → type_field h ≡ 10 → length_field h < 16 →
    report_unit.fault h ≡ Some unit_length
report_too_short h kind less = grind (arith, nat_tests)

pub report_too_long : (h : List ℕ) → type_field h ≡ 10 → 65535 < length_field h →
    report_unit.fault h ≡ Some too_long
report_too_long h kind more = grind (arith, nat_tests)

-- an error report, said by its fields: a header and two lengths at least, and at most 65535 bytes
pub record ReportFields (u : List ℕ) : Type 0 where
  pub kind : type_field u ≡ 10
  pub size : length_field u ≡ length u
  pub least : 16 ≤ length u
  pub most : length u ≤ 65535
  pub are_bytes : IsBytes u

fields_in_order : (t n : ℕ) → (if t == 10 then least_length 16 n else Some (unit_type t)) ≡ None →
    (t ≡ 10) × (16 ≤ n) × (n ≤ 65535)
fields_in_order t n e = grind (arith, nat_tests)

-- both say the same
pub report_fields : (u : List ℕ) → IsReport u → ReportFields u
report_fields u is =
    let p = fields_in_order (type_field u) (length_field u) is.in_order in
    let size = is.size in
    record {
      kind = p.0;
      size = sym size;
      least = omega (arith, p.1);
      most = omega (arith, p.2);
      are_bytes = is.are_bytes;
    }

pub fields_report : (u : List ℕ) → ReportFields u → IsReport u
fields_report u f =
    let size = f.size in
    let least = f.least in
    let most = f.most in
    record {
      header = omega arith;
      in_order = report_in_order u f.kind (omega arith) (omega arith);
      size = sym size;
      are_bytes = f.are_bytes;
    }

pub report_read : (h t : List ℕ) → AreBytes 8 h → IsBytes t → type_field h ≡ 10 →
    16 ≤ length_field h → length_field h ≤ 65535 → length t + 8 ≡ length_field h → IsReport (h ++ t)
report_read h t (l, hb) tb kind least most size =
    let same = same_header h t (omega arith) in
    let all = length-append h t in
    fields_report (h ++ t) (record {
      kind = same.kind ∙ kind;
      size = omega (arith, same.size);
      least = omega arith;
      most = omega arith;
      are_bytes = IsBytes-append h t hb tb;
    })

-- the vector that was filled: the header, and then what was read
pub frame_is : (n : ℕ) (h a b items : List ℕ) → a ≡ h → length h ≡ 8 → length b + 8 ≡ n →
    take n ((a ++ b) ++ drop (length (a ++ b)) items) ≡ h ++ b
frame_is n h a b items e l k =
    take_at (a ++ b) (drop (length (a ++ b)) items) n
    (omega (arith, length-append a b, ap length e))
    ∙ ap (λ l. l ++ b) e
