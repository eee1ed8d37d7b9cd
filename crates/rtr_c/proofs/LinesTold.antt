-- The line of a unit, told to C.
use Rattle.std.proofs.Common.{◌≡◌, ℕ, ◌<◌, ◌≤◌, List, length, take, refl, sym, ap, subst}
use Rattle.std.proofs.Common.{arith, Option, Some, None, Result, Ok, Err}
use Rattle.std.specs.Prelude.{true, false, nat_le}
use Rattle.std.proofs.lemmas.Bool.Decides.{nat_tests}
use Rattle.std.proofs.lemmas.List.{get_or-take, length-take-le}
use Rattle.rtr_units.specs.Header.{type_field, version_field}
use Rattle.unit_views.specs.declared.fault.ViewFault.{ViewFault}
use Rattle.unit_any.specs.AnyFields.{AnyFields}
use Rattle.unit_any.specs.Lengths.{IsBounded, SaysLength}
use Rattle.unit_any.proofs.Lengths.{said_bounded}
use Rattle.text_lines.specs.Laying.{Lays}
use Rattle.text_lines.specs.ListedUnits.{fields_at}
use Rattle.text_lines.proofs.Laid.{lays_said}
use Rattle.text_lines.proofs.ReadBack.{read_back}
use Rattle.rtr_c.specs.LineAnswers.{HasNoLine, TellsLine, TellsNone, TellsLaid, line_status}
use Rattle.rtr_c.specs.PrivateLines.{IsUnitOf, TellsRefusal}
use Rattle.rtr_c.specs.declared.lines.RtrLine.{RtrLine}

-- the text of the fields that stand in a unit, told
told_text : (text : AnyFields → List ℕ) (unit before after : List ℕ) (end : ℕ) →
    Lays (text (fields_at unit)) 0 before end after →
    TellsLaid text unit before after (record {
      size = length unit;
      length = end;
      wanted = 0;
      status = line_status end (length before);
      detail = 0;
    }) (line_status end (length before))
told_text text unit before after end h = record {
  size = refl;
  wanted = refl;
  detail = refl;
  status = refl;
  answered = refl;
  laid = λ f has. lays_said _ (text f) _ _ _ _ (ap text (read_back unit f has)) h;
}

told_whole : (text : AnyFields → List ℕ) (n : ℕ) (input before after : List ℕ) (a : RtrLine)
    (code : ℕ) → n ≤ length input → TellsLaid text (take n input) before after a code →
    TellsLine text (Ok (Some n)) input before after a code
told_whole text n input before after a code h told =
    let t : nat_le n (length input) ≡ true = grind (arith, nat_tests) in rw t told

told_cut : (text : AnyFields → List ℕ) (n : ℕ) (input before after : List ℕ) (a : RtrLine)
    (code : ℕ) (none : RtrLine) → length input < n → TellsNone none before after a code →
    none ≡ record { size = 0; length = 0; wanted = n; status = 1; detail = 0 } →
    TellsLine text (Ok (Some n)) input before after a code
told_cut text n input before after a code none h told is =
    let t : nat_le n (length input) ≡ false = grind (arith, nat_tests) in
    rw t (subst (λ m. TellsNone m before after a code) is told)

line_told_at : (text : AnyFields → List ℕ) (input unit before after : List ℕ) (end : ℕ) →
    IsUnitOf input unit → Lays (text (fields_at unit)) 0 before end after →
    (r : Result (Option ℕ) ViewFault) × SaysLength input r
    × TellsLine text r input before after (record {
      size = length unit;
      length = end;
      wanted = 0;
      status = line_status end (length before);
      detail = 0;
    }) (line_status end (length before))
line_told_at text input unit before after end is h = (
  Ok (Some (length unit)),
  is.said,
  told_whole text (length unit) input before after _ _ is.within
      (subst (λ u. TellsLaid text u before after (record {
        size = length unit;
        length = end;
        wanted = 0;
        status = line_status end (length before);
        detail = 0;
      }) (line_status end (length before))) is.front (told_text text unit before after end h)),
)

pub line_told : (text : AnyFields → List ℕ) (input unit before after : List ℕ) (end : ℕ)
    (a : RtrLine) → a ≡ record {
      size = length unit;
      length = end;
      wanted = 0;
      status = line_status end (length before);
      detail = 0;
    } → IsUnitOf input unit → Lays (text (fields_at unit)) 0 before end after →
    (r : Result (Option ℕ) ViewFault) × SaysLength input r
    × TellsLine text r input before after a a.status
line_told text input unit before after end a e is h =
    subst (λ x. (r : Result (Option ℕ) ViewFault) × SaysLength input r
    × TellsLine text r input before after x x.status) (sym e)
    (line_told_at text input unit before after end is h)

none_told : (text : AnyFields → List ℕ) (input before : List ℕ) (a : RtrLine)
    (r : Result (Option ℕ) ViewFault) → HasNoLine r input a →
    TellsLine text r input before before a a.status
none_told text input before a (Ok None) h = (h, refl, ap (λ x. x.status) h)
none_told text input before a (Ok (Some n)) h =
    told_cut text n input before before a a.status a h.0 (refl, refl, refl) h.1
none_told text input before a (Err e) h = (h, refl, ap (λ x. x.status) h)

pub refusal_told : (text : AnyFields → List ℕ) (input before : List ℕ) (a : RtrLine) →
    TellsRefusal input a → (r : Result (Option ℕ) ViewFault) × SaysLength input r
    × TellsLine text r input before before a a.status
refusal_told text input before a h =
    (h.0, h.1, none_told text input before a h.0 h.2)

-- the front of the input, as long as its header says
pub unit_at_front : (input : List ℕ) (n : ℕ) → SaysLength input (Ok (Some n)) →
    n ≤ length input → IsUnitOf input (take n input)
unit_at_front input n said within =
    let size : length (take n input) ≡ n = length-take-le n input within in
    let bounded = said_bounded input n said in
    record {
      front = ap (λ m. take m input) (sym size);
      within = omega (arith, size, within);
      said = subst (λ m. SaysLength input (Ok (Some m))) (sym size) said;
      bounded =
          subst (λ m. IsBounded (version_field (take n input)) (type_field (take n input)) m)
          (sym size)
          (subst (λ t. IsBounded (version_field (take n input)) t n)
          (sym (get_or-take n input 1 0 (omega (arith, bounded.least))))
          (subst (λ v. IsBounded v (type_field input) n)
          (sym (get_or-take n input 0 0 (omega (arith, bounded.least)))) bounded));
    }
