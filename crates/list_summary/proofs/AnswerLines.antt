-- Answers of units that are taken one after the other.
use Rattle.std.proofs.Common.{◌≡◌, ℕ, ◌+◌, ◌-◌, ◌^◌, ◌<◌, ◌≤◌, min, cond, List, [], ◌∷◌, ◌++◌}
use Rattle.std.proofs.Common.{length, Bool, true, false, refl, sym, ap, ◌∙◌, arith}
use Rattle.std.specs.List.{count_by, flat_map}
use Rattle.std.specs.Prelude.{◌==◌, if◌then◌else◌, not}
use Rattle.std.proofs.lemmas.List.{flat_map_more}
use Rattle.std.proofs.lemmas.List.Sums.{count_by-le-length, sum_by-cons}
use Rattle.text_findings.specs.SequenceSoFar.{after_unit, announces, sequence}
use Rattle.rtr_units.specs.End.{EndMeaning}
use Rattle.rtr_payload.specs.UnitFields.{Fields}
use Rattle.unit_any.specs.AnyFields.{AnyFields, serial_notify, serial_query, reset_query}
use Rattle.unit_any.specs.AnyFields.{cache_response, payload, end_of_data, cache_reset}
use Rattle.unit_any.specs.AnyFields.{error_report}
use Rattle.list_summary.specs.PrivateTallies.{AnswersMore, ended_answer, kept_line}
use Rattle.list_summary.specs.Summaries.{lines_or_none, withdraws}
use Rattle.list_summary.specs.declared.answers.Answer.{Answer}
use Rattle.list_summary.specs.declared.answers.Answers.{Answers}

count_cons : (p : AnyFields → Bool) (unit : AnyFields) (units : List AnyFields) →
    count_by p (unit ∷ units) ≡ cond (p unit) 1 0 + count_by p units
count_cons p unit units = sum_by-cons (λ (u : AnyFields). cond (p u) 1 0) unit units

-- a sequence is of no more units than there are
after_most : (u : AnyFields) (units : List AnyFields) →
    length (after_unit u units) ≤ length units + 1
after_most (serial_notify v s n) units = omega arith
after_most (serial_query v s n) units = omega arith
after_most (reset_query v s) units = omega arith
after_most (cache_response v s) units = omega arith
after_most (payload f) units = omega arith
after_most (end_of_data e) units = omega arith
after_most (cache_reset v s) units = omega arith
after_most (error_report v c b) units = omega arith

sequence_most : (units : List AnyFields) → length (sequence units) ≤ length units
sequence_most [] = omega arith
sequence_most (u ∷ units) = omega (arith, after_most u (sequence units), sequence_most units)

count_most : (p : AnyFields → Bool) (units : List AnyFields) →
    count_by p (sequence units) ≤ length units
count_most p units =
    omega (arith, count_by-le-length p (sequence units), sequence_most units)

-- ---- one unit more

pub takes_end : (e : EndMeaning) (old new : Answers) →
    (new.is_whole ≡ true → old.is_whole ≡ true) →
    (new.is_whole ≡ true → new.ended.items ≡ old.ended.items ++ ended_answer e old ∷ []) →
    new.announced ≡ 0 → new.withdrawn ≡ 0 → AnswersMore (end_of_data e) old new
takes_end e old new whole ended announced withdrawn units room h = record {
  announced = announced;
  withdrawn = withdrawn;
  lines = λ now.
      ap (λ (l : List Answer). flat_map kept_line l) (ended now)
      ∙ sym (flat_map_more kept_line [] old.ended.items (ended_answer e old))
      ∙ cc (h.lines (whole now), h.announced, h.withdrawn);
}

-- a counter that was raised where the unit counts
raised_by : (is : Bool) (p : AnyFields → Bool) (unit : AnyFields) (units : List AnyFields)
    (old new : ℕ) → p unit ≡ is → length units < 2 ^ 64 - 1 →
    old ≡ count_by p (sequence units) → sequence (unit ∷ units) ≡ unit ∷ sequence units →
    new ≡ (if is then min (old + 1) (2 ^ 64 - 1) else old) →
    new ≡ count_by p (sequence (unit ∷ units))
raised_by true p unit units old new is room h same rises =
    rw same (rw (count_cons p unit (sequence units)) (rw is
    (omega (arith, rises, h, count_most p units))))
raised_by false p unit units old new is room h same rises =
    rw same (rw (count_cons p unit (sequence units)) (rw is (omega (arith, rises, h))))

if_not : (b : Bool) (m n : ℕ) → (if b then m else n) ≡ (if not b then n else m)
if_not true m n = refl
if_not false m n = refl

pub takes_payload : (f : Fields) (is : Bool) (old new : Answers) → is ≡ announces (payload f) →
    new.ended.items ≡ old.ended.items → new.is_whole ≡ old.is_whole →
    new.announced ≡ (if is then min (old.announced + 1) (2 ^ 64 - 1) else old.announced) →
    new.withdrawn ≡ (if is then old.withdrawn else min (old.withdrawn + 1) (2 ^ 64 - 1)) →
    AnswersMore (payload f) old new
takes_payload f is old new same ended whole announced withdrawn units room h = record {
  announced =
      raised_by is announces (payload f) units old.announced new.announced (sym same) room
      h.announced refl announced;
  withdrawn =
      raised_by (not is) withdraws (payload f) units old.withdrawn new.withdrawn
      (ap not (sym same)) room h.withdrawn refl (withdrawn ∙ if_not is _ _);
  lines = λ now.
      ap (λ (l : List Answer). flat_map kept_line l) ended ∙ h.lines (sym whole ∙ now);
}

-- ---- all of them

-- the lines of answers, of which there are some
pub lines_kept : (rows kept : List Answer) (none : Bool) → none ≡ (length rows == 0) →
    none ≡ false → rows ≡ kept →
    flat_map kept_line rows ≡ lines_or_none (flat_map kept_line kept)
lines_kept [] kept none is some same = absurd cc
lines_kept (row ∷ rows) kept none is some same =
    ap (λ (l : List Answer). lines_or_none (flat_map kept_line l)) same
