-- What is counted of units one after the other. Only contracts of private functions cite these.
use Rattle.std.specs.Prelude.{◌≡◌, ℕ, ◌+◌, ◌-◌, ◌<◌, ◌≤◌, ◌^◌, ◌==◌, min, Bool, true, false}
use Rattle.std.specs.Prelude.{List, ◌∷◌, length}
use Rattle.std.specs.Prelude.{slice_index, set, Option, Some, None, Result, if◌then◌else◌}
use Rattle.std.specs.BTreeMap.{BTreeMap, get}
use Rattle.std.specs.List.{count_by, flat_map}
use Rattle.std.specs.Map.{count_at}
use Rattle.std.specs.Ordering.{nat_cmp}
use Rattle.std.specs.Vec.{vec_capacity, vec_len}
use Rattle.rtr_units.specs.End.{EndMeaning}
use Rattle.rtr_units.specs.StopCauses.{ReaderState}
use Rattle.rtr_units.specs.declared.fault.Fault.{Fault}
use Rattle.unit_any.specs.AnyFields.{AnyFields, end_of_data}
use Rattle.text_findings.specs.SequenceSoFar.{announces, sequence}
use Rattle.list_lines.specs.Listing.{offset_of}
use Rattle.list_summary.specs.Summaries.{tally, announced_type, other_type, announced_length}
use Rattle.list_summary.specs.Summaries.{announced_as, whole_answer_line, answer_lines}
use Rattle.list_summary.specs.Summaries.{number_lines}
use Rattle.list_summary.specs.Summaries.{withdraws}
use Rattle.list_summary.specs.SummaryStatus.{ReadsUnits}
use Rattle.list_summary.specs.declared.answers.Answer.{Answer}
use Rattle.list_summary.specs.declared.answers.Answers.{Answers}
use Rattle.list_summary.specs.declared.as_counts.AsCounts.{AsCounts}
use Rattle.list_summary.specs.declared.summary.Summary.{Summary}

-- one more of this number, up to the greatest
abbrev pub raised : List ℕ → Option ℕ → List ℕ
raised counts None = counts
raised counts (Some n) = set counts n (min (slice_index counts n + 1) (2 ^ 64 - 1))

-- of each byte it is counted of how many of these units it is the number
pub record HasTallied (number : AnyFields → Option ℕ) (counts : List ℕ) (units : List AnyFields)
    : Type 0 where
  pub long : length counts ≡ 256
  pub each : (k : ℕ) → k < 256 → slice_index counts k ≡ tally number units k

-- how often the AS came
abbrev pub as_count : BTreeMap ℕ ℕ → ℕ → ℕ
as_count counts asn = count_at (get nat_cmp counts) asn

-- one more of this AS, if there is one, up to the greatest
abbrev pub one_more : Option ℕ → (ℕ → ℕ) → ℕ → ℕ
one_more None ases k = ases k
one_more (Some asn) ases k = if asn == k then min (ases asn + 1) (2 ^ 64 - 1) else ases k

-- an AS was counted, if there was one, unless memory for it failed, now or before
pub record CountsAs (asn : Option ℕ) (old new : AsCounts) : Type 0 where
  pub whole : new.is_whole ≡ true → old.is_whole ≡ true
  pub each : new.is_whole ≡ true → (k : ℕ) →
      as_count new.counts k ≡ one_more asn (as_count old.counts) k

-- of each AS it is counted how many prefixes of it these units announce, unless memory failed
abbrev pub HasCounted : AsCounts → List AnyFields → Type 0
HasCounted ases units = ases.is_whole ≡ true → (k : ℕ) →
    as_count ases.counts k ≡ tally announced_as units k

-- the line of an answer that is kept
abbrev pub kept_line : Answer → List ℕ
kept_line answer =
    whole_answer_line answer.session answer.serial answer.announced answer.withdrawn

-- the lines of those that are kept are those of these units, unless memory failed, and what is
-- counted is of the answer that they leave open
pub record HasAnswered (answers : Answers) (units : List AnyFields) : Type 0 where
  pub announced : answers.announced ≡ count_by announces (sequence units)
  pub withdrawn : answers.withdrawn ≡ count_by withdraws (sequence units)
  pub lines : answers.is_whole ≡ true → flat_map kept_line answers.ended.items ≡ answer_lines units

-- what an end of data makes of the open answer
abbrev pub ended_answer : EndMeaning → Answers → Answer
ended_answer end answers = record {
  session = end.session;
  serial = end.serial;
  announced = answers.announced;
  withdrawn = answers.withdrawn;
}

-- whatever units came before, with this one more they are answered
abbrev pub AnswersMore : AnyFields → (old new : Answers) → Type 0
AnswersMore unit old new = (units : List AnyFields) → length units < 2 ^ 64 - 1 →
    HasAnswered old units → HasAnswered new (unit ∷ units)

-- there is no room for another answer, so that memory has to be asked for
abbrev pub IsFullTally : Answers → Type 0
IsFullTally answers = vec_capacity answers.ended ≤ vec_len answers.ended

-- Memory is said to have failed, where it hadn't before, at an end of data alone, whose answer
-- isn't kept, and for which there was no room.
abbrev pub FailsAtEnd : AnyFields → (old new : Answers) → Type 0
FailsAtEnd unit old new = old.is_whole ≡ true → new.is_whole ≡ false →
    ((end : EndMeaning) × (unit ≡ end_of_data end))
    × ((new.ended.items ≡ old.ended.items) × IsFullTally old)

-- the summary is of these units
pub record Sums (s : Summary) (units : List AnyFields) : Type 0 where
  pub bytes : s.bytes ≡ offset_of units
  pub count : s.units ≡ length units
  pub announced : HasTallied announced_type s.announced.counts units
  pub others : HasTallied other_type s.others.counts units
  pub v4_lengths : HasTallied (announced_length 4) s.v4_lengths.counts units
  pub v6_lengths : HasTallied (announced_length 6) s.v6_lengths.counts units
  pub ases : HasCounted s.ases units
  pub answers : HasAnswered s.answers units

-- the text of these numbers
abbrev pub numbers_text : Bool → Summary → List ℕ
numbers_text complete s =
    number_lines complete s.bytes s.units
    (slice_index s.announced.counts) (slice_index s.others.counts)
    (flat_map kept_line s.answers.ended.items)
    (slice_index s.v4_lengths.counts) (slice_index s.v6_lengths.counts) (as_count s.ases.counts)

-- so a call that reads units ended, and the summary is of them
abbrev pub ReadsAndSums : Result (Unit {0}) Fault → Summary → (old new : ReaderState) → Type 0
ReadsAndSums reading s old new =
    (units : List AnyFields) × ReadsUnits reading units old new × Sums s units
