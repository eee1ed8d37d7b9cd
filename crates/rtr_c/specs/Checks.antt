-- What C gets of the rules that a unit breaks (this library's own).
use Rattle.std.specs.Prelude.{◌≡◌, ℕ, ◌%◌, ◌≤◌, ◌==◌, ◌&&◌, List, [], length, map, take}
use Rattle.std.specs.Prelude.{Bool, true, false, Option, Some, None, Result, Ok, Err, replicate}
use Rattle.std.specs.Prelude.{◌∷◌, slice_index, if◌then◌else◌}
use Rattle.rtr_units.specs.Header.{type_field}
use Rattle.unit_views.specs.declared.fault.ViewFault.{ViewFault}
use Rattle.unit_any.specs.AnyFields.{AnyFields, HasAnyFields}
use Rattle.unit_any.specs.Lengths.{SaysLength}
use Rattle.text_lines.specs.Laying.{Lays}
use Rattle.session_times.specs.declared.times.TimeRule.{TimeRule}
use Rattle.session_times.specs.declared.times.TimeRule.TheVariants as times
use Rattle.text_findings.specs.CheckedUnits.{found_list, known_after}
use Rattle.text_findings.specs.FindingTexts.{finding_of as finding_line}
use Rattle.text_findings.specs.KeptNames.{IsAnnouncedAs, begins_sequence}
use Rattle.text_findings.specs.PayloadNames.{unit_name}
use Rattle.text_findings.specs.Rules.{findings}
use Rattle.text_findings.specs.SequenceSoFar.{announces, named_by, sequence}
use Rattle.text_findings.specs.declared.finding.Finding.{Finding}
use Rattle.text_findings.specs.declared.finding.Finding.TheVariants as rules
use Rattle.text_findings.specs.declared.finding.Layout.{Layout}
use Rattle.text_findings.specs.declared.finding.Layout.TheVariants.{AsRead, LikeOlderDraft}
use Rattle.text_findings.specs.declared.sequence.SequenceState.{SequenceState}
use Rattle.text_findings.specs.declared.sequence.Stage.{Stage}
use Rattle.text_findings.specs.declared.sequence.Stage.TheVariants.{Before, Asked, Open, Whole}
use Rattle.rtr_c.specs.Answers.{rtr_ok}
use Rattle.rtr_c.specs.LineAnswers.{HasNoLine, line_status}
use Rattle.rtr_c.specs.declared.check.RtrCheck.{RtrCheck}
use Rattle.rtr_c.specs.declared.check.RtrChecked.{RtrChecked}
use Rattle.rtr_c.specs.declared.check.RtrFinding.{RtrFinding}
use Rattle.rtr_c.specs.declared.check.RtrNaming.{RtrNaming}
use Rattle.rtr_c.specs.declared.lines.RtrLine.{RtrLine}

-- ---- the state, and findings, in numbers

abbrev pub numbered_stage : ℕ → Stage
numbered_stage n =
    if n == 1 then Asked else if n == 2 then Open else if n == 3 then Whole else Before

abbrev pub only_if : Bool → ℕ → Option ℕ
only_if true n = Some n
only_if false n = None

abbrev pub check_state : RtrCheck → SequenceState
check_state c = record {
  version = only_if c.has_version c.version;
  session = only_if c.has_session c.session;
  stage = numbered_stage c.stage;
}

abbrev pub numbered_layout : ℕ → Layout
numbered_layout n = if n == 1 then LikeOlderDraft else AsRead

-- the rule on times of this number, as rtr_time_rule has it; the last one of any other number
abbrev pub numbered_time_rule : ℕ → TimeRule
numbered_time_rule n =
    if n == 1 then times.Refresh
    else if n == 2 then times.Retry
    else if n == 3 then times.Expire
    else if n == 4 then times.AboveRefresh
    else times.AboveRetry

-- the rule of this number, with its values; none of a number that is none
abbrev pub numbered_rule : (rule value begun : ℕ) → Option Finding
numbered_rule n value begun =
    if n == 1 then Some (rules.Reserved (value % 256))
    else if n == 2 then Some rules.Flags
    else if n == 3 then Some rules.PrefixLength
    else if n == 4 then Some rules.MaxLength
    else if n == 5 then Some rules.MaxBelow
    else if n == 6 then Some rules.HostBits
    else if n == 7 then Some (rules.Version (value % 256) (begun % 256))
    else if n == 8 then Some (rules.Session value begun)
    else if n == 9 then Some rules.CutOff
    else if n == 10 then Some rules.NoAnswer
    else if n == 11 then Some (rules.Lacks (value % 256))
    else if n == 12 then Some (rules.WithdrawnProviders (numbered_layout value))
    else if n == 13 then Some rules.Twice
    else if n == 14 then Some rules.ProviderOrder
    else if n == 15 then Some rules.ReportParts
    else if n == 16 then Some rules.ReportText
    else if n == 17 then Some rules.ReportOfReport
    else if n == 18 then Some (rules.Times (numbered_time_rule value))
    else None

abbrev pub numbered_finding : RtrFinding → Option Finding
numbered_finding f = numbered_rule f.rule f.value f.begun

-- the line of a finding at a unit that stands after this many bytes; of none nothing
abbrev pub told_line : ℕ → Option Finding → List ℕ
told_line offset (Some finding) = finding_line offset finding
told_line offset None = []

-- ---- the unit that is looked at

-- The unit that the input begins with, all of it; or why it is not looked at: by its header, or
-- since not all of it is there.
abbrev pub LooksAt : List ℕ → Result (List ℕ) RtrLine → Type 0
LooksAt input (Ok unit) =
    SaysLength input (Ok (Some (length unit))) × (length unit ≤ length input)
    × (unit ≡ take (length unit) input)
LooksAt input (Err none) =
    (r : Result (Option ℕ) ViewFault) × SaysLength input r × HasNoLine r input none

-- An ASPA is announced without providers. No unit that is looked at is one.
abbrev pub is_bare_aspa : List ℕ → Bool
is_bare_aspa unit =
    (type_field unit == 11) && (slice_index unit 2 % 2 == 1) && (length unit == 12)

-- ---- findings

abbrev pub no_checked : (status detail wanted : ℕ) → RtrChecked
no_checked status detail wanted = record {
  size = 0;
  wanted = wanted;
  findings = replicate 7 (record { value = 0; begun = 0; rule = 0 });
  status = status;
  detail = detail;
}

-- What the unit, which has these bytes, breaks after any units of which the state is that of the
-- caller, where the caller says rightly whether its payload is announced; and the state after it.
pub record ChecksUnit (unit : List ℕ) (there : Bool) (old new : RtrCheck) (a : RtrChecked)
    (code : ℕ) : Type 0 where
  pub size : a.size ≡ length unit
  pub wanted : a.wanted ≡ 0
  pub status : a.status ≡ rtr_ok
  pub detail : a.detail ≡ 0
  pub answered : code ≡ rtr_ok
  pub found : (f : AnyFields) → HasAnyFields unit f → (history : List AnyFields) →
      check_state old ≡ known_after history → IsAnnouncedAs there (sequence history) (named_by f) →
      found_list (map numbered_finding a.findings) ≡ findings history f
  pub goes_on : (f : AnyFields) → HasAnyFields unit f → (history : List AnyFields) →
      check_state old ≡ known_after history → check_state new ≡ known_after (f ∷ history)

abbrev pub Checks : Result (List ℕ) RtrLine → Bool → (old new : RtrCheck) → RtrChecked → ℕ → Type 0
Checks (Ok unit) there old new a code = ChecksUnit unit there old new a code
Checks (Err none) there old new a code =
    (a ≡ no_checked none.status none.detail none.wanted) × (new ≡ old) × (code ≡ none.status)

-- ---- names

abbrev pub no_named : (status detail wanted : ℕ) → RtrNaming
no_named status detail wanted = record {
  size = 0;
  length = 0;
  wanted = wanted;
  status = status;
  detail = detail;
  begins = false;
  announces = false;
}

-- The name of the payload that the unit announces or withdraws was laid over the front of the
-- output, as far as that has room; its length is answered in full.
pub record NamesUnit (unit before after : List ℕ) (a : RtrNaming) (code : ℕ) : Type 0 where
  pub size : a.size ≡ length unit
  pub wanted : a.wanted ≡ 0
  pub detail : a.detail ≡ 0
  pub status : a.status ≡ line_status a.length (length before)
  pub answered : code ≡ line_status a.length (length before)
  pub laid : (f : AnyFields) → HasAnyFields unit f → Lays (unit_name f) 0 before a.length after
  pub starts : (f : AnyFields) → HasAnyFields unit f → a.begins ≡ begins_sequence f
  pub adds : (f : AnyFields) → HasAnyFields unit f → a.announces ≡ announces f

abbrev pub NamesTold : Result (List ℕ) RtrLine → (before after : List ℕ) → RtrNaming → ℕ →
    Type 0
NamesTold (Ok unit) before after a code = NamesUnit unit before after a code
NamesTold (Err none) before after a code =
    (a ≡ no_named none.status none.detail none.wanted) × (after ≡ before) × (code ≡ none.status)
