-- What is found by the state, and the state after a unit, are those of the units that were read.
use Rattle.std.proofs.Common.{◌≡◌, List, [], ◌∷◌, ◌++◌, Option, Some, None, refl, ap, ◌∙◌}
use Rattle.std.proofs.Common.{append_assoc, append-nil}
use Rattle.std.specs.Prelude.{Bool, ◌&&◌}
use Rattle.std.specs.Option.{option_or}
use Rattle.rtr_base.specs.Actions.{act}
use Rattle.rtr_payload.specs.Payloads.{Payload}
use Rattle.unit_any.specs.AnyFields.{AnyFields, serial_notify, serial_query, reset_query}
use Rattle.unit_any.specs.AnyFields.{cache_response, payload, end_of_data, cache_reset}
use Rattle.unit_any.specs.AnyFields.{error_report}
use Rattle.text_lines.specs.TextLines.{payload_flags, payload_version}
use Rattle.text_findings.specs.CheckedUnits.{known_after}
use Rattle.text_findings.specs.KeptNames.{IsAnnouncedAs}
use Rattle.text_findings.specs.PrivateSteps.{again, found_by, state_after}
use Rattle.text_findings.specs.Rules.{told, repeated, findings, differing}
use Rattle.text_findings.specs.Rules.{cut_answer, reserved, field_rules, payload_reserved}
use Rattle.text_findings.specs.Rules.{payload_rules, time_rules}
use Rattle.text_findings.specs.SequenceSoFar.{given_session, given_version, is_announce}
use Rattle.text_findings.specs.SequenceSoFar.{named_by, oldest, payload_named, sequence, stage_of}
use Rattle.text_findings.specs.declared.finding.Finding.{Finding}
use Rattle.text_findings.specs.declared.finding.Finding.TheVariants as rules
use Rattle.text_findings.specs.declared.sequence.SequenceState.{SequenceState}
use Rattle.text_findings.specs.declared.sequence.Stage.{Stage}

-- ---- findings

again_is : (announces there : Bool) (units : List AnyFields) (o : Option Payload) →
    IsAnnouncedAs there units o → again (announces && there) o ≡ repeated announces units o
again_is announces there units (Some p) h = ap (λ b. told (announces && b) rules.Twice) h
again_is announces there units None h = refl

payload_in_turn : (a b c d : List Finding) → a ++ (b ++ (c ++ d)) ≡ a ++ b ++ c ++ [] ++ d
payload_in_turn a b c d = simp (append_assoc, append-nil)

end_in_turn : (a b c : List Finding) → a ++ (b ++ c) ≡ a ++ [] ++ b ++ c ++ []
end_in_turn a b c = simp (append_assoc, append-nil)

own_in_turn : (a b : List Finding) → a ++ b ≡ [] ++ a ++ b ++ [] ++ []
own_in_turn a b = simp (append_assoc, append-nil)

last_in_turn : (a : List Finding) → a ≡ [] ++ [] ++ [] ++ a ++ []
last_in_turn a = simp (append_assoc, append-nil)

pub found_is : (history : List AnyFields) (there : Bool) (unit : AnyFields) →
    IsAnnouncedAs there (sequence history) (named_by unit) →
    found_by (known_after history) there unit ≡ findings history unit
found_is history there (serial_notify v s n) h = refl
found_is history there (serial_query v s n) h = refl
found_is history there (reset_query v s) h =
    own_in_turn (reserved (reset_query v s)) []
found_is history there (cache_response v s) h =
    last_in_turn (cut_answer (stage_of (sequence history)))
found_is history there (payload f) h =
    ap (λ l. differing rules.Version (oldest given_version (sequence history)) (payload_version f)
    ++ (payload_reserved f ++ (payload_rules f ++ l)))
    (again_is (is_announce (act (payload_flags f))) there (sequence history) (payload_named f) h)
    ∙ payload_in_turn
    (differing rules.Version (oldest given_version (sequence history)) (payload_version f))
    (payload_reserved f) (payload_rules f) _
found_is history there (end_of_data m) h =
    end_in_turn (differing rules.Version (oldest given_version (sequence history)) m.version)
    (time_rules m.timing)
    (differing rules.Session (oldest given_session (sequence history)) m.session)
found_is history there (cache_reset v s) h =
    own_in_turn (reserved (cache_reset v s)) []
found_is history there (error_report v c body) h =
    own_in_turn [] (field_rules (error_report v c body))

pub checks : (s : SequenceState) (there : Bool) (unit : AnyFields) (found : List Finding) →
    found ≡ found_by s there unit → (history : List AnyFields) → s ≡ known_after history →
    IsAnnouncedAs there (sequence history) (named_by unit) → found ≡ findings history unit
checks s there unit found is history known said =
    is ∙ ap (λ x. found_by x there unit) known ∙ found_is history there unit said

-- ---- the state

nothing_later : {X : Type 0} (o : Option X) → o ≡ option_or o None
nothing_later (Some x) = refl
nothing_later None = refl

abbrev passed : (units : List AnyFields) (stage : Stage) → SequenceState
passed units stage = record {
  version = option_or (oldest given_version units) None;
  session = option_or (oldest given_session units) None;
  stage = stage;
}

passed_is : (units : List AnyFields) (stage : Stage) → record {
  version = oldest given_version units;
  session = oldest given_session units;
  stage = stage;
} ≡ passed units stage
passed_is units stage = λ i. record {
  version = nothing_later (oldest given_version units) i;
  session = nothing_later (oldest given_session units) i;
  stage = stage;
}

pub state_is : (history : List AnyFields) (unit : AnyFields) →
    state_after (known_after history) unit ≡ known_after (unit ∷ history)
state_is history (serial_notify v s n) = passed_is (sequence history) _
state_is history (serial_query v s n) = passed_is (sequence history) _
state_is history (reset_query v s) = passed_is (sequence history) _
state_is history (cache_response v s) = refl
state_is history (payload f) = λ i. record {
  version = option_or (oldest given_version (sequence history)) (Some (payload_version f));
  session = nothing_later (oldest given_session (sequence history)) i;
  stage = stage_of (payload f ∷ sequence history);
}
state_is history (end_of_data m) = refl
state_is history (cache_reset v s) = passed_is (sequence history) _
state_is history (error_report v c body) = passed_is (sequence history) _

pub goes_on : (s new : SequenceState) (unit : AnyFields) → new ≡ state_after s unit →
    (history : List AnyFields) → s ≡ known_after history → new ≡ known_after (unit ∷ history)
goes_on s new unit is history known =
    is ∙ ap (λ x. state_after x unit) known ∙ state_is history unit
