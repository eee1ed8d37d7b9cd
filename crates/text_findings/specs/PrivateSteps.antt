-- What is found of a unit by what is known of its sequence. Only contracts of private functions
-- cite these.
use Rattle.std.specs.Prelude.{Bool, true, nat_lt, List, [], ◌++◌, ◌&&◌, ℕ, Option, Some, None}
use Rattle.std.specs.Option.{option_or}
use Rattle.rtr_base.specs.Actions.{act}
use Rattle.rtr_payload.specs.AspaUnits.{AspaFields}
use Rattle.rtr_payload.specs.Payloads.{Payload}
use Rattle.rtr_payload.specs.Providers.{words_of}
use Rattle.rtr_payload.specs.UnitFields.{Fields}
use Rattle.unit_any.specs.AnyFields.{AnyFields, cache_response, payload, end_of_data}
use Rattle.unit_any.specs.AnyFields.{serial_query, reset_query}
use Rattle.text_lines.specs.TextLines.{payload_flags, payload_version}
use Rattle.text_lines.specs.declared.listed.ListedAspa.{ListedAspa}
use Rattle.text_findings.specs.Rules.{told, differing, cut_answer, reserved, time_rules}
use Rattle.text_findings.specs.Rules.{field_rules, payload_reserved, payload_rules}
use Rattle.text_findings.specs.SequenceSoFar.{asked_at, is_announce}
use Rattle.text_findings.specs.SequenceSoFar.{payload_named}
use Rattle.text_findings.specs.declared.finding.Finding.{Finding}
use Rattle.text_findings.specs.declared.finding.Finding.TheVariants as rules
use Rattle.text_findings.specs.declared.sequence.SequenceState.{SequenceState}
use Rattle.text_findings.specs.declared.sequence.Stage.TheVariants.{Open, Whole}

-- the fields of a listed ASPA unit
abbrev pub aspa_parts : ListedAspa → AspaFields
aspa_parts a = record {
  version = a.version;
  flags = a.flags;
  free = a.free;
  aspa = record { customer = a.customer; providers = words_of a.providers.now };
}

-- the provider is above the one before it, if there is one
abbrev pub above : Option ℕ → ℕ → Bool
above None provider = true
above (Some last) provider = nat_lt last provider

-- a payload is announced again, where a unit names one
abbrev pub again : Bool → Option Payload → List Finding
again repeats (Some p) = told repeats rules.Twice
again repeats None = []

-- what a payload unit breaks, after the version of its sequence
abbrev pub payload_found : Bool → Fields → List Finding
payload_found there fields =
    payload_reserved fields ++ (payload_rules fields
    ++ again (is_announce (act (payload_flags fields)) && there) (payload_named fields))

-- what the unit breaks, where it is said whether its payload is announced
abbrev pub found_by : SequenceState → Bool → AnyFields → List Finding
found_by s there (payload fields) =
    differing rules.Version s.version (payload_version fields) ++ payload_found there fields
found_by s there (end_of_data meaning) =
    differing rules.Version s.version meaning.version
    ++ (time_rules meaning.timing ++ differing rules.Session s.session meaning.session)
found_by s there (cache_response version session) = cut_answer s.stage
found_by s there unit = reserved unit ++ field_rules unit

-- the state after the unit
abbrev pub state_after : SequenceState → AnyFields → SequenceState
state_after s (serial_query version session serial) = record s { stage = asked_at s.stage }
state_after s (reset_query version session) = record s { stage = asked_at s.stage }
state_after s (cache_response version session) =
    record { version = Some version; session = Some session; stage = Open }
state_after s (payload fields) =
    record s { version = option_or s.version (Some (payload_version fields)); stage = Open }
state_after s (end_of_data meaning) =
    record { version = None; session = Some meaning.session; stage = Whole }
state_after s unit = s
