-- The rules that `--check` looks for: what of them a unit breaks, after the units that were read
-- before it, newest first.
use Rattle.std.specs.Prelude.{ℕ, ◌+◌, ◌/◌, ◌%◌, ◌^◌, ◌==◌, nat_lt, nat_le, Bool, true, false, not}
use Rattle.std.specs.Prelude.{◌&&◌, List, [], ◌∷◌, ◌++◌, length, Option, Some, None}
use Rattle.std.specs.Prelude.{if◌then◌else◌}
use Rattle.std.specs.Str.{is_utf8}
use Rattle.rtr_base.specs.Actions.{act}
use Rattle.rtr_base.specs.Addresses.{width, cleared}
use Rattle.rtr_base.specs.declared.action.Action.{Action}
use Rattle.rtr_base.specs.declared.action.Action.TheVariants.{Announce, Withdraw}
use Rattle.rtr_base.specs.declared.timing.Timing.{Timing}
use Rattle.session_times.specs.AllowedTimes.{broken_time_rule}
use Rattle.session_times.specs.declared.times.TimeRule.{TimeRule}
use Rattle.rtr_units.specs.Header.{type_field}
use Rattle.rtr_units.specs.PrefixUnits.{OriginParts}
use Rattle.rtr_payload.specs.AspaUnits.{AspaFields}
use Rattle.rtr_payload.specs.FaultSteps.{rule_of}
use Rattle.rtr_payload.specs.Payloads.{Payload}
use Rattle.rtr_payload.specs.UnitFields.{Fields, prefix_unit, key_unit, aspa_unit}
use Rattle.rtr_payload.specs.declared.pdu.prefix_rule.PrefixRule.{PrefixRule}
use Rattle.rtr_payload.specs.declared.pdu.prefix_rule.PrefixRule.TheVariants.{LenOverflow}
use Rattle.rtr_payload.specs.declared.pdu.prefix_rule.PrefixRule.TheVariants.{MaxOverflow}
use Rattle.rtr_payload.specs.declared.pdu.prefix_rule.PrefixRule.TheVariants.{MaxUnderflow}
use Rattle.unit_any.specs.AnyFields.{AnyFields, reset_query, payload, end_of_data, cache_reset}
use Rattle.unit_any.specs.AnyFields.{cache_response, error_report}
use Rattle.text_lines.specs.ReportParts.{report_parts}
use Rattle.text_findings.specs.SequenceSoFar.{given_session, given_version, oldest, sequence}
use Rattle.text_findings.specs.SequenceSoFar.{stage_of}
use Rattle.text_lines.specs.TextLines.{payload_version}
use Rattle.text_findings.specs.SequenceSoFar.{named_by, announces, announced}
use Rattle.text_findings.specs.declared.sequence.Stage.{Stage}
use Rattle.text_findings.specs.declared.sequence.Stage.TheVariants.{Before, Asked, Open, Whole}
use Rattle.text_findings.specs.declared.finding.Finding.{Finding}
use Rattle.text_findings.specs.declared.finding.Finding.TheVariants as rules
use Rattle.text_findings.specs.declared.finding.Layout.{Layout}
use Rattle.text_findings.specs.declared.finding.Layout.TheVariants.{AsRead, LikeOlderDraft}

-- the finding, where the rule is broken
abbrev pub told : Bool → Finding → List Finding
told true finding = finding ∷ []
told false finding = []

-- ---- reserved bytes and flags

-- a reserved byte is zero (RFC 8210 sections 5.1, 5.4, 5.6, 5.7, 5.9 and 5.10; ASPA units as in the
-- Rust crate)
abbrev pub reserved_byte : (place byte : ℕ) → List Finding
reserved_byte place byte = told (not (byte == 0)) (rules.Reserved place)

-- the same of bytes 2 and 3, in the place of a session that the unit has no use for (RFC 8210
-- sections 5.4, 5.6, 5.7 and 5.9)
abbrev pub reserved_session : ℕ → List Finding
reserved_session session =
    reserved_byte 2 (session / 2 ^ 8) ++ reserved_byte 3 (session % 2 ^ 8)

-- all bits of the flags but the lowest are zero (RFC 8210 section 5.1)
abbrev pub reserved_flags : ℕ → List Finding
reserved_flags flags = told (nat_lt 1 flags) rules.Flags

abbrev pub payload_reserved : Fields → List Finding
payload_reserved (prefix_unit u) =
    reserved_session u.session ++ reserved_flags u.flags ++ reserved_byte 11 u.free
payload_reserved (key_unit u) = reserved_flags u.flags ++ reserved_byte 3 u.free
payload_reserved (aspa_unit u) = reserved_flags u.flags ++ reserved_byte 3 u.free

abbrev pub reserved : AnyFields → List Finding
reserved (reset_query version session) = reserved_session session
reserved (cache_reset version session) = reserved_session session
reserved (payload fields) = payload_reserved fields
reserved unit = []

-- ---- prefixes

-- the rule on the lengths that is broken (RFC 8210 sections 5.1, 5.6 and 5.7)
abbrev pub broken_lengths : PrefixRule → Finding
broken_lengths LenOverflow = rules.PrefixLength
broken_lengths MaxOverflow = rules.MaxLength
broken_lengths MaxUnderflow = rules.MaxBelow

-- the rule on the lengths, and where it holds, the bits of the address after the prefix length are
-- zero (this program's own)
abbrev pub prefix_rules : Option PrefixRule → OriginParts → List Finding
prefix_rules (Some rule) o = broken_lengths rule ∷ []
prefix_rules None o =
    told (not (cleared (width o.family) o.prefix_len o.address == o.address)) rules.HostBits

-- ---- router keys and ASPA units

-- the version has such units from `first` on (router keys RFC 8210 section 5.10; ASPA units as in
-- the Rust crate)
abbrev pub lacking : (first version : ℕ) → List Finding
lacking first version = told (nat_lt version first) (rules.Lacks version)

-- How the unit reads: as one of an older draft too, which has flags, a family and the number of
-- providers in the place of the customer, and the customer in that of the first provider, where
-- bytes 2 and 3 are 0, byte 8 and byte 9 are 0 or 1, and bytes 10 and 11 count the providers but
-- that one (this program's own).
abbrev pub layout_of : AspaFields → Layout
layout_of u =
    if (u.flags == 0) && (u.free == 0) && nat_le (u.aspa.customer / 2 ^ 24) 1 &&
    nat_le (u.aspa.customer / 2 ^ 16 % 2 ^ 8) 1 &&
    (u.aspa.customer % 2 ^ 16 + 1 == length u.aspa.providers) then LikeOlderDraft else AsRead

-- a withdrawal has no providers (this program's own)
abbrev pub withdrawn_providers : Action → AspaFields → List Finding
withdrawn_providers Announce u = []
withdrawn_providers Withdraw u =
    told (nat_lt 0 (length u.aspa.providers)) (rules.WithdrawnProviders (layout_of u))

-- each provider is above the one before it (this program's own)
abbrev pub ascend : List ℕ → Bool
ascend (first ∷ second ∷ rest) = nat_lt first second && ascend (second ∷ rest)
ascend providers = true

-- ---- error reports

-- the two parts, the unit and the text, make up the report; it is about no report, and its text is
-- UTF-8 (RFC 8210 section 5.11)
abbrev pub report_rules : Option (List ℕ × List ℕ) → List Finding
report_rules (Some parts) =
    told (type_field parts.0 == 10) rules.ReportOfReport
    ++ told (not (is_utf8 parts.1)) rules.ReportText
report_rules None = rules.ReportParts ∷ []

-- ---- times

abbrev pub broken_times : Option TimeRule → List Finding
broken_times (Some rule) = rules.Times rule ∷ []
broken_times None = []

-- the times of an end of data, which version 0 doesn't have, are within their bounds, and the
-- expire time is longer than the others (RFC 8210 section 6)
abbrev pub time_rules : Option Timing → List Finding
time_rules (Some timing) = broken_times (broken_time_rule timing)
time_rules None = []

-- ---- what the fields of a unit say

abbrev pub payload_rules : Fields → List Finding
payload_rules (prefix_unit u) = prefix_rules (rule_of (prefix_unit u)) u.origin
payload_rules (key_unit u) = lacking 1 u.version
payload_rules (aspa_unit u) =
    lacking 2 u.version ++ withdrawn_providers (act u.flags) u ++
    told (not (ascend u.aspa.providers)) rules.ProviderOrder

abbrev pub field_rules : AnyFields → List Finding
field_rules (payload fields) = payload_rules fields
field_rules (end_of_data meaning) = time_rules meaning.timing
field_rules (error_report version code body) = report_rules (report_parts body)
field_rules unit = []

-- ---- sequences

-- the unit has another number than its sequence, if that has one
abbrev pub differing : (ℕ → ℕ → Finding) → Option ℕ → ℕ → List Finding
differing rule (Some begun) number = told (not (begun == number)) (rule number begun)
differing rule None number = []

-- payload units and an end of data have the version of their sequence (RFC 8210 section 7)
abbrev pub version_rule : List AnyFields → AnyFields → List Finding
version_rule units (payload fields) =
    differing rules.Version (oldest given_version units) (payload_version fields)
version_rule units (end_of_data meaning) =
    differing rules.Version (oldest given_version units) meaning.version
version_rule units unit = []

-- an answer that is open has no end of data
abbrev pub cut_answer : Stage → List Finding
cut_answer Before = []
cut_answer Asked = []
cut_answer Open = rules.CutOff ∷ []
cut_answer Whole = []

-- An end of data has the session of its answer (RFC 8210 section 5.8), and a cache response comes
-- after the end of data of the one before (section 8.1).
abbrev pub answer_rule : List AnyFields → AnyFields → List Finding
answer_rule units (end_of_data meaning) =
    differing rules.Session (oldest given_session units) meaning.session
answer_rule units (cache_response version session) = cut_answer (stage_of units)
answer_rule units unit = []

-- no payload is announced that is announced in the sequence (RFC 8210 sections 5.6, 5.7 and 5.10;
-- ASPA units: this program's own)
abbrev pub repeated : (announcing : Bool) → List AnyFields → Option Payload → List Finding
repeated announcing units (Some p) = told (announcing && announced units p) rules.Twice
repeated announcing units None = []

-- ---- all rules

-- What the unit breaks after all units that were read before it, newest first: the version of its
-- sequence, reserved bytes and flags, what its fields say, and the answer and the payloads of its
-- sequence, in this order.
abbrev pub findings : List AnyFields → AnyFields → List Finding
findings history unit =
    version_rule (sequence history) unit ++ reserved unit ++ field_rules unit ++
    answer_rule (sequence history) unit ++
    repeated (announces unit) (sequence history) (named_by unit)

-- ---- at the end of the input

-- what is missing: an end of data, where an answer is open, or neither an answer nor a query came
-- (this program's own)
abbrev pub missing_at : Stage → List Finding
missing_at Before = rules.NoAnswer ∷ []
missing_at Asked = []
missing_at Open = rules.CutOff ∷ []
missing_at Whole = []

-- what all units break together, newest first
abbrev pub end_findings : List AnyFields → List Finding
end_findings history = missing_at (stage_of (sequence history))
