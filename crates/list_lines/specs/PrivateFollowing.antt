-- What a checker knows of the units that it has seen. Only contracts of private functions cite
-- these.
use Rattle.std.specs.Prelude.{◌≡◌, Bool, cond, List, ◌∷◌, Option, Some}
use Rattle.std.specs.BTreeMap.{is_at}
use Rattle.rtr_payload.specs.FaultSteps.{rule_of}
use Rattle.rtr_payload.specs.Payloads.{Payload, origin, key, aspa}
use Rattle.rtr_payload.specs.RouteOrigins.{meant_origin}
use Rattle.rtr_payload.specs.UnitFields.{Fields, prefix_unit, key_unit, aspa_unit}
use Rattle.data_memory.specs.Data.{has_name, name_cmp, name_of}
use Rattle.unit_any.specs.AnyFields.{AnyFields}
use Rattle.text_findings.specs.CheckedUnits.{known_after}
use Rattle.text_findings.specs.KeptNames.{IsAnnouncedAs}
use Rattle.text_findings.specs.Rules.{findings}
use Rattle.text_findings.specs.SequenceSoFar.{sequence, after_unit, announced, named_by}
use Rattle.text_findings.specs.SequenceSoFar.{origin_under}
use Rattle.list_lines.specs.declared.check.Checker.{Checker}
use Rattle.text_findings.specs.declared.finding.Finding.{Finding}

-- the payload that a payload unit is about, an ASPA with its providers
abbrev pub payload_in : Fields → Option Payload
payload_in (prefix_unit u) =
    origin_under (rule_of (prefix_unit u)) (origin (meant_origin u.origin))
payload_in (key_unit u) = Some (key u.key)
payload_in (aspa_unit u) = Some (aspa u.aspa)

-- the name of the payload is there afterwards or isn't, as is said, and other names are as before
abbrev pub Names : (old new : List Payload) → Payload → Bool → Type 0
Names old new p there = (q : Payload) →
    has_name new q ≡ cond (is_at (name_cmp p) q) there (has_name old q)

-- what is announced in a sequence of these units, of ASPAs by their customers
abbrev pub KnowsNames : List Payload → List AnyFields → Type 0
KnowsNames d units = (p : Payload) → has_name d p ≡ announced units (name_of p)

-- Where the data have what is announced in any sequence, it is said rightly whether the payload of
-- the unit is, and then they have what is announced in the sequence with the unit.
abbrev pub KeepsNames : (old : List Payload) → AnyFields → Bool → (new : List Payload) → Type 0
KeepsNames old unit there new = (units : List AnyFields) → KnowsNames old units →
    IsAnnouncedAs there units (named_by unit) × KnowsNames new (after_unit unit units)

-- the checker has seen these units, newest first
abbrev pub HasSeen : Checker → List AnyFields → Type 0
HasSeen checker history =
    (checker.state ≡ known_after history) × KnowsNames checker.announced (sequence history)

-- Of a checker that has seen any units, the next one breaks exactly the rules that are found, and
-- then the checker has seen it too.
abbrev pub Finds : Checker → AnyFields → Checker → List Finding → Type 0
Finds old unit new found = (history : List AnyFields) → HasSeen old history →
    (found ≡ findings history unit) × HasSeen new (unit ∷ history)
