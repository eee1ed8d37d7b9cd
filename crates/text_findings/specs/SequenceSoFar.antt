-- The sequences of a session, by the units that were read, newest first.
--
-- A sequence goes from a cache response, from the beginning of the input or from an end of data to
-- the next end of data (RFC 8210 section 8; that it may begin otherwise is this program's own).
use Rattle.std.specs.Prelude.{ℕ, Bool, true, false, List, [], ◌∷◌, Option, Some, None}
use Rattle.std.specs.List.{find}
use Rattle.std.specs.Option.{option_or}
use Rattle.std.specs.Ordering.{is_eq}
use Rattle.rtr_base.specs.Actions.{act}
use Rattle.rtr_base.specs.declared.action.Action.{Action}
use Rattle.rtr_base.specs.declared.action.Action.TheVariants.{Announce, Withdraw}
use Rattle.rtr_payload.specs.FaultSteps.{rule_of}
use Rattle.rtr_payload.specs.Orders.{payload_cmp}
use Rattle.rtr_payload.specs.Payloads.{Payload, origin, key, aspa}
use Rattle.rtr_payload.specs.RouteOrigins.{meant_origin}
use Rattle.rtr_payload.specs.UnitFields.{Fields, prefix_unit, key_unit, aspa_unit}
use Rattle.rtr_payload.specs.declared.pdu.prefix_rule.PrefixRule.{PrefixRule}
use Rattle.unit_any.specs.AnyFields.{AnyFields}
use Rattle.text_lines.specs.TextLines.{payload_flags, payload_version}
use Rattle.unit_any.specs.AnyFields.{cache_response, payload, end_of_data, serial_query}
use Rattle.unit_any.specs.AnyFields.{reset_query}
use Rattle.text_findings.specs.declared.sequence.Stage.{Stage}
use Rattle.text_findings.specs.declared.sequence.Stage.TheVariants.{Before, Asked, Open, Whole}

-- the sequence after a unit, where it was `units` before: a cache response begins one (RFC 8210
-- section 5.5), and so does an end of data, which ends the one before it (section 5.8)
abbrev pub after_unit : AnyFields → List AnyFields → List AnyFields
after_unit (cache_response version session) units = cache_response version session ∷ []
after_unit (end_of_data meaning) units = end_of_data meaning ∷ []
after_unit unit units = unit ∷ units

-- the sequence that the next unit goes on with: from the last cache response or end of data on
abbrev pub sequence : List AnyFields → List AnyFields
sequence [] = []
sequence (newest ∷ before) = after_unit newest (sequence before)

-- what the oldest of the units that has it has
abbrev pub oldest : {X : Type 0} → (AnyFields → Option X) → List AnyFields → Option X
oldest field [] = None
oldest field (newest ∷ before) = option_or (oldest field before) (field newest)

-- ---- version and session

-- the version that a unit gives its sequence: cache responses and payload units do, and the oldest
-- of them counts (RFC 8210 section 7)
abbrev pub given_version : AnyFields → Option ℕ
given_version (cache_response version session) = Some version
given_version (payload fields) = Some (payload_version fields)
given_version unit = None

-- the session that a unit gives its sequence: the cache response from which it goes does (RFC 8210
-- section 5.5), and the end of data before a sequence without one (this program's own)
abbrev pub given_session : AnyFields → Option ℕ
given_session (cache_response version session) = Some session
given_session (end_of_data meaning) = Some meaning.session
given_session unit = None

-- ---- answers

-- a query, which a router sends, comes before an answer
abbrev pub asked_at : Stage → Stage
asked_at Before = Asked
asked_at Asked = Asked
asked_at Open = Open
asked_at Whole = Whole

-- Where the units leave the answers: one is open after a cache response and after a payload unit,
-- and an end of data makes it whole (RFC 8210 section 8.1).
abbrev pub stage_of : List AnyFields → Stage
stage_of [] = Before
stage_of (cache_response version session ∷ units) = Open
stage_of (payload fields ∷ units) = Open
stage_of (end_of_data meaning ∷ units) = Whole
stage_of (serial_query version session serial ∷ units) = asked_at (stage_of units)
stage_of (reset_query version session ∷ units) = asked_at (stage_of units)
stage_of (unit ∷ units) = stage_of units

-- ---- payloads

-- the origin of a prefix unit whose lengths break no rule
abbrev pub origin_under : Option PrefixRule → Payload → Option Payload
origin_under None p = Some p
origin_under (Some rule) p = None

-- the payload that a payload unit is about: an origin, where its lengths break no rule, or a key;
-- an ASPA counts by its customer alone (this program's own)
abbrev pub payload_named : Fields → Option Payload
payload_named (prefix_unit u) =
    origin_under (rule_of (prefix_unit u)) (origin (meant_origin u.origin))
payload_named (key_unit u) = Some (key u.key)
payload_named (aspa_unit u) = Some (aspa (record { customer = u.aspa.customer; providers = [] }))

abbrev pub named_by : AnyFields → Option Payload
named_by (payload fields) = payload_named fields
named_by unit = None

abbrev pub is_announce : Action → Bool
is_announce Announce = true
is_announce Withdraw = false

-- by the lowest bit of the flags (RFC 8210 section 5.1)
abbrev pub announces : AnyFields → Bool
announces (payload fields) = is_announce (act (payload_flags fields))
announces unit = false

-- whether a payload is the one that is given
abbrev pub is_same : Option Payload → Payload → Bool
is_same (Some p) q = is_eq (payload_cmp p q)
is_same None q = false

abbrev pub says_announced : Option AnyFields → Bool
says_announced (Some unit) = announces unit
says_announced None = false

-- whether the payload is announced in the units: the newest of those that are about it announces it
abbrev pub announced : List AnyFields → Payload → Bool
announced units p = says_announced (find (λ unit. is_same (named_by unit) p) units)
