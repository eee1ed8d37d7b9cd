-- The names of payloads, in bytes: two payloads have one name exactly where they are one to the
-- rules, of ASPAs where their customers are one (this library's own).
use Rattle.std.specs.Prelude.{◌≡◌, ℕ, ◌^◌, ◌<◌, List, [], ◌∷◌, ◌++◌, length, Option, Some, None}
use Rattle.rtr_base.specs.Addresses.{width}
use Rattle.rtr_base.specs.Bytes.{be}
use Rattle.rtr_units.specs.PrefixUnits.{address_bytes, prefix_type}
use Rattle.rtr_payload.specs.Payloads.{Payload, origin, key, aspa}
use Rattle.unit_any.specs.AnyFields.{AnyFields}
use Rattle.text_findings.specs.SequenceSoFar.{named_by}

-- the type of the payload's unit, and its parts: of an ASPA the customer alone
abbrev pub payload_name : Payload → List ℕ
payload_name (origin o) =
    prefix_type o.family ∷ o.prefix_len ∷ o.max_len ∷
    (be o.asn 4 ++ be o.address (address_bytes o.family))
payload_name (key k) = 9 ∷ (be k.asn 4 ++ (k.identifier ++ k.info))
payload_name (aspa a) = 11 ∷ be a.customer 4

abbrev pub option_name : Option Payload → List ℕ
option_name (Some p) = payload_name p
option_name None = []

-- the name of the payload that the unit announces or withdraws: none of a unit without one, and of
-- a prefix whose lengths break a rule
abbrev pub unit_name : AnyFields → List ℕ
unit_name unit = option_name (named_by unit)

-- a payload as units name it: its numbers fit their places (RFC 8210 sections 5.6, 5.7 and 5.10),
-- and of an ASPA the customer alone counts
abbrev pub IsNamed : Payload → Type 0
IsNamed (origin o) = (o.address < 2 ^ width o.family) × (o.asn < 2 ^ 32)
IsNamed (key k) = (length k.identifier ≡ 20) × (k.asn < 2 ^ 32)
IsNamed (aspa a) = (a.customer < 2 ^ 32) × (a.providers ≡ [])
