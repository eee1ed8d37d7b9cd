-- What a line for people says of a unit: this program's own. Numbers are in decimal, addresses as
-- std writes them (IPv6 as RFC 5952), bytes in hex, and key info in base64 for URLs without padding
-- (RFC 4648 section 5).
use Rattle.std.specs.Prelude.{ℕ, List, [], ◌++◌, codes, decimal, Option, Some, None, flat_map}
use Rattle.std.specs.Char.Escape.{escape_ascii}
use Rattle.base64.specs.Engines.{url_safe_no_pad}
use Rattle.base64.specs.GeneralPurpose.{encode_of}
use Rattle.hex.specs.Hex.{encode_lower}
use Rattle.rtr_base.specs.declared.timing.Timing.{Timing}
use Rattle.rtr_base.specs.Actions.{act}
use Rattle.rtr_base.specs.declared.action.Action.{Action}
use Rattle.rtr_base.specs.declared.action.Action.TheVariants.{Announce, Withdraw}
use Rattle.rtr_base.specs.Addresses.{Family, v4, v6}
use Rattle.rtr_base.specs.PlainTexts.{action_text, address_text, asn_text, error_code_text}
use Rattle.rtr_units.specs.PrefixUnits.{OriginParts}
use Rattle.rtr_payload.specs.Payloads.{AspaParts, KeyParts}
use Rattle.rtr_payload.specs.PayloadTexts.{each_text}
use Rattle.rtr_payload.specs.UnitFields.{Fields, prefix_unit, key_unit, aspa_unit, meaning}
use Rattle.rtr_payload.specs.UnitFields.{written_fields}
use Rattle.unit_any.specs.AnyFields.{AnyFields, serial_notify, serial_query, reset_query}
use Rattle.unit_any.specs.AnyFields.{cache_response, payload, end_of_data, cache_reset}
use Rattle.unit_any.specs.AnyFields.{error_report}
use Rattle.text_lines.specs.ReportParts.{report_parts}

-- ---- the version of the protocol (RFC 8210 section 5.1)

abbrev pub payload_version : Fields → ℕ
payload_version (prefix_unit u) = u.version
payload_version (key_unit u) = u.version
payload_version (aspa_unit u) = u.version

abbrev pub fields_version : AnyFields → ℕ
fields_version (serial_notify version session serial) = version
fields_version (serial_query version session serial) = version
fields_version (reset_query version session) = version
fields_version (cache_response version session) = version
fields_version (payload fields) = payload_version fields
fields_version (end_of_data meaning) = meaning.version
fields_version (cache_reset version session) = version
fields_version (error_report version code body) = version

-- ---- payload units

abbrev pub payload_flags : Fields → ℕ
payload_flags (prefix_unit u) = u.flags
payload_flags (key_unit u) = u.flags
payload_flags (aspa_unit u) = u.flags

abbrev pub family_words : Family → List ℕ
family_words v4 = codes " IPv4 prefix"
family_words v6 = codes " IPv6 prefix"

abbrev pub kind_words : Fields → List ℕ
kind_words (prefix_unit u) = family_words u.origin.family
kind_words (key_unit u) = codes " router key"
kind_words (aspa_unit u) = codes " ASPA"

-- 192.0.2.10/23-26 AS65551
abbrev pub origin_words : OriginParts → List ℕ
origin_words o =
    codes " " ++ address_text o.family o.address ++ codes "/" ++ decimal o.prefix_len
    ++ codes "-" ++ decimal o.max_len ++ codes " " ++ asn_text o.asn

-- 0102030405060708090a0b0c0d0e0f1011121314 AS65551 FRYXGA
abbrev pub key_words : KeyParts → List ℕ
key_words k =
    codes " " ++ encode_lower k.identifier ++ codes " " ++ asn_text k.asn
    ++ codes " " ++ encode_of url_safe_no_pad k.info

-- AS65551 providers AS65549 AS65550, with all providers
abbrev pub aspa_words : AspaParts → List ℕ
aspa_words a = codes " " ++ asn_text a.customer ++ codes " providers" ++ each_text a.providers

abbrev pub parts_words : Fields → List ℕ
parts_words (prefix_unit u) = origin_words u.origin
parts_words (key_unit u) = key_words u.key
parts_words (aspa_unit u) = aspa_words u.aspa

-- the kind, "announce" or "withdraw" by the flags, and the parts
abbrev pub payload_words : Fields → List ℕ
payload_words fields =
    kind_words fields ++ codes " " ++ action_text (act (payload_flags fields)) ++ parts_words fields

-- what a payload unit announces or withdraws, as a line of its own: the kind and the parts, after a
-- space: IPv4 prefix 192.0.2.0/23-26 AS65551
abbrev pub payload_said : Fields → List ℕ
payload_said fields = kind_words fields ++ parts_words fields

abbrev pub sign_of : Action → List ℕ
sign_of Announce = codes "+"
sign_of Withdraw = codes "-"

-- the fields of the written form of a unit: without the bits of an address after the prefix length,
-- and without the providers of a withdrawn ASPA, as these mean nothing
abbrev pub meant_fields : Fields → Fields
meant_fields fields =
    written_fields (payload_version fields) (payload_flags fields) (meaning fields).payload

-- the line of a payload unit with its sign: + IPv4 prefix 192.0.2.0/23-26 AS65551
abbrev pub signed_said : Fields → List ℕ
signed_said fields = sign_of (act (payload_flags fields)) ++ payload_said fields

-- the line of the change that a payload unit makes
abbrev pub change_said : Fields → List ℕ
change_said fields = signed_said (meant_fields fields)

-- the same of any unit; the others make no change
abbrev pub change_text : AnyFields → List ℕ
change_text (payload fields) = change_said fields
change_text unit = []

-- ---- the other units

-- refresh 3600 retry 600 expire 7200, where there are timings
abbrev pub timing_words : Option Timing → List ℕ
timing_words None = []
timing_words (Some t) =
    codes " refresh " ++ decimal t.refresh ++ codes " retry " ++ decimal t.retry
    ++ codes " expire " ++ decimal t.expire

-- the parts of an error report: the unit in hex, and the text with escapes for what isn't ASCII
-- that prints
abbrev pub report_words : Option (List ℕ × List ℕ) → List ℕ
report_words None = codes " with lengths that do not fit"
report_words (Some (pdu, text)) =
    codes " pdu \"" ++ encode_lower pdu
    ++ codes "\" text \"" ++ flat_map escape_ascii text ++ codes "\""

-- the words of a unit that follow its version
abbrev pub unit_words : AnyFields → List ℕ
unit_words (serial_notify version session serial) =
    codes " serial notify session " ++ decimal session ++ codes " serial " ++ decimal serial
unit_words (serial_query version session serial) =
    codes " serial query session " ++ decimal session ++ codes " serial " ++ decimal serial
unit_words (reset_query version session) = codes " reset query"
unit_words (cache_response version session) = codes " cache response session " ++ decimal session
unit_words (payload fields) = payload_words fields
unit_words (end_of_data meaning) =
    codes " end of data session " ++ decimal meaning.session
    ++ codes " serial " ++ decimal meaning.serial ++ timing_words meaning.timing
unit_words (cache_reset version session) = codes " cache reset"
unit_words (error_report version code body) =
    codes " error report code " ++ error_code_text code ++ report_words (report_parts body)

-- the line of a unit that stands after this many bytes
abbrev pub unit_text : ℕ → AnyFields → List ℕ
unit_text offset fields =
    decimal offset ++ codes " v" ++ decimal (fields_version fields) ++ unit_words fields
