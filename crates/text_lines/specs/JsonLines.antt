-- What a line of JSON says of a unit: this program's own, with the fields by their names in RFC
-- 8210. It is an object (RFC 8259 section 4), on one line.
use Rattle.std.specs.Prelude.{ℕ, List, [], ◌∷◌, ◌++◌, length, map, codes, decimal}
use Rattle.std.specs.Prelude.{Option, Some, None, if◌then◌else◌}
use Rattle.std.specs.Str.{is_utf8}
use Rattle.base64.specs.Engines.{url_safe_no_pad}
use Rattle.base64.specs.GeneralPurpose.{encode_of}
use Rattle.hex.specs.Hex.{encode_lower}
use Rattle.json.specs.Token.{Token, begin_object, end_object, begin_array, end_array, key, string}
use Rattle.json.specs.Token.{number, null}
use Rattle.json.specs.Print.{print}
use Rattle.rtr_base.specs.declared.timing.Timing.{Timing}
use Rattle.rtr_base.specs.Actions.{act}
use Rattle.rtr_base.specs.Addresses.{Family, v4, v6}
use Rattle.rtr_base.specs.PlainTexts.{action_text, address_text}
use Rattle.rtr_units.specs.PrefixUnits.{OriginParts}
use Rattle.rtr_payload.specs.Payloads.{AspaParts, KeyParts}
use Rattle.rtr_payload.specs.UnitFields.{Fields, prefix_unit, key_unit, aspa_unit}
use Rattle.unit_any.specs.AnyFields.{AnyFields, serial_notify, serial_query, reset_query}
use Rattle.unit_any.specs.AnyFields.{cache_response, payload, end_of_data, cache_reset}
use Rattle.unit_any.specs.AnyFields.{error_report, any_list, any_session}
use Rattle.text_lines.specs.ReportParts.{report_parts}
use Rattle.text_lines.specs.TextLines.{payload_flags, fields_version}
use Rattle.text_lines.specs.ControlEscapes.{escaped}

-- ---- a field by its name

abbrev pub number_field : List ℕ → ℕ → List Token
number_field name n = key name ∷ number (decimal n) ∷ []

abbrev pub text_field : List ℕ → List ℕ → List Token
text_field name text = key name ∷ string text ∷ []

abbrev pub null_field : List ℕ → List Token
null_field name = key name ∷ null ∷ []

abbrev pub number_tokens : List ℕ → List Token
number_tokens ns = map (λ n. number (decimal n)) ns

abbrev pub numbers_field : List ℕ → List ℕ → List Token
numbers_field name ns = key name ∷ begin_array ∷ (number_tokens ns ++ end_array ∷ [])

-- ---- payload units

abbrev pub family_kind : Family → List ℕ
family_kind v4 = codes "ipv4_prefix"
family_kind v6 = codes "ipv6_prefix"

abbrev pub payload_kind : Fields → List ℕ
payload_kind (prefix_unit u) = family_kind u.origin.family
payload_kind (key_unit u) = codes "router_key"
payload_kind (aspa_unit u) = codes "aspa"

-- what RFC 8210 calls zero, in order: bytes 2 and 3, and byte 11, of a prefix unit (sections 5.6
-- and 5.7), byte 3 of the others (section 5.10)
abbrev pub payload_zeros : Fields → List ℕ
payload_zeros (prefix_unit u) = u.session ∷ u.free ∷ []
payload_zeros (key_unit u) = u.free ∷ []
payload_zeros (aspa_unit u) = u.free ∷ []

abbrev pub origin_tokens : OriginParts → List Token
origin_tokens o =
    text_field (codes "prefix") (address_text o.family o.address)
    ++ number_field (codes "prefix_length") o.prefix_len
    ++ number_field (codes "max_length") o.max_len
    ++ number_field (codes "asn") o.asn

abbrev pub key_tokens : KeyParts → List Token
key_tokens k =
    text_field (codes "subject_key_identifier") (encode_lower k.identifier)
    ++ number_field (codes "asn") k.asn
    ++ text_field (codes "subject_public_key_info") (encode_of url_safe_no_pad k.info)

-- with all providers
abbrev pub aspa_tokens : AspaParts → List Token
aspa_tokens a =
    number_field (codes "customer_asn") a.customer
    ++ numbers_field (codes "provider_asns") a.providers

abbrev pub parts_tokens : Fields → List Token
parts_tokens (prefix_unit u) = origin_tokens u.origin
parts_tokens (key_unit u) = key_tokens u.key
parts_tokens (aspa_unit u) = aspa_tokens u.aspa

abbrev pub payload_tokens : Fields → List Token
payload_tokens fields =
    number_field (codes "flags") (payload_flags fields)
    ++ text_field (codes "action") (action_text (act (payload_flags fields)))
    ++ numbers_field (codes "zero") (payload_zeros fields)
    ++ parts_tokens fields

-- ---- the other units

abbrev pub timing_tokens : Option Timing → List Token
timing_tokens None = []
timing_tokens (Some t) =
    number_field (codes "refresh_interval") t.refresh
    ++ number_field (codes "retry_interval") t.retry
    ++ number_field (codes "expire_interval") t.expire

-- a text as a string, and what isn't UTF-8 as null
abbrev pub text_token : List ℕ → Token
text_token text = if is_utf8 text then string text else null

-- the parts of an error report, which are null where its lengths don't fit
abbrev pub report_tokens : Option (List ℕ × List ℕ) → List Token
report_tokens None =
    null_field (codes "erroneous_pdu") ++ null_field (codes "error_text_bytes")
    ++ null_field (codes "error_text")
report_tokens (Some (pdu, text)) =
    text_field (codes "erroneous_pdu") (encode_lower pdu)
    ++ text_field (codes "error_text_bytes") (encode_lower text)
    ++ key (codes "error_text") ∷ text_token text ∷ []

-- ---- any unit

abbrev pub kind_name : AnyFields → List ℕ
kind_name (serial_notify version session serial) = codes "serial_notify"
kind_name (serial_query version session serial) = codes "serial_query"
kind_name (reset_query version session) = codes "reset_query"
kind_name (cache_response version session) = codes "cache_response"
kind_name (payload fields) = payload_kind fields
kind_name (end_of_data meaning) = codes "end_of_data"
kind_name (cache_reset version session) = codes "cache_reset"
kind_name (error_report version code body) = codes "error_report"

-- the session, of units that name one
abbrev pub session_tokens : Option ℕ → List Token
session_tokens None = []
session_tokens (Some session) = number_field (codes "session_id") session

-- the fields that not all units have, without the session
abbrev pub own_tokens : AnyFields → List Token
own_tokens (serial_notify version session serial) = number_field (codes "serial_number") serial
own_tokens (serial_query version session serial) = number_field (codes "serial_number") serial
own_tokens (reset_query version session) = numbers_field (codes "zero") (session ∷ [])
own_tokens (cache_response version session) = []
own_tokens (payload fields) = payload_tokens fields
own_tokens (end_of_data meaning) =
    number_field (codes "serial_number") meaning.serial ++ timing_tokens meaning.timing
own_tokens (cache_reset version session) = numbers_field (codes "zero") (session ∷ [])
own_tokens (error_report version code body) =
    number_field (codes "error_code") code ++ report_tokens (report_parts body)

-- the fields that all units have, of a unit that stands after this many bytes
abbrev pub common_tokens : ℕ → AnyFields → List Token
common_tokens offset fields =
    number_field (codes "offset") offset
    ++ number_field (codes "length") (length (any_list fields))
    ++ text_field (codes "kind") (kind_name fields)
    ++ number_field (codes "version") (fields_version fields)

-- its object
unfoldable pub tokens_of : ℕ → AnyFields → List Token
tokens_of offset fields =
    begin_object ∷ (
    common_tokens offset fields
    ++ session_tokens (any_session fields)
    ++ own_tokens fields
    ++ end_object ∷ [])

-- the line: the object as the crate `json` writes it, without spaces, and with an escape for each
-- of U+007F to U+009F
abbrev pub unit_json : ℕ → AnyFields → List ℕ
unit_json offset fields = escaped (print (tokens_of offset fields))
