-- The tables of payloads, in the columns and under the names that validators give them: this
-- program's own. Numbers are in decimal, addresses as std writes them (IPv6 as RFC 5952), key
-- identifiers in hex, and key info in base64 with padding (RFC 4648 section 4).
use Rattle.std.specs.Prelude.{ℕ, Bool, true, false, List, [], ◌++◌, codes, decimal, drop}
use Rattle.std.specs.Prelude.{filter}
use Rattle.std.specs.List.{flat_map}
use Rattle.base64.specs.Engines.{standard}
use Rattle.base64.specs.GeneralPurpose.{encode_of}
use Rattle.hex.specs.Hex.{encode_lower}
use Rattle.rtr_base.specs.PlainTexts.{address_text, asn_text}
use Rattle.rtr_units.specs.PrefixUnits.{OriginParts}
use Rattle.rtr_payload.specs.Payloads.{Payload, origin, key, aspa}
use Rattle.list_tables.specs.declared.words.Table.{Table}
use Rattle.list_tables.specs.declared.words.Table.TheVariants.{Csv, Json}

-- 192.0.2.0/23
abbrev pub origin_prefix : OriginParts → List ℕ
origin_prefix o = address_text o.family o.address ++ codes "/" ++ decimal o.prefix_len

-- ---- comma-separated values

-- AS65551,192.0.2.0/23,26 is the row of an origin. Other payloads have none.
abbrev pub csv_row : Payload → List ℕ
csv_row (origin o) =
    asn_text o.asn ++ codes "," ++ origin_prefix o ++ codes "," ++ decimal o.max_len ++ codes "\n"
csv_row (key k) = []
csv_row (aspa a) = []

-- the names of the columns, and the rows in the order of payloads
unfoldable pub csv_text : List Payload → List ℕ
csv_text d = codes "ASN,IP Prefix,Max Length\n" ++ flat_map csv_row d

-- ---- kinds of payloads

abbrev pub is_origin : Payload → Bool
is_origin (origin o) = true
is_origin (key k) = false
is_origin (aspa a) = false

abbrev pub is_key : Payload → Bool
is_key (key k) = true
is_key (origin o) = false
is_key (aspa a) = false

abbrev pub is_aspa : Payload → Bool
is_aspa (aspa a) = true
is_aspa (origin o) = false
is_aspa (key k) = false

-- ---- JSON

-- the object of a payload:
-- {"prefix":"192.0.2.0/23","maxLength":26,"asn":65551}
-- {"asn":65551,"ski":"0102030405060708090a0b0c0d0e0f1011121314","pubkey":"FRYXGA=="}
-- {"customer_asid":65551,"providers":[65549,65550]}
abbrev pub object_text : Payload → List ℕ
object_text (origin o) =
    codes "{\"prefix\":\"" ++ origin_prefix o ++ codes "\",\"maxLength\":" ++ decimal o.max_len
    ++ codes ",\"asn\":" ++ decimal o.asn ++ codes "}"
object_text (key k) =
    codes "{\"asn\":" ++ decimal k.asn ++ codes ",\"ski\":\"" ++ encode_lower k.identifier
    ++ codes "\",\"pubkey\":\"" ++ encode_of standard k.info ++ codes "\"}"
object_text (aspa a) =
    codes "{\"customer_asid\":" ++ decimal a.customer ++ codes ",\"providers\":["
    ++ drop 1 (flat_map (λ n. codes "," ++ decimal n) a.providers) ++ codes "]}"

-- an array of the payloads of a kind: after a comma each object on a line of its own, the first
-- without its comma
abbrev pub items_of : (Payload → Bool) → List Payload → List ℕ
items_of kind d = drop 1 (flat_map (λ p. codes ",\n" ++ object_text p) (filter kind d))

-- an object with the origins, the router keys and the ASPAs, each in the order of payloads
unfoldable pub json_text : List Payload → List ℕ
json_text d =
    codes "{\"roas\":[" ++ items_of is_origin d
    ++ codes "\n],\n\"bgpsec_keys\":[" ++ items_of is_key d
    ++ codes "\n],\n\"aspas\":[" ++ items_of is_aspa d ++ codes "\n]}\n"

-- ---- a table

abbrev pub table_text : Table → List Payload → List ℕ
table_text Csv d = csv_text d
table_text Json d = json_text d
