-- The fields of a unit that is listed, as they stand in it: this library's own.
use Rattle.std.specs.Prelude.{ℕ, ◌==◌, List, drop, if◌then◌else◌}
use Rattle.rtr_base.specs.Addresses.{v4, v6}
use Rattle.rtr_units.specs.AnyEnd.{end_meaning}
use Rattle.rtr_units.specs.End.{EndMeaning, timed_meaning, untimed_meaning}
use Rattle.rtr_units.specs.FixedUnits.{fixed_bytes}
use Rattle.rtr_units.specs.Header.{session_field, type_field, version_field}
use Rattle.rtr_units.specs.PrefixUnits.{prefix_at}
use Rattle.rtr_payload.specs.AspaUnits.{aspa_at}
use Rattle.rtr_payload.specs.KeyUnits.{key_at}
use Rattle.rtr_payload.specs.Providers.{words_of}
use Rattle.rtr_payload.specs.UnitFields.{Fields, prefix_unit, key_unit, aspa_unit}
use Rattle.unit_any.specs.AnyFields.{AnyFields, serial_notify, serial_query, reset_query}
use Rattle.unit_any.specs.AnyFields.{cache_response, payload, end_of_data, cache_reset}
use Rattle.unit_any.specs.AnyFields.{error_report}
use Rattle.unit_any.specs.AnyUnits.{serial_of, bare_of}
use Rattle.text_lines.specs.declared.listed.Listed.{Listed}
use Rattle.text_lines.specs.declared.listed.Listed.TheVariants as listed
use Rattle.text_lines.specs.declared.listed.ListedKey.{ListedKey}
use Rattle.text_lines.specs.declared.listed.ListedAspa.{ListedAspa}
use Rattle.text_lines.specs.declared.listed.ListedPayload.{ListedPayload}
use Rattle.text_lines.specs.declared.listed.ListedPayload.TheVariants as payloads

abbrev pub key_listed : ListedKey → Fields
key_listed k = key_unit (record {
  version = k.version;
  flags = k.flags;
  free = k.free;
  key = record { identifier = k.identifier; asn = k.asn; info = k.info.now };
})

abbrev pub aspa_listed : ListedAspa → Fields
aspa_listed a = aspa_unit (record {
  version = a.version;
  flags = a.flags;
  free = a.free;
  aspa = record { customer = a.customer; providers = words_of a.providers.now };
})

abbrev pub payload_listed : ListedPayload → Fields
payload_listed (payloads.V4 u) = prefix_unit (prefix_at v4 (fixed_bytes u))
payload_listed (payloads.V6 u) = prefix_unit (prefix_at v6 (fixed_bytes u))
payload_listed (payloads.RouterKey k) = key_listed k
payload_listed (payloads.Aspa a) = aspa_listed a

abbrev pub fields_listed : Listed → AnyFields
fields_listed (listed.SerialNotify u) = serial_of serial_notify (fixed_bytes u)
fields_listed (listed.SerialQuery u) = serial_of serial_query (fixed_bytes u)
fields_listed (listed.ResetQuery u) = bare_of reset_query (fixed_bytes u)
fields_listed (listed.CacheResponse u) = bare_of cache_response (fixed_bytes u)
fields_listed (listed.Payload u) = payload (payload_listed u)
fields_listed (listed.EndOfData u) = end_of_data (end_meaning u)
fields_listed (listed.CacheReset u) = bare_of cache_reset (fixed_bytes u)
fields_listed (listed.Error r) = error_report r.version r.code r.body.now

-- ---- the fields of a unit, read off its bytes at their places, by its type

abbrev pub end_at : List ℕ → EndMeaning
end_at b = if version_field b == 0 then untimed_meaning b else timed_meaning b

abbrev pub report_at : List ℕ → AnyFields
report_at b = error_report (version_field b) (session_field b) (drop 8 b)

unfoldable pub fields_at : List ℕ → AnyFields
fields_at b =
    if type_field b == 0 then serial_of serial_notify b
    else if type_field b == 1 then serial_of serial_query b
    else if type_field b == 2 then bare_of reset_query b
    else if type_field b == 3 then bare_of cache_response b
    else if type_field b == 4 then payload (prefix_unit (prefix_at v4 b))
    else if type_field b == 6 then payload (prefix_unit (prefix_at v6 b))
    else if type_field b == 7 then end_of_data (end_at b)
    else if type_field b == 8 then bare_of cache_reset b
    else if type_field b == 9 then payload (key_unit (key_at b))
    else if type_field b == 11 then payload (aspa_unit (aspa_at b))
    else report_at b
