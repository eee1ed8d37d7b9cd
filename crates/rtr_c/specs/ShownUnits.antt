-- What C is shown of a unit (this library's own; the fields by RFC 8210 sections 5.2 to 5.11, of an
-- ASPA as in the Rust crate).
use Rattle.std.specs.Prelude.{◌≡◌, ◌⊎◌, ℕ, ◌+◌, ◌*◌, ◌%◌, List, ◌++◌, length, Option, Some, None}
use Rattle.std.specs.Prelude.{Result, Ok, Err, replicate, ⊤}
use Rattle.rtr_base.specs.Addresses.{Family, v4, v6, ip_version}
use Rattle.rtr_base.specs.Bytes.{be}
use Rattle.rtr_base.specs.declared.timing.Timing.{Timing}
use Rattle.rtr_units.specs.End.{EndMeaning}
use Rattle.rtr_units.specs.Header.{version_field, session_field, length_field}
use Rattle.rtr_units.specs.PrefixUnits.{PrefixFields, prefix_type}
use Rattle.rtr_payload.specs.AspaUnits.{AspaFields}
use Rattle.rtr_payload.specs.KeyUnits.{KeyFields}
use Rattle.rtr_payload.specs.RouteOrigins.{meant_origin}
use Rattle.rtr_payload.specs.UnitFields.{Fields, prefix_unit, key_unit, aspa_unit, LengthsAgree}
use Rattle.unit_views.specs.declared.fault.ViewFault.{ViewFault}
use Rattle.unit_views.specs.declared.fault.ViewFault.TheVariants.{Short, Prefix}
use Rattle.unit_any.specs.AnyFields.{AnyFields, HasAnyFields, serial_notify, serial_query}
use Rattle.unit_any.specs.AnyFields.{reset_query, cache_response, payload, end_of_data}
use Rattle.unit_any.specs.AnyFields.{cache_reset, error_report}
use Rattle.unit_any.specs.Reports.{HasParts}
use Rattle.unit_any.specs.SessionViews.{IsSessionFault}
use Rattle.rtr_c.specs.Answers.{rtr_ok, fault_status, fault_detail, wanted}
use Rattle.rtr_c.specs.declared.unit.RtrUnit.{RtrUnit}

-- a unit of no kind
abbrev pub none : RtrUnit
none = record {
  size = 0;
  wanted = 0;
  part_start = 0;
  part_length = 0;
  text_start = 0;
  text_length = 0;
  asn = 0;
  customer = 0;
  serial = 0;
  refresh = 0;
  retry = 0;
  expire = 0;
  session = 0;
  code = 0;
  kind = 0;
  version = 0;
  action = 0;
  family = 0;
  prefix_length = 0;
  max_length = 0;
  address = replicate 16 0;
  key_identifier = replicate 20 0;
  detail = 0;
}

-- ---- what is shown of a unit of n bytes

-- a serial notify or a serial query (RFC 8210 sections 5.2 and 5.3)
abbrev pub serial_shown : (kind n version session serial : ℕ) → RtrUnit
serial_shown k n v s q =
    record none { size = n; serial = q; session = s; kind = k; version = v }

-- a header alone (sections 5.4, 5.5 and 5.9)
abbrev pub bare_shown : (kind n version session : ℕ) → RtrUnit
bare_shown k n v s = record none { size = n; session = s; kind = k; version = v }

-- the bytes of an address at the front of sixteen
abbrev pub address_shown : Family → ℕ → List ℕ
address_shown v4 a = be a 4 ++ replicate 12 0
address_shown v6 a = be a 16

-- the address is shown with the bits after the prefix length zero
abbrev pub prefix_shown : ℕ → PrefixFields → RtrUnit
prefix_shown n u = record none {
  size = n;
  asn = u.origin.asn;
  kind = prefix_type u.origin.family;
  version = u.version;
  action = u.flags % 2;
  family = ip_version u.origin.family;
  prefix_length = u.origin.prefix_len;
  max_length = u.origin.max_len;
  address = address_shown u.origin.family (meant_origin u.origin).address;
}

-- the key info follows 32 bytes
abbrev pub key_shown : ℕ → KeyFields → RtrUnit
key_shown n u = record none {
  size = n;
  part_start = 32;
  part_length = length u.key.info;
  asn = u.key.asn;
  kind = 9;
  version = u.version;
  action = u.flags % 2;
  key_identifier = u.key.identifier;
}

-- the providers follow 12 bytes, and have this many, on a withdrawal too
abbrev pub aspa_shown : (n providers : ℕ) → AspaFields → RtrUnit
aspa_shown n providers u = record none {
  size = n;
  part_start = 12;
  part_length = providers;
  customer = u.aspa.customer;
  kind = 11;
  version = u.version;
  action = u.flags % 2;
}

abbrev pub payload_shown : ℕ → Fields → RtrUnit
payload_shown n (prefix_unit u) = prefix_shown n u
payload_shown n (key_unit u) = key_shown n u
payload_shown n (aspa_unit u) = aspa_shown n (4 * length u.aspa.providers) u

-- the timings of an end of data
abbrev pub timed : Option Timing → RtrUnit → RtrUnit
timed None u = u
timed (Some t) u = record u { refresh = t.refresh; retry = t.retry; expire = t.expire }

abbrev pub end_shown : ℕ → EndMeaning → RtrUnit
end_shown n e = timed e.timing (record none {
  size = n;
  serial = e.serial;
  session = e.session;
  kind = 7;
  version = e.version;
})

-- a report of which no parts are shown
abbrev pub report_shown : (n version code : ℕ) → RtrUnit
report_shown n v c = record none { size = n; code = c; kind = 10; version = v }

-- the unit that a report is about follows 12 bytes, and the text follows its own length
abbrev pub with_parts : (part text : ℕ) → RtrUnit → RtrUnit
with_parts p t u = record u {
  part_start = 12;
  part_length = p;
  text_start = 16 + p;
  text_length = t;
}

-- the report b is shown with its parts, or without them where its inner lengths don't fit
abbrev pub ShowsReport : List ℕ → RtrUnit → Type 0
ShowsReport b u =
    ((p t : List ℕ) × HasParts b p t × (u ≡ with_parts (length p) (length t)
    (report_shown (length b) (version_field b) (session_field b))))
    ⊎ (((p t : List ℕ) → HasParts b p t → ⊥)
    × (u ≡ report_shown (length b) (version_field b) (session_field b)))

-- the unit b with these fields is shown
abbrev pub CallShows : List ℕ → AnyFields → RtrUnit → Type 0
CallShows b (serial_notify v s q) u = u ≡ serial_shown 0 (length b) v s q
CallShows b (serial_query v s q) u = u ≡ serial_shown 1 (length b) v s q
CallShows b (reset_query v s) u = u ≡ bare_shown 2 (length b) v 0
CallShows b (cache_response v s) u = u ≡ bare_shown 3 (length b) v s
CallShows b (payload f) u = u ≡ payload_shown (length b) f
CallShows b (end_of_data e) u = u ≡ end_shown (length b) e
CallShows b (cache_reset v s) u = u ≡ bare_shown 8 (length b) v 0
CallShows b (error_report v c body) u = ShowsReport b u

-- the lengths of a prefix are in order
abbrev pub InOrder : AnyFields → Type 0
InOrder (payload f) = LengthsAgree f
InOrder f = ⊤

-- What is shown of these units says all of their form: of a prefix, where its lengths are in order,
-- and of a report, where its inner lengths fit.
abbrev pub IsWrittenAgain : List ℕ → AnyFields → Type 0
IsWrittenAgain b (payload f) = LengthsAgree f
IsWrittenAgain b (error_report v c body) = (p t : List ℕ) × HasParts b p t
IsWrittenAgain b f = ⊤

-- ---- what is shown where there is none

-- the size of a unit that is refused for its prefix lengths, how many bytes are wanted, and the
-- detail
abbrev pub refused_shown : ViewFault → List ℕ → RtrUnit
refused_shown Short b = record none { wanted = wanted b }
refused_shown (Prefix rule) b =
    record none { size = length_field b; detail = fault_detail (Prefix rule) }
refused_shown e b = record none { detail = fault_detail e }

-- ---- the whole promise

-- The unit at the front of the input is shown, which has these bytes and fields; or this is its
-- first fault.
abbrev pub ShowsFirst : Result (List ℕ × AnyFields) ViewFault → List ℕ → RtrUnit → ℕ → Type 0
ShowsFirst (Ok (b, f)) input u code = (rest : List ℕ) × (input ≡ b ++ rest) × HasAnyFields b f
    × InOrder f × CallShows b f u × (code ≡ rtr_ok)
ShowsFirst (Err e) input u code = (size : Option ℕ) × IsSessionFault input e size
    × (u ≡ refused_shown e input) × (code ≡ fault_status e)
