-- Units without a payload: serial notify, serial query, reset query, cache response and cache reset
-- (RFC 8210 sections 5.2 to 5.5 and 5.9, RFC 6810 sections 5.2 to 5.5 and 5.9).
use Rattle.std.specs.Prelude.{ℕ, List, ◌++◌, take, drop}
use Rattle.rtr_base.specs.Bytes.{be, value}
use Rattle.rtr_units.specs.Header.{header}
use Rattle.rtr_units.specs.declared.queries.SerialQueryPayload.{SerialQueryPayload}

-- a header alone: reset query, cache response, cache reset (RFC 8210 sections 5.4, 5.5 and 5.9)
abbrev pub bare_list : (version kind session : ℕ) → List ℕ
bare_list version kind session = header version kind session 8

-- a header and a serial number: serial notify, serial query (RFC 8210 sections 5.2 and 5.3), end of
-- data in version 0 (RFC 6810 section 5.8)
abbrev pub serial_list : (version kind session serial : ℕ) → List ℕ
serial_list version kind session serial = header version kind session 12 ++ be serial 4

-- its serial number, read off its place
abbrev pub serial_field : List ℕ → ℕ
serial_field u = value (take 4 (drop 8 u))

-- what follows the header of a serial query, as the list of its bytes (RFC 8210 section 5.3)
abbrev pub query_payload_bytes : SerialQueryPayload → List ℕ
query_payload_bytes u = u.cells.bytes
