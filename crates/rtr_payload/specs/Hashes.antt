-- What a payload feeds a hasher (this library's own).
use Rattle.std.specs.Prelude.{◌++◌}
use Rattle.std.specs.Hash as fed
use Rattle.std.specs.Hash.{HashWrites}
use Rattle.rtr_base.specs.Addresses.{v4_test}
use Rattle.rtr_base.specs.Bytes.{words}
use Rattle.rtr_payload.specs.Payloads.{Payload, origin, key, aspa, kind_number}

-- the parts of a payload
abbrev pub part_writes : Payload → HashWrites
part_writes (origin o) = fed.bool (v4_test o.family) ++ fed.u8 o.prefix_len ++ fed.u128 o.address ++
    fed.u8 o.max_len ++ fed.u32 o.asn
part_writes (key k) = fed.slice fed.u8 k.identifier ++ fed.u32 k.asn ++ fed.slice fed.u8 k.info
part_writes (aspa a) = fed.u32 a.customer ++ fed.slice fed.u8 (words a.providers)

-- its kind, and then its parts
abbrev pub payload_writes : Payload → HashWrites
payload_writes p = fed.u8 (kind_number p) ++ part_writes p
