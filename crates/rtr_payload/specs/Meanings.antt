-- What the values of module `payload` mean, and what their parts are (values as in the Rust crate).
use Rattle.std.specs.Prelude.{Option, Some, None}
use Rattle.rtr_base.specs.Addresses.{resolved_len}
use Rattle.rtr_payload.specs.Payloads.{origin, key, aspa, Payload as Meant}
use Rattle.rtr_payload.specs.declared.payload.RouteOrigin.{RouteOrigin}
use Rattle.rtr_payload.specs.declared.payload.RouterKey.{RouterKey}
use Rattle.rtr_payload.specs.declared.payload.Aspa.{Aspa}
use Rattle.rtr_payload.specs.declared.payload.PayloadType.{PayloadType}
use Rattle.rtr_payload.specs.declared.payload.PayloadType.TheVariants as kinds
use Rattle.rtr_payload.specs.declared.payload.Payload.{Payload}
use Rattle.rtr_payload.specs.declared.payload.Payload.TheVariants as payloads
use Rattle.rtr_payload.specs.declared.payload.PayloadRef.{PayloadRef}
use Rattle.rtr_payload.specs.declared.payload.PayloadRef.TheVariants as lent

-- an origin without a max length means the same as one whose max length is its prefix length
abbrev pub origin_of : RouteOrigin → Meant
origin_of o =
    origin (record {
      family = o.prefix.prefix.family;
      address = o.prefix.prefix.address;
      prefix_len = o.prefix.prefix.len;
      max_len = resolved_len o.prefix;
      asn = o.asn;
    })

abbrev pub key_of : RouterKey → Meant
key_of k =
    key (record { identifier = k.key_identifier; asn = k.asn; info = k.key_info })

abbrev pub aspa_of : Aspa → Meant
aspa_of a = aspa (record { customer = a.customer; providers = a.providers })

abbrev pub payload_of : Payload → Meant
payload_of (payloads.Origin o) = origin_of o
payload_of (payloads.RouterKey k) = key_of k
payload_of (payloads.Aspa a) = aspa_of a

-- the payload that is borrowed
abbrev pub referent : PayloadRef → Payload
referent (lent.Origin o) = payloads.Origin o
referent (lent.RouterKey k) = payloads.RouterKey k.now
referent (lent.Aspa a) = payloads.Aspa a.now

abbrev pub payload_of_ref : PayloadRef → Meant
payload_of_ref (lent.Origin o) = origin_of o
payload_of_ref (lent.RouterKey k) = key_of k.now
payload_of_ref (lent.Aspa a) = aspa_of a.now

-- ---- the parts of a payload

abbrev pub kind_of : Payload → PayloadType
kind_of (payloads.Origin o) = kinds.Origin
kind_of (payloads.RouterKey k) = kinds.RouterKey
kind_of (payloads.Aspa a) = kinds.Aspa

abbrev pub origin_in : Payload → Option RouteOrigin
origin_in (payloads.Origin o) = Some o
origin_in (payloads.RouterKey k) = None
origin_in (payloads.Aspa a) = None

abbrev pub key_in : Payload → Option RouterKey
key_in (payloads.Origin o) = None
key_in (payloads.RouterKey k) = Some k
key_in (payloads.Aspa a) = None

abbrev pub aspa_in : Payload → Option Aspa
aspa_in (payloads.Origin o) = None
aspa_in (payloads.RouterKey k) = None
aspa_in (payloads.Aspa a) = Some a
