-- What a payload unit means, over all kinds (each by its RFC section; the order is this library's
-- own).
use Rattle.std.specs.Prelude.{◌≡◌, ℕ, ◌%◌, ◌-◌, ◌^◌, ◌<◌, ◌≤◌, List, length}
use Rattle.std.specs.List.{AllByRecursion}
use Rattle.rtr_base.specs.Addresses.{width}
use Rattle.rtr_base.specs.declared.action.Action.{Action}
use Rattle.rtr_units.specs.PrefixUnits.{OriginParts}

-- a router key (RFC 8210 section 5.10)
pub record KeyParts : Type 0 where
  pub identifier : List ℕ
  pub asn : ℕ
  pub info : List ℕ

-- a customer and its providers, whose order counts (as in the Rust crate)
pub record AspaParts : Type 0 where
  pub customer : ℕ
  pub providers : List ℕ

-- a route origin (RFC 8210 sections 5.6 and 5.7), a router key (RFC 8210 section 5.10) or an ASPA
-- (as in the Rust crate)
pub data Payload : Type 0 where
  origin : OriginParts → Payload
  key : KeyParts → Payload
  aspa : AspaParts → Payload

-- what a unit means: its free bytes, the session of its header and all flag bits but the lowest
-- mean nothing (RFC 8210 section 5.1)
pub record Meaning : Type 0 where
  pub version : ℕ
  pub action : Action
  pub payload : Payload

-- ---- the ranges of its parts

-- the rule on the lengths of a prefix: the max length is not below the prefix length, nor above the
-- number of bits of an address (RFC 8210 sections 5.1, 5.6 and 5.7)
abbrev pub LengthsInOrder : OriginParts → Type 0
LengthsInOrder o = (o.prefix_len ≤ o.max_len) × (o.max_len ≤ width o.family)

-- The lengths are in order, and the bits of the address after the prefix length are clear. An
-- address of 32 or 128 bits (RFC 8210 sections 5.6 and 5.7).
pub record IsOrigin (o : OriginParts) : Type 0 where
  pub lengths : LengthsInOrder o
  pub address : o.address < 2 ^ width o.family
  pub host_bits : o.address % 2 ^ (width o.family - o.prefix_len) ≡ 0
  pub asn : o.asn < 2 ^ 32

-- an identifier of 20 bytes, and key info whose length, with the 32 bytes before it, fits a length
-- field of four bytes (RFC 8210 section 5.10)
pub record IsKey (k : KeyParts) : Type 0 where
  pub identifier : length k.identifier ≡ 20
  pub asn : k.asn < 2 ^ 32
  pub info : length k.info ≤ 4294967263

-- as many numbers as an ASPA may name, each of four bytes: with them its unit has 65532 bytes (as
-- in the Rust crate)
pub record AreProviders (ps : List ℕ) : Type 0 where
  pub count : length ps ≤ 16380
  pub each : AllByRecursion (λ p. p < 2 ^ 32) ps

-- a customer of four bytes, and providers (as in the Rust crate)
pub record IsAspa (a : AspaParts) : Type 0 where
  pub customer : a.customer < 2 ^ 32
  pub providers : AreProviders a.providers

-- its parts are in their ranges (RFC 8210 sections 5.6, 5.7 and 5.10; ASPAs as in the Rust crate)
abbrev pub IsPayload : Payload → Type 0
IsPayload (origin o) = IsOrigin o
IsPayload (key k) = IsKey k
IsPayload (aspa a) = IsAspa a

-- ---- versions and order

-- the smallest protocol version that has the payload (origins RFC 6810, router keys RFC 8210; ASPAs
-- as in the Rust crate)
abbrev pub smallest_version : Payload → ℕ
smallest_version (origin o) = 0
smallest_version (key k) = 1
smallest_version (aspa a) = 2

-- origins come before keys, and keys before ASPAs (this library's own)
abbrev pub kind_number : Payload → ℕ
kind_number (origin o) = 0
kind_number (key k) = 1
kind_number (aspa a) = 2
