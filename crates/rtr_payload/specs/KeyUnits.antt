-- The units of router keys (RFC 8210 section 5.10): which bytes are one, and what it means.
use Rattle.std.specs.Prelude.{◌≡◌, ℕ, ◌+◌, ◌≤◌, List, ◌∷◌, ◌++◌, length, take, drop, slice_index}
use Rattle.rtr_base.specs.Actions.{act}
use Rattle.rtr_base.specs.Bytes.{be, value}
use Rattle.rtr_units.specs.Header.{version_field}
use Rattle.rtr_payload.specs.Payloads.{KeyParts, IsKey, Meaning, key}

-- the fields of the unit (RFC 8210 section 5.10). Flags stand where other units have the first byte
-- of the session, and the next byte may have any value
pub record KeyFields : Type 0 where
  pub version : ℕ
  pub flags : ℕ
  pub free : ℕ
  pub key : KeyParts

-- the bytes of the unit, of which the length counts all (RFC 8210 sections 5.1 and 5.10)
abbrev pub key_list : KeyFields → List ℕ
key_list u =
    u.version ∷ 9 ∷ u.flags ∷ u.free ∷ be (32 + length u.key.info) 4 ++
    u.key.identifier ++ be u.key.asn 4 ++ u.key.info

-- these are the bytes of a router key's unit with this meaning (RFC 8210 section 5.10), at most
-- 65535 of them (that limit as in the Rust crate); of its flags the lowest bit counts
pub record IsKeyUnit (b : List ℕ) (m : Meaning) : Type 0 where
  pub unit : KeyFields
  pub bytes : b ≡ key_list unit
  pub ranges : IsKey unit.key
  pub limit : length unit.key.info ≤ 65503
  pub means : m ≡
      record { version = unit.version; action = act unit.flags; payload = key unit.key }

-- the fields of a unit, read off its bytes at their places, whatever its type and length say (RFC
-- 8210 section 5.10)
abbrev pub key_at : List ℕ → KeyFields
key_at b =
    record {
      version = version_field b;
      flags = slice_index b 2;
      free = slice_index b 3;
      key =
          record {
            identifier = take 20 (drop 8 b);
            asn = value (take 4 (drop 28 b));
            info = drop 32 b;
          };
    }
