-- IPv4 and IPv6 prefixes (RFC 8210 sections 5.6 and 5.7, RFC 6810 sections 5.6 and 5.7): what their
-- units consist of.
use Rattle.std.specs.Prelude.{ℕ, ◌+◌, List, ◌∷◌, ◌++◌, take, drop, slice_index}
use Rattle.rtr_base.specs.Addresses.{Family, v4, v6}
use Rattle.rtr_base.specs.Bytes.{be, value}
use Rattle.rtr_units.specs.Header.{header, version_field, session_field}

-- a route origin: the autonomous system, and the prefix with the longest prefix length that it may
-- announce (RFC 8210 sections 5.6 and 5.7)
pub record OriginParts : Type 0 where
  pub family : Family
  pub address : ℕ
  pub prefix_len : ℕ
  pub max_len : ℕ
  pub asn : ℕ

-- the fields of the unit, as they stand in it: in the address the bits after the prefix length too,
-- and a free byte, which may have any value (RFC 8210 sections 5.6 and 5.7)
pub record PrefixFields : Type 0 where
  pub version : ℕ
  pub session : ℕ
  pub flags : ℕ
  pub free : ℕ
  pub origin : OriginParts

-- the type of the unit (RFC 8210 sections 5.6 and 5.7)
abbrev pub prefix_type : Family → ℕ
prefix_type v4 = 4
prefix_type v6 = 6

-- how long the unit is (RFC 8210 sections 5.6 and 5.7)
abbrev pub prefix_size : Family → ℕ
prefix_size v4 = 20
prefix_size v6 = 32

-- how many of its bytes are the address (RFC 8210 sections 5.6 and 5.7)
abbrev pub address_bytes : Family → ℕ
address_bytes v4 = 4
address_bytes v6 = 16

-- the bytes of the unit (RFC 8210 sections 5.6 and 5.7)
abbrev pub prefix_list : PrefixFields → List ℕ
prefix_list u =
    header u.version (prefix_type u.origin.family) u.session (prefix_size u.origin.family) ++
    (u.flags ∷ u.origin.prefix_len ∷ u.origin.max_len ∷ u.free ∷
    be u.origin.address (address_bytes u.origin.family) ++ be u.origin.asn 4)

-- The fields of a unit of this family, read off its bytes at their places, whatever its type and
-- length say (RFC 8210 sections 5.6 and 5.7).
abbrev pub prefix_at : Family → List ℕ → PrefixFields
prefix_at family b =
    record {
      version = version_field b;
      session = session_field b;
      flags = slice_index b 8;
      free = slice_index b 11;
      origin =
          record {
            family = family;
            address = value (take (address_bytes family) (drop 12 b));
            prefix_len = slice_index b 9;
            max_len = slice_index b 10;
            asn = value (take 4 (drop (12 + address_bytes family) b));
          };
    }
