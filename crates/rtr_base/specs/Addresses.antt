-- Addresses and prefixes of addresses (RFC 8210 sections 5.6 and 5.7).
use Rattle.std.specs.Prelude.{◌≡◌, ℕ, ◌-◌, ◌%◌, ◌^◌, ◌<◌, ◌≤◌, Option, unwrap_or, Bool, true, false}
use Rattle.std.specs.Prelude.{List, [], ◌∷◌, ◌==◌}
use Rattle.std.specs.declared.cmp.Ordering.{Ordering}
use Rattle.std.specs.declared.net.ip_addr.IpAddr.{IpAddr}
use Rattle.std.specs.declared.net.ip_addr.IpAddr.TheVariants.{V4, V6}
use Rattle.std.specs.Net.Addr.{ipv4_octets, ipv6_octets, ipv4_bits, ipv6_bits}
use Rattle.std.specs.Ordering.{nat_cmp, on}
use Rattle.std.specs.Cmp.Lexicographic.{slice_cmp}
use Rattle.rtr_base.specs.Bytes.{be}
use Rattle.rtr_base.specs.declared.addr.PrefixError.{PrefixError}
use Rattle.rtr_base.specs.declared.addr.PrefixError.TheVariants.{LenOverflow, NonZeroHost}
use Rattle.rtr_base.specs.declared.addr.MaxLenError.{MaxLenError}
use Rattle.rtr_base.specs.declared.addr.MaxLenError.TheVariants.{Overflow, Underflow}

-- a family of addresses
pub data Family : Type 0 where
  v4 : Family
  v6 : Family

-- how many bits an address has
abbrev pub width : Family → ℕ
width v4 = 32
width v6 = 128

-- an address of w bits with all bits after the first l cleared
abbrev pub cleared : ℕ → ℕ → ℕ → ℕ
cleared w l a = a - a % 2 ^ (w - l)

-- a prefix: the address as a number, its host bits clear, and how many bits of it count
pub record PrefixParts : Type 0 where
  pub family : Family
  pub address : ℕ
  pub len : ℕ

-- no more bits count than an address has, and all others are zero
pub record IsPrefix (p : PrefixParts) : Type 0 where
  pub len : p.len ≤ width p.family
  pub address : p.address < 2 ^ width p.family
  pub host_bits : p.address % 2 ^ (width p.family - p.len) ≡ 0

-- a prefix, and the longest prefix length that is meant with it, where one was given
pub record MaxLenParts : Type 0 where
  pub prefix : PrefixParts
  pub max_len : Option ℕ

-- the longest prefix length that is meant: where none was given, the prefix length itself
abbrev pub resolved_len : MaxLenParts → ℕ
resolved_len p = unwrap_or p.max_len p.prefix.len

-- the lengths are in order
pub record IsMaxLenPrefix (p : MaxLenParts) : Type 0 where
  pub prefix : IsPrefix p.prefix
  pub lower : p.prefix.len ≤ resolved_len p
  pub upper : resolved_len p ≤ width p.prefix.family

-- ---- addresses of std

-- the address as a number
abbrev pub ip_number : IpAddr → ℕ
ip_number (V4 a) = ipv4_bits a
ip_number (V6 a) = ipv6_bits a

-- the family of the address
abbrev pub ip_family : IpAddr → Family
ip_family (V4 a) = v4
ip_family (V6 a) = v6

-- the address is that of the prefix
abbrev pub IsAddressOf : PrefixParts → IpAddr → Type 0
IsAddressOf p (V4 a) = (p.family ≡ v4) × (ipv4_octets a ≡ be p.address 4)
IsAddressOf p (V6 a) = (p.family ≡ v6) × (ipv6_octets a ≡ be p.address 16)

-- the address as it is, with this length
abbrev pub prefix_of_address : IpAddr → ℕ → PrefixParts
prefix_of_address a l = record { family = ip_family a; address = ip_number a; len = l }

-- why an address and a length are no prefix
abbrev pub BreaksPrefix : PrefixParts → PrefixError → Type 0
BreaksPrefix p LenOverflow = width p.family < p.len
BreaksPrefix p NonZeroHost =
    (p.len ≤ width p.family) × ¬ (cleared (width p.family) p.len p.address ≡ p.address)

-- why a max length doesn't go with a prefix
abbrev pub BreaksMaxLen : PrefixParts → ℕ → MaxLenError → Type 0
BreaksMaxLen p x Overflow = width p.family < x
BreaksMaxLen p x Underflow = x < p.len

-- ---- order, which is this library's own

-- the version of the Internet Protocol
abbrev pub ip_version : Family → ℕ
ip_version v4 = 4
ip_version v6 = 6

-- what of a prefix is compared in turn: IPv4 before IPv6, then the address as a number, then the
-- length
abbrev pub compared : PrefixParts → List ℕ
compared p = ip_version p.family ∷ p.address ∷ p.len ∷ []

-- the first differing number decides
abbrev pub prefix_cmp : PrefixParts → PrefixParts → Ordering
prefix_cmp = on compared (slice_cmp nat_cmp)

-- ---- the family as a bit, as this library keeps it

abbrev pub family_of : Bool → Family
family_of true = v4
family_of false = v6

abbrev pub v4_test : Family → Bool
v4_test f = ip_version f == 4
