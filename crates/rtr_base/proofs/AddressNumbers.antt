-- Addresses of std as numbers and as bytes.
use Rattle.std.proofs.Common.{◌≡◌, ℕ, suc, ◌-◌, ◌+◌, ◌*◌, ◌/◌, ◌%◌, ◌^◌, ◌<◌, List, [], ◌∷◌, length}
use Rattle.std.proofs.Common.{refl, ap, ◌∙◌, arith}
use Rattle.std.specs.declared.net.ipv4_addr.Ipv4Addr.{Ipv4Addr}
use Rattle.std.specs.declared.net.ipv6_addr.Ipv6Addr.{Ipv6Addr}
use Rattle.std.specs.Net.Addr.{ipv4_octets, ipv6_octets, ipv4_bits, ipv6_bits, IsIpv4OfBits}
use Rattle.std.specs.Net.Addr.{IsIpv6OfBits, segments_of, octets_of, ipv6_segments}
use Rattle.std.specs.Int.{w32, w128, from_be_bytes}
use Rattle.rtr_base.specs.Bytes.{be, value, IsBytes}
use Rattle.rtr_base.proofs.Numbers.{value-be, IsBytes-be}

-- the address of four bytes is the number that they say
pub ipv4_bits-value : (a : Ipv4Addr) (bs : List ℕ) → length bs ≡ 4 → ipv4_octets a ≡ bs →
    ipv4_bits a ≡ value bs
unfolding ipv4_bits
ipv4_bits-value a (b0 ∷ b1 ∷ b2 ∷ b3 ∷ []) l e = ap (from_be_bytes w32) e ∙ omega arith
ipv4_bits-value a _ l e = absurd (omega arith)

pub ipv4_bits-be : (a : Ipv4Addr) (n : ℕ) → n < 2 ^ 32 → ipv4_octets a ≡ be n 4 → ipv4_bits a ≡ n
ipv4_bits-be a n h e = ipv4_bits-value a (be n 4) refl e ∙ value-be n 4 h

-- the address of sixteen bytes is the number that they say
pub ipv6_bits-value : (a : Ipv6Addr) (bs : List ℕ) → length bs ≡ 16 → ipv6_octets a ≡ bs →
    ipv6_bits a ≡ value bs
unfolding ipv6_bits
ipv6_bits-value a
    (b0 ∷ b1 ∷ b2 ∷ b3 ∷ b4 ∷ b5 ∷ b6 ∷ b7 ∷ b8 ∷ b9 ∷ b10 ∷ b11 ∷ b12 ∷ b13 ∷ b14 ∷ b15 ∷ [])
    l e =
    ap (from_be_bytes w128) e ∙ omega arith
ipv6_bits-value a _ l e = absurd (omega arith)

pub ipv6_bits-be : (a : Ipv6Addr) (n : ℕ) → n < 2 ^ 128 → ipv6_octets a ≡ be n 16 → ipv6_bits a ≡ n
ipv6_bits-be a n h e = ipv6_bits-value a (be n 16) refl e ∙ value-be n 16 h

-- ---- from numbers to bytes

octets_of-segments_of : (k : ℕ) (bs : List ℕ) → length bs ≡ 2 * k → IsBytes bs →
    octets_of (segments_of bs) ≡ bs
octets_of-segments_of k [] l h = refl
octets_of-segments_of k (a ∷ []) l h = absurd (omega arith)
octets_of-segments_of k (a ∷ b ∷ bs) l h =
    let small : b < 256 = h 1 in
    let high : (a * 256 + b) / 256 ≡ a = omega arith in
    let low : (a * 256 + b) % 256 ≡ b = omega arith in
    let rest = octets_of-segments_of (k - 1) bs (omega arith) (λ i. h (suc (suc i))) in
    λ i. high i ∷ low i ∷ rest i

-- the sixteen bytes that an address was made of are its octets
pub ipv6_octets-segments : (a : Ipv6Addr) (bs : List ℕ) → length bs ≡ 16 → IsBytes bs →
    ipv6_segments a ≡ segments_of bs → ipv6_octets a ≡ bs
ipv6_octets-segments a bs l h e = ap octets_of e ∙ octets_of-segments_of 8 bs l h

pub ipv4_octets-bits : (a : Ipv4Addr) (n : ℕ) → IsIpv4OfBits a n → ipv4_octets a ≡ be n 4
unfolding IsIpv4OfBits
ipv4_octets-bits a n e = e

pub ipv6_octets-bits : (a : Ipv6Addr) (n : ℕ) → IsIpv6OfBits a n → ipv6_octets a ≡ be n 16
unfolding IsIpv6OfBits
ipv6_octets-bits a n e = ipv6_octets-segments a (be n 16) refl (IsBytes-be n 16) e
