-- The texts of addresses that are made of numbers.
use Rattle.std.proofs.Common.{◌≡◌, ℕ, ◌+◌, ◌<◌, ◌≤◌, ◌∙◌, List, [], ◌∷◌, ◌++◌, Bool, true, false}
use Rattle.std.proofs.Common.{nat_lt, ap, arith, codes, drop}
use Rattle.std.proofs.Common.{get_or, length, refl, sym, take}
use Rattle.std.specs.Prelude.{bytes_eq}
use Rattle.std.proofs.lemmas.Bool.Decides.{nat_tests}
use Rattle.std.proofs.lemmas.List.{drop_more}
use Rattle.std.proofs.Math.ListN.{drop_of_length-le}
use Rattle.std.specs.declared.net.ipv4_addr.Ipv4Addr.{Ipv4Addr}
use Rattle.std.specs.declared.net.ipv6_addr.Ipv6Addr.{Ipv6Addr}
use Rattle.std.specs.Net.Addr.{IsIpv4OfBits, IsIpv6OfBits, ipv4_octets, ipv6_segments, segments_of}
use Rattle.std.specs.Net.Addr.{octets_of}
use Rattle.std.specs.Net.Text.{compressed_text, groups_text, hex_groups_text, ipv4_text, ipv6_text}
use Rattle.std.specs.Net.Text.{longest_zero_run}
use Rattle.rtr_base.specs.Bytes.{be}

pub shown_ipv4 : (a : Ipv4Addr) (n : ℕ) → IsIpv4OfBits a n →
    ipv4_text (ipv4_octets a) ≡ ipv4_text (be n 4)
unfolding IsIpv4OfBits
shown_ipv4 a n e = ap ipv4_text e

pub shown_ipv6 : (a : Ipv6Addr) (n : ℕ) → IsIpv6OfBits a n →
    ipv6_text (ipv6_segments a) ≡ ipv6_text (segments_of (be n 16))
unfolding IsIpv6OfBits
shown_ipv6 a n e = ap ipv6_text e

-- segments of which no run is compressed
plain_at : (s : List ℕ) (run : ℕ × ℕ) → run.1 < 2 → groups_text s ≡ compressed_text s run
plain_at s run h = let t : nat_lt 1 run.1 ≡ false = grind (arith, nat_tests) in rw t refl

pub plain_groups : (s : List ℕ) (run : ℕ × ℕ) → run ≡ longest_zero_run s → run.1 < 2 →
    groups_text s ≡ hex_groups_text s
unfolding hex_groups_text
plain_groups s run e h = plain_at s run h ∙ ap (compressed_text s) e

-- segments of which a run is
run_at : (s : List ℕ) (run : ℕ × ℕ) → 2 ≤ run.1 →
    groups_text (take run.0 s) ++ codes "::" ++ groups_text (drop (run.0 + run.1) s)
    ≡ compressed_text s run
run_at s run h = let t : nat_lt 1 run.1 ≡ true = grind (arith, nat_tests) in rw t refl

pub run_groups : (s : List ℕ) (run : ℕ × ℕ) → run ≡ longest_zero_run s → 2 ≤ run.1 →
    groups_text (take run.0 s) ++ codes "::" ++ groups_text (drop (run.0 + run.1) s)
    ≡ hex_groups_text s
unfolding hex_groups_text
run_groups s run e h = run_at s run h ∙ ap (compressed_text s) e

abbrev pub is_mapped_text : List ℕ → Bool
is_mapped_text s = bytes_eq (take 6 s) (0 ∷ 0 ∷ 0 ∷ 0 ∷ 0 ∷ 0xffff ∷ [])

-- an address that holds no IPv4 address
pub plain_text : (s : List ℕ) → is_mapped_text s ≡ false → hex_groups_text s ≡ ipv6_text s
unfolding ipv6_text
plain_text s e = rw e refl

last_two : (s : List ℕ) → length s ≡ 8 → drop 6 s ≡ get_or s 6 0 ∷ get_or s 7 0 ∷ []
last_two s h =
    drop_more s 6 0 (omega (arith, h))
    ∙ ap (λ l. get_or s 6 0 ∷ l)
    (drop_more s 7 0 (omega (arith, h))
    ∙ ap (λ l. get_or s 7 0 ∷ l) (drop_of_length-le s {i = 8} (omega (arith, h))))

-- one that does
pub mapped_text : (s octets : List ℕ) → length s ≡ 8 →
    octets ≡ octets_of (get_or s 6 0 ∷ get_or s 7 0 ∷ []) → is_mapped_text s ≡ true →
    codes "::ffff:" ++ ipv4_text octets ≡ ipv6_text s
unfolding ipv6_text
mapped_text s octets h is e =
    rw e (ap (λ l. codes "::ffff:" ++ ipv4_text l) (is ∙ ap octets_of (sym (last_two s h))))
