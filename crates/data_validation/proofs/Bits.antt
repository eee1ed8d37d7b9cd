-- The first bits of addresses.
use Rattle.std.proofs.Common.{◌≡◌, ℕ, ◌+◌, ◌-◌, ◌*◌, ◌/◌, ◌%◌, ◌^◌, ◌≤◌, ◌<◌, sym, ap, ◌∙◌}
use Rattle.std.proofs.Common.{arith, subst, length, List}
use Rattle.std.proofs.lemmas.Nat.{div-add-mod', pow-add, pow_pos}
use Rattle.std.proofs.lemmas.Bool.{cases_lt}
use Rattle.std.proofs.Common.{inl, inr}
use Rattle.std.proofs.Math.Nat.{div-div-eq-div-mul, div-eq_of_lt, le_antisymm, mod-le}
use Rattle.std.proofs.Math.Nat.{mul-div_cancel, mul-mod_left}
use Rattle.std.proofs.Math.Pow.{mod-mod-pow, shr_mono}
use Rattle.rtr_base.specs.Addresses.{Family, v4, v6, PrefixParts, width, cleared}
use Rattle.rtr_units.specs.PrefixUnits.{OriginParts, prefix_size}
use Rattle.data_validation.specs.Validity.{Covers, first_bits}
use Rattle.data_validation.specs.PrivateTable.{IsClear}
use Rattle.data_validation.specs.Tables.{order_key, vrp_of}

pub room_at : (f : Family) (b : List ℕ) (i n : ℕ) → i < n → n * prefix_size f ≤ length b →
    (i + 1) * prefix_size f ≤ length b
room_at v4 b i n h room = omega arith
room_at v6 b i n h room = omega arith

pub room_next : (f : Family) (b r : List ℕ) (i : ℕ) → prefix_size f ≤ length r →
    i * prefix_size f + length r ≡ length b → (i + 1) * prefix_size f ≤ length b
room_next v4 b r i h room = omega arith
room_next v6 b r i h room = omega arith

pub key_is : (v : OriginParts) (x l : ℕ) → x ≡ v.address → l ≡ v.prefix_len →
    order_key v ≡ x * 256 + l
unfolding order_key
key_is v x l a b = omega (arith, a, b)

pub clear_mono : (w l c a : ℕ) → l ≤ c → cleared w l a ≤ cleared w c a
clear_mono w l c a h =
    let parts : w - l ≡ ((w - l) - (w - c)) + (w - c) = omega arith in
    let same : a % 2 ^ (w - l) % 2 ^ (w - c) ≡ a % 2 ^ (w - c) =
    ap (λ (n : ℕ). a % 2 ^ n % 2 ^ (w - c)) parts
    ∙ mod-mod-pow a ((w - l) - (w - c)) (w - c) in
    let low : a % 2 ^ (w - c) ≤ a % 2 ^ (w - l) =
    subst (λ (n : ℕ). n ≤ a % 2 ^ (w - l)) same (mod-le (a % 2 ^ (w - l)) (2 ^ (w - c))) in
    omega arith

-- a number without a remainder, of which the quotient is that of another
pub clear_same : (k a b : ℕ) → a % 2 ^ k ≡ 0 → a / 2 ^ k ≡ b / 2 ^ k → a ≡ b - b % 2 ^ k
clear_same k a b clear e =
    let x : a / 2 ^ k * 2 ^ k ≡ b / 2 ^ k * 2 ^ k = ap (λ (n : ℕ). n * 2 ^ k) e in
    omega (arith, x, div-add-mod' a (2 ^ k), div-add-mod' b (2 ^ k))

pub cleared_clear : (w l a : ℕ) → cleared w l a % 2 ^ (w - l) ≡ 0
cleared_clear w l a =
    let e : a - a % 2 ^ (w - l) ≡ a / 2 ^ (w - l) * 2 ^ (w - l) =
    omega (arith, div-add-mod' a (2 ^ (w - l))) in
    rw e (mul-mod_left (a / 2 ^ (w - l)) (2 ^ (w - l)))

pub origin_clear : (f : Family) (b : List ℕ) → IsClear (vrp_of f b)
unfolding vrp_of
origin_clear f b = cleared_clear (width f) _ _

-- what agrees in some first bits agrees in fewer
pub fewer : (a b k j : ℕ) → k ≤ j → a / 2 ^ k ≡ b / 2 ^ k → a / 2 ^ j ≡ b / 2 ^ j
fewer a b k j h e =
    let parts : j ≡ k + (j - k) = omega arith in
    let powers : 2 ^ j ≡ 2 ^ k * 2 ^ (j - k) = ap (λ (n : ℕ). 2 ^ n) parts ∙ pow-add 2 k (j - k) in
    ap (λ (n : ℕ). a / n) powers ∙ sym (div-div-eq-div-mul a (2 ^ k) (2 ^ (j - k)))
    ∙ ap (λ (n : ℕ). n / 2 ^ (j - k)) e
    ∙ div-div-eq-div-mul b (2 ^ k) (2 ^ (j - k)) ∙ sym (ap (λ (n : ℕ). b / n) powers)

pub shared_few : (w z s a b : ℕ) → s ≡ w - z - 1 → (a / 2 ^ s ≡ b / 2 ^ s → ⊥) → (l : ℕ) →
    l ≤ w → first_bits w l a ≡ first_bits w l b → l ≤ z
shared_few w z s a b at differ l within same =
    elim (cases_lt z l) [
      | inl above ↦ absurd (differ (fewer a b (w - l) s (omega arith) same))
      | inr below ↦ below
    ]

-- clearing what comes after eight bits or more leaves the first eight
pub cleared_begin : (w l a : ℕ) → 8 ≤ l → first_bits w 8 (cleared w l a) ≡ first_bits w 8 a
cleared_begin w l a few =
    let e : a - a % 2 ^ (w - l) ≡ a / 2 ^ (w - l) * 2 ^ (w - l) =
    omega (arith, div-add-mod' a (2 ^ (w - l))) in
    let same : cleared w l a / 2 ^ (w - l) ≡ a / 2 ^ (w - l) =
    ap (λ (n : ℕ). n / 2 ^ (w - l)) e ∙ mul-div_cancel (a / 2 ^ (w - l)) (pow_pos (w - l)) in
    fewer (cleared w l a) a (w - l) (w - 8) (omega arith) same

-- ---- what covers a route

-- it is not above the route's own first bits, of any number that is not below its length
pub key_below : (v : OriginParts) (p : PrefixParts) (c : ℕ) → IsClear v → Covers v p →
    v.prefix_len ≤ c → order_key v ≤ cleared (width p.family) c p.address * 256 + c
unfolding order_key
key_below v p c clear h few =
    let clear' : v.address % 2 ^ (width p.family - v.prefix_len) ≡ 0 =
    subst (λ (f : Family). v.address % 2 ^ (width f - v.prefix_len) ≡ 0) h.family clear in
    let own = clear_same (width p.family - v.prefix_len) v.address p.address clear' h.bits in
    let mono = clear_mono (width p.family) v.prefix_len c p.address few in
    omega arith

-- nor is it below the route's first bits, of any number that is not above its length
pub key_above : (v : OriginParts) (p : PrefixParts) (c : ℕ) → IsClear v → Covers v p →
    c ≤ v.prefix_len → cleared (width p.family) c p.address * 256 + c ≤ order_key v
unfolding order_key
key_above v p c clear h few =
    let clear' : v.address % 2 ^ (width p.family - v.prefix_len) ≡ 0 =
    subst (λ (f : Family). v.address % 2 ^ (width f - v.prefix_len) ≡ 0) h.family clear in
    let own = clear_same (width p.family - v.prefix_len) v.address p.address clear' h.bits in
    let mono = clear_mono (width p.family) c v.prefix_len p.address few in
    omega arith

pub key_within : (v : OriginParts) (p : PrefixParts) → IsClear v → Covers v p →
    order_key v ≤ p.address * 256 + p.len
key_within v p clear h =
    let k = key_below v p p.len clear h h.shorter in
    omega arith

-- an address between it and the route has its first bits
pub between : (v q : OriginParts) (p : PrefixParts) → Covers v p → order_key v ≤ order_key q →
    order_key q ≤ p.address * 256 + p.len → q.prefix_len < 256 → p.len < 256 →
    first_bits (width p.family) v.prefix_len p.address
    ≡ first_bits (width p.family) v.prefix_len q.address
unfolding order_key
between v q p h low high small short =
    let a : v.address ≤ q.address = omega arith in
    let b : q.address ≤ p.address = omega arith in
    let k = width p.family - v.prefix_len in
    let x : v.address / 2 ^ k ≤ q.address / 2 ^ k = shr_mono k a in
    let y : q.address / 2 ^ k ≤ p.address / 2 ^ k = shr_mono k b in
    let z : v.address / 2 ^ k ≡ p.address / 2 ^ k = h.bits in
    le_antisymm (subst (λ (n : ℕ). n ≤ q.address / 2 ^ k) z x) y

-- of an address of w bits no bits are shared, and these agree
pub none_agree : (w a b : ℕ) → a < 2 ^ w → b < 2 ^ w → first_bits w 0 a ≡ first_bits w 0 b
none_agree w a b h k =
    let all : w - 0 ≡ w = omega arith in
    ap (λ (n : ℕ). a / 2 ^ n) all ∙ (div-eq_of_lt h ∙ sym (div-eq_of_lt k))
    ∙ sym (ap (λ (n : ℕ). b / 2 ^ n) all)

-- what comes later than an address with which a route shares bits is longer than these bits, or
-- that prefix covers the route
pub longer : (v u : OriginParts) (p : PrefixParts) (s : ℕ) → IsClear v → Covers v p →
    u.family ≡ p.family → order_key u ≤ order_key v → u.prefix_len < 256 → v.prefix_len < 256 →
    first_bits (width p.family) s p.address ≡ first_bits (width p.family) s u.address →
    v.prefix_len ≤ s → Covers u p
unfolding order_key
longer v u p s clear h f order su sv same few =
    let w = width p.family in
    let clear' : v.address % 2 ^ (w - v.prefix_len) ≡ 0 =
    subst (λ (g : Family). v.address % 2 ^ (width g - v.prefix_len) ≡ 0) h.family clear in
    let agree : first_bits w v.prefix_len p.address ≡ first_bits w v.prefix_len u.address =
    fewer p.address u.address (w - s) (w - v.prefix_len) (omega arith) same in
    let own = clear_same (w - v.prefix_len) v.address u.address clear' (h.bits ∙ agree) in
    let low : v.address ≤ u.address = omega arith in
    let at : u.address ≡ v.address = omega arith in
    let len : u.prefix_len ≤ v.prefix_len = omega arith in
    let sh : v.prefix_len ≤ p.len = h.shorter in
    record {
      family = f;
      shorter = omega arith;
      bits =
          ap (λ (x : ℕ). first_bits w u.prefix_len x) at
          ∙ fewer v.address p.address (w - v.prefix_len) (w - u.prefix_len) (omega arith) h.bits;
    }
