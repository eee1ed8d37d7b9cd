-- Prefixes that have an address in common.
use Rattle.std.proofs.Common.{◌≡◌, ℕ, ◌+◌, ◌-◌, ◌*◌, ◌/◌, ◌%◌, ◌^◌, ◌≤◌, ◌<◌, Bool, true, false}
use Rattle.std.proofs.Common.{◌&&◌, ◌||◌, ◌==◌, nat_le, refl, sym, ap, ◌∙◌, subst, arith, inl, inr}
use Rattle.std.proofs.Common.{◌⊎◌, Some, MatchBool}
use Rattle.std.proofs.lemmas.Nat.{div-add-mod', mod-pow-add, pow_pos}
use Rattle.std.proofs.lemmas.Bool.{cases_lt}
use Rattle.std.proofs.Math.Nat.{mod-le, mul-div_cancel, mul-mod_left}
use Rattle.rtr_base.specs.Addresses.{Family, v4, v6, IsPrefix, PrefixParts, cleared, width}
use Rattle.data_slurm.specs.Filters.{covers_prefix, is_same_family}
use Rattle.data_slurm.specs.Overlaps.{share_address}
use Rattle.data_slurm.specs.SharedAddresses.{IsInPrefix, ShareAddress, SharesIfCovered}

-- clearing fewer bits first changes nothing
clears_fewer : (k j a : ℕ) →
    (a - a % 2 ^ k) - (a - a % 2 ^ k) % 2 ^ (j + k) ≡ a - a % 2 ^ (j + k)
clears_fewer k j a =
    let c = a - a % 2 ^ k in
    let whole : c ≡ a / 2 ^ k * 2 ^ k = omega (arith, div-add-mod' a (2 ^ k)) in
    let quotient : c / 2 ^ k ≡ a / 2 ^ k =
    ap (λ (n : ℕ). n / 2 ^ k) whole ∙ mul-div_cancel (a / 2 ^ k) (pow_pos k) in
    let clear : c % 2 ^ k ≡ 0 =
    ap (λ (n : ℕ). n % 2 ^ k) whole ∙ mul-mod_left (a / 2 ^ k) (2 ^ k) in
    let part = (a / 2 ^ k % 2 ^ j) * 2 ^ k in
    let cut : c % 2 ^ (j + k) ≡ part =
    mod-pow-add c j k ∙ omega (
      arith,
      clear,
      ap (λ (n : ℕ). (n % 2 ^ j) * 2 ^ k) quotient,
    ) in
    let all : a % 2 ^ (j + k) ≡ part + a % 2 ^ k = mod-pow-add a j k in
    omega (arith, cut, all, mod-le a (2 ^ (j + k)), mod-le a (2 ^ k))

clears_both : (w l m a : ℕ) → l ≤ m → cleared w l (cleared w m a) ≡ cleared w l a
clears_both w l m a h =
    let parts : (w - l) ≡ ((w - l) - (w - m)) + (w - m) = omega arith in
    subst (λ (n : ℕ). (a - a % 2 ^ (w - m)) - (a - a % 2 ^ (w - m)) % 2 ^ n ≡ a - a % 2 ^ n)
    (sym parts) (clears_fewer (w - m) ((w - l) - (w - m)) a)

same_family : (f g : Family) → f ≡ g → is_same_family f g ≡ true
same_family v4 v4 e = refl
same_family v6 v6 e = refl
same_family v4 v6 e = absurd cc
same_family v6 v4 e = absurd cc

is_family : (f g : Family) → is_same_family f g ≡ true → f ≡ g
is_family v4 v4 e = refl
is_family v6 v6 e = refl
is_family v4 v6 e = absurd cc
is_family v6 v4 e = absurd cc

-- a prefix covers another one that has an address in common and is no shorter
covers : (f : Family) (a : ℕ) (p q : PrefixParts) → IsInPrefix f a p → IsInPrefix f a q →
    p.len ≤ q.len → covers_prefix p q ≡ true
covers f a p q h k few =
    let own : cleared (width p.family) p.len q.address ≡ p.address =
    ap (λ (g : Family). cleared (width g) p.len q.address) h.family
    ∙ ap (λ (n : ℕ). cleared (width f) p.len n) (sym k.bits)
    ∙ clears_both (width f) p.len q.len a few ∙ h.bits in
    grind (arith, same_family p.family q.family (h.family ∙ sym k.family), own, few)

-- the address of a prefix is in it, and in those that cover it
covered : (p q : PrefixParts) → IsPrefix q → covers_prefix p q ≡ true → ShareAddress p q
covered p q fine e =
    let same : p.family ≡ q.family = is_family p.family q.family (grind (arith, e)) in
    let own : cleared (width p.family) p.len q.address ≡ p.address = grind (arith, e) in (
      q.family,
      q.address,
      record {
        family = same;
        address = fine.address;
        bits = subst (λ (g : Family). cleared (width g) p.len q.address ≡ p.address) same own;
      },
      record { family = refl; address = fine.address; bits = omega (arith, fine.host_bits) },
    )

turned : (p q : PrefixParts) → ShareAddress p q → ShareAddress q p
turned p q (f, a, h, k) = (f, a, k, h)

either : (p q : PrefixParts) → ShareAddress p q → share_address (Some p) (Some q) ≡ true
either p q (f, a, h, k) =
    elim (cases_lt q.len p.len) [
      | inl longer ↦ grind (arith, covers f a q p k h (omega arith))
      | inr shorter ↦ grind (arith, covers f a p q h k shorter)
    ]

by_one : (b c : Bool) (p q : PrefixParts) → b ≡ covers_prefix p q → c ≡ covers_prefix q p →
    IsPrefix p → IsPrefix q →
    (ShareAddress p q → (b || c) ≡ true) →
    MatchBool (b || c) (ShareAddress p q) (ShareAddress p q → ⊥)
by_one true c p q e f hp hq h = covered p q hq (sym e)
by_one false true p q e f hp hq h = turned q p (covered q p hp (sym f))
by_one false false p q e f hp hq h = λ s. let wrong : false ≡ true = h s in cc

pub shares : (p q : PrefixParts) → IsPrefix p → IsPrefix q → SharesIfCovered p q
shares p q hp hq =
    by_one (covers_prefix p q) (covers_prefix q p) p q refl refl hp hq (either p q)
