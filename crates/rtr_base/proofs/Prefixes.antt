-- Prefixes that compare as equal are one, and their order as the code compares them.
use Rattle.std.proofs.Common.{◌≡◌, ℕ, Bool, true, false, refl, sym, ap, ◌∙◌, ◌↔◌, arith}
use Rattle.std.proofs.Common.{◌+◌, ◌-◌, ◌*◌, ◌/◌, ◌%◌, ◌^◌, ◌≤◌, ◌<◌, inl, inr}
use Rattle.std.proofs.lemmas.Bool.{cases_lt}
use Rattle.std.proofs.lemmas.Nat.{div-add-mod', mod-pow-add}
use Rattle.std.proofs.Math.Nat.{mod-le}
use Rattle.std.proofs.Math.Pow.{mod-mod-pow}
use Rattle.std.specs.declared.cmp.Ordering.{Ordering}
use Rattle.std.specs.declared.cmp.Ordering.TheVariants.{Less, Equal, Greater}
use Rattle.std.specs.Ordering.{bool_cmp, nat_cmp, ordering_then}
use Rattle.std.specs.FinMap.{nat_cmp-IsAntisymmetric, slice_cmp-IsAntisymmetric}
use Rattle.std.proofs.lemmas.Cmp.{tied_itself}
use Rattle.std.specs.Cmp.{IsTotalOrder, on_total}
use Rattle.std.specs.Cmp.Lexicographic.{nat_list_cmp_total}
use Rattle.rtr_base.specs.Addresses.{Family, v4, v6, PrefixParts, compared, family_of, ip_version}
use Rattle.rtr_base.specs.Addresses.{cleared, prefix_cmp}

-- an instance of std's law on lists
pub prefix_total : IsTotalOrder prefix_cmp
prefix_total = on_total compared nat_list_cmp_total

pub same_version : (f g : Family) → ip_version f ≡ ip_version g → f ≡ g
same_version v4 v4 e = refl
same_version v4 v6 e = absurd cc
same_version v6 v4 e = absurd cc
same_version v6 v6 e = refl

same_numbers : (p q : PrefixParts) → compared p ≡ compared q → p ≡ q
same_numbers p q e =
    let family = same_version p.family q.family cc in
    let address : p.address ≡ q.address = cc in
    let len : p.len ≡ q.len = cc in
    λ i. record { family = family i; address = address i; len = len i }

prefix_exact : (p q : PrefixParts) → prefix_cmp p q ≡ Equal → p ≡ q
prefix_exact p q h =
    same_numbers p q (slice_cmp-IsAntisymmetric nat_cmp-IsAntisymmetric (compared p) (compared q) h)

pub prefix_same : (p q : PrefixParts) → (prefix_cmp p q ≡ Equal) ↔ (p ≡ q)
prefix_same p q = (prefix_exact p q, λ e. ap (prefix_cmp p) (sym e) ∙ tied_itself prefix_total p)

-- three orders that decide in turn
regrouped : (f a l : Ordering) →
    ordering_then (ordering_then f a) l ≡ ordering_then f (ordering_then a (ordering_then l Equal))
regrouped Less a l = refl
regrouped Equal Less l = refl
regrouped Equal Equal Less = refl
regrouped Equal Equal Equal = refl
regrouped Equal Equal Greater = refl
regrouped Equal Greater l = refl
regrouped Greater a l = refl

by_bit : (b c : Bool) → bool_cmp c b ≡ nat_cmp (ip_version (family_of b)) (ip_version (family_of c))
by_bit true true = refl
by_bit true false = refl
by_bit false true = refl
by_bit false false = refl

-- the order as the code compares prefixes, by their bits, addresses and lengths
pub prefix_chain : (b c : Bool) (a d l m : ℕ) →
    ordering_then (ordering_then (bool_cmp c b) (nat_cmp a d)) (nat_cmp l m) ≡
    prefix_cmp (record { family = family_of b; address = a; len = l })
    (record { family = family_of c; address = d; len = m })
prefix_chain b c a d l m = rw (by_bit b c) (regrouped _ (nat_cmp a d) (nat_cmp l m))

-- ---- an address whose second half has no bit that counts

-- the bits after the first l of a are cleared by those of its first half
pub first_half_cleared : (l a : ℕ) → l ≤ 64 → cleared 64 l (a / 2 ^ 64) * 2 ^ 64 ≡ cleared 128 l a
first_half_cleared l a short =
    let both : a % 2 ^ (128 - l) ≡ (a / 2 ^ 64 % 2 ^ (64 - l)) * 2 ^ 64 + a % 2 ^ 64 =
    ap (λ (n : ℕ). a % 2 ^ n) (omega arith) ∙ mod-pow-add a (64 - l) 64 in
    omega (arith, both, div-add-mod' a (2 ^ 64))

-- those in its second half alone
pub second_half_cleared : (l a : ℕ) → 64 ≤ l → l ≤ 128 →
    a / 2 ^ 64 * 2 ^ 64 + (a % 2 ^ 64 - a % 2 ^ 64 % 2 ^ (128 - l)) ≡ cleared 128 l a
second_half_cleared l a long fits =
    let parts : 64 ≡ (l - 64) + (128 - l) = omega arith in
    let same : a % 2 ^ 64 % 2 ^ (128 - l) ≡ a % 2 ^ (128 - l) =
    ap (λ (n : ℕ). a % 2 ^ n % 2 ^ (128 - l)) parts ∙ mod-mod-pow a (l - 64) (128 - l) in
    omega (arith, same, div-add-mod' a (2 ^ 64), mod-le (a % 2 ^ 64) (2 ^ (128 - l)))

-- and those of any length, half by half
pub halves_cleared : (l a h w : ℕ) → l ≤ 128 → (l ≤ 64 → h ≡ cleared 64 l (a / 2 ^ 64)) →
    (64 < l → h ≡ a / 2 ^ 64) → (l ≤ 64 → w ≡ 0) → (64 < l → w ≡ cleared 128 l (a % 2 ^ 64)) →
    h * 2 ^ 64 + w ≡ cleared 128 l a
halves_cleared l a h w fits hs hl ws wl =
    elim (cases_lt 64 l) [
      | inl long ↦
          ap (λ (n : ℕ). n * 2 ^ 64 + w) (hl long)
          ∙ ap (λ (n : ℕ). a / 2 ^ 64 * 2 ^ 64 + n) (wl long)
          ∙ second_half_cleared l a (omega arith) fits
      | inr short ↦
          ap (λ (n : ℕ). n * 2 ^ 64 + w) (hs short)
          ∙ ap (λ (n : ℕ). cleared 64 l (a / 2 ^ 64) * 2 ^ 64 + n) (ws short)
          ∙ omega (arith, first_half_cleared l a short)
    ]
