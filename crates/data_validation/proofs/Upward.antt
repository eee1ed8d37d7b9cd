-- From the first that may cover up.
use Rattle.std.proofs.Common.{◌≡◌, ℕ, ◌+◌, ◌*◌, ◌≤◌, ◌<◌, List, inl, inr, sym, subst}
use Rattle.std.proofs.Common.{arith, ◌∙◌}
use Rattle.std.proofs.lemmas.Bool.{cases_lt}
use Rattle.rtr_base.specs.Addresses.{Family, PrefixParts, width, cleared}
use Rattle.data_validation.specs.PrivateTable.{AreSorted, IsNextPlace, IsPastShorter, IsTable}
use Rattle.data_validation.specs.PrivateTable.{NoneBetween, route_key}
use Rattle.data_validation.specs.Tables.{order_key, vrp_at}
use Rattle.data_validation.specs.Validity.{Covers, first_bits}
use Rattle.data_validation.proofs.Bits.{key_above, key_within, longer, origin_clear}
use Rattle.data_validation.proofs.Parted.{family_is}
use Rattle.data_validation.proofs.Walking.{below_bound}

-- none of those that are before the first bits of the route, as many as the shortest has
pub find_first : (f : Family) (b : List ℕ) (n from s r : ℕ) (p : PrefixParts) → f ≡ p.family →
    IsPastShorter f b n from s p.address r → IsTable f b n s 0 n p → NoneBetween f b from r p
find_first f b n from s r p e (inl h) t i low high v = absurd (omega (arith, h.1))
find_first f b n from s r p e (inr h) t i low high v =
    let w : r ≤ n = h.1.within in
    let x = below_bound f b n from n _ r (omega arith) h.1 t.sorted i low high in
    let l : s ≤ (vrp_at f b i).prefix_len = t.least i (omega arith) v in
    let y = key_above (vrp_at f b i) p s (origin_clear f _) v l in
    let z = subst (λ (g : Family). cleared (width g) s p.address * 256 + s
    ≤ order_key (vrp_at f b i)) (sym e) y in
    absurd (omega (arith, h.0))

pub past_least : (f : Family) (b : List ℕ) (n from s x r : ℕ) →
    IsPastShorter f b n from s x r → from ≤ r
past_least f b n from s x r (inl h) = omega (arith, h.1)
past_least f b n from s x r (inr h) = h.1.least

pub past_within : (f : Family) (b : List ℕ) (n from s x r : ℕ) → from ≤ n →
    IsPastShorter f b n from s x r → r ≤ n
past_within f b n from s x r few (inl h) = omega (arith, h.1, few)
past_within f b n from s x r few (inr h) = h.1.within

-- nor those after one that is after the route
pub none_after : (f : Family) (b : List ℕ) (n from at : ℕ) (p : PrefixParts) → AreSorted f b n →
    NoneBetween f b from at p → route_key p < order_key (vrp_at f b at) → NoneBetween f b from n p
none_after f b n from at p s before past i low high v = elim (cases_lt i at) [
  | inl less ↦ before i low less v
  | inr more ↦
      let x : order_key (vrp_at f b at) ≤ order_key (vrp_at f b i) = s at i more high in
      let y = key_within (vrp_at f b i) p (origin_clear f _) v in
      absurd (omega arith)
]

-- nor those up to the next place
pub find_next : (f : Family) (b : List ℕ) (n from at r : ℕ) (p : PrefixParts) → f ≡ p.family →
    at < n → AreSorted f b n → NoneBetween f b from at p → (Covers (vrp_at f b at) p → ⊥) →
    (vrp_at f b at).prefix_len < 256 → p.len < 256 →
    IsNextPlace f b n at p.address p.len (vrp_at f b at).address r → NoneBetween f b from r p
find_next f b n from at r p e there s before apart small short h i low high v =
    elim (cases_lt i at) [
      | inl less ↦ before i low less v
      | inr more ↦ elim (cases_lt at i) [
        | inr same ↦
            let at_it : i ≡ at = omega arith in
            apart (subst (λ (j : ℕ). Covers (vrp_at f b j) p) at_it v)
        | inl past ↦
            let w : r ≤ n = h.within in
            let sh : (vrp_at f b i).prefix_len ≤ p.len = v.shorter in
            let order : order_key (vrp_at f b at) ≤ order_key (vrp_at f b i) =
            s at i (omega arith) (omega arith) in
            let bits = subst (λ (g : Family). first_bits (width g) h.bits p.address
            ≡ first_bits (width g) h.bits (vrp_at f b at).address) e h.shared in
            elim (cases_lt h.bits (vrp_at f b i).prefix_len) [
              | inr few ↦ apart (longer (vrp_at f b i) (vrp_at f b at) p h.bits (origin_clear f _) v
                  (family_is f _ ∙ e) order small (omega arith) bits few)
              | inl many ↦ elim h.bound [
                | inl all ↦ absurd (omega arith)
                | inr bound ↦
                    let x = below_bound f b n (at + 1) n _ r (omega arith) bound s i (omega arith)
                    high in
                    let y = key_above (vrp_at f b i) p (h.bits + 1) (origin_clear f _) v
                    (omega arith) in
                    let z = subst (λ (g : Family). cleared (width g) (h.bits + 1) p.address * 256
                    + (h.bits + 1) ≤ order_key (vrp_at f b i)) (sym e) y in
                    absurd (omega arith)
              ]
            ]
      ]
    ]

-- ---- at their places in data

pub none_from : (f : Family) (b : List ℕ) (far start to : ℕ) (p : PrefixParts) → start ≤ far →
    NoneBetween f b start to p → NoneBetween f b far to p
none_from f b far start to p few h i low high v = h i (omega arith) high v
