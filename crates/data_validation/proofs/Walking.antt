-- Walks over units of one family.
use Rattle.std.proofs.Common.{◌≡◌, ℕ, ◌+◌, ◌-◌, ◌*◌, ◌≤◌, ◌<◌, List, Bool, true, false, refl, sym}
use Rattle.std.proofs.Common.{arith, drop, inl, inr, slice_index, subst, ◌⊎◌}
use Rattle.std.proofs.lemmas.Bool.{cases_lt, true≢false}
use Rattle.rtr_base.specs.Addresses.{Family, PrefixParts, width, cleared}
use Rattle.rtr_units.specs.Header.{type_field}
use Rattle.rtr_units.specs.PrefixUnits.{prefix_size, prefix_type}
use Rattle.data_validation.specs.Validity.{Covers, Matches, first_bits}
use Rattle.data_validation.specs.PrivateTable.{AreSorted, IsUpperBound, IsTable, UnitsPassed}
use Rattle.data_validation.specs.PrivateTable.{Sought}
use Rattle.data_validation.specs.PrivateTable.{TableSays, answer_of, route_key}
use Rattle.data_validation.specs.Tables.{AreAtLeast, AreAtLeastBy, order_key, vrp_at}
use Rattle.data_validation.proofs.Bits.{between, key_below, key_within, origin_clear}

pub all_passed : (f : Family) (b : List ℕ) (n : ℕ) (p : PrefixParts) (a : ℕ) (covered : Bool)
    (IsDone : ℕ → Type 0) → UnitsPassed f b n p a covered IsDone →
    ((i : ℕ) → i < n → IsDone i) → TableSays (answer_of covered) f b n p a
all_passed f b n p a true IsDone h all =
    (h.some refl, λ i k m. (h.passed i k (all i k) m.covers).1 m)
all_passed f b n p a false IsDone h all =
    λ i k c. absurd (true≢false (sym ((h.passed i k (all i k) c).0)))

-- one more, which doesn't cover
pub more_apart : (f : Family) (b : List ℕ) (n : ℕ) (p : PrefixParts) (a : ℕ) (covered : Bool)
    (x : ℕ) → UnitsPassed f b n p a covered (λ i. i < x) → (Covers (vrp_at f b x) p → ⊥) →
    UnitsPassed f b n p a covered (λ i. i < x + 1)
more_apart f b n p a covered x h apart = record {
  some = h.some;
  passed = λ i k d c. elim (cases_lt i x) [
    | inl less ↦ h.passed i k less c
    | inr most ↦
        let same : i ≡ x = omega arith in
        absurd (apart (subst (λ (j : ℕ). Covers (vrp_at f b j) p) same c))
  ];
}

-- one more, which covers and doesn't match
pub more_covers : (f : Family) (b : List ℕ) (n : ℕ) (p : PrefixParts) (a : ℕ) (covered : Bool)
    (x : ℕ) → x < n → UnitsPassed f b n p a covered (λ i. i < x) → Covers (vrp_at f b x) p →
    (Matches (vrp_at f b x) p a → ⊥) → UnitsPassed f b n p a true (λ i. i < x + 1)
more_covers f b n p a covered x within h here apart = record {
  some = λ e. (x, within, here);
  passed = λ i k d c. (
    refl,
    elim (cases_lt i x) [
      | inl less ↦ (h.passed i k less c).1
      | inr most ↦
          let same : i ≡ x = omega arith in
          λ m. apart (subst (λ (j : ℕ). Matches (vrp_at f b j) p a) same m)
    ],
  );
}

-- ---- from the last that may cover down

-- from the bound on, all are above
pub above_bound : (f : Family) (b : List ℕ) (n low top t r : ℕ) → top ≤ n →
    IsUpperBound f b low top t r → AreSorted f b n → (i : ℕ) → r ≤ i → i < top →
    t < order_key (vrp_at f b i)
above_bound f b n low top t r within h s i from to =
    let first : t < order_key (vrp_at f b r) = h.above (omega arith) in
    let k : order_key (vrp_at f b r) ≤ order_key (vrp_at f b i) = s r i from (omega arith) in
    omega arith

-- below it none is
pub below_bound : (f : Family) (b : List ℕ) (n low top t r : ℕ) → top ≤ n →
    IsUpperBound f b low top t r → AreSorted f b n → (i : ℕ) → low ≤ i → i < r →
    order_key (vrp_at f b i) ≤ t
below_bound f b n low top t r within h s i from to =
    let last : order_key (vrp_at f b (r - 1)) ≤ t = h.below (omega arith) in
    let end : r ≤ top = h.within in
    let k : order_key (vrp_at f b i) ≤ order_key (vrp_at f b (r - 1)) =
    s i (r - 1) (omega arith) (omega arith) in
    omega arith

-- a bound within bounds
pub widened : (f : Family) (b : List ℕ) (low top from to t r : ℕ) → from ≤ low → top ≤ to →
    (from < low → order_key (vrp_at f b (low - 1)) ≤ t) →
    (top < to → t < order_key (vrp_at f b top)) →
    IsUpperBound f b low top t r → IsUpperBound f b from to t r
widened f b low top from to t r wide high under over h =
    let l : low ≤ r = h.least in
    let w : r ≤ top = h.within in
    record {
      least = omega arith;
      within = omega arith;
      below = λ k. elim (cases_lt low r) [
        | inl more ↦ h.below more
        | inr same ↦
            let e : low ≡ r = omega arith in
            subst (λ (x : ℕ). order_key (vrp_at f b (x - 1)) ≤ t) e (under (omega arith))
      ];
      above = λ k. elim (cases_lt r top) [
        | inl less ↦ h.above less
        | inr same ↦
            let e : top ≡ r = omega arith in
            subst (λ (x : ℕ). t < order_key (vrp_at f b x)) e (over (omega arith))
      ];
    }

pub seek_first : (f : Family) (b : List ℕ) (n s low top : ℕ) (p : PrefixParts) (a r : ℕ) →
    top ≤ n → IsUpperBound f b low top (route_key p) r →
    Sought f b n p a false r (IsTable f b n s low top p)
seek_first f b n s low top p a r most h =
    let w : r ≤ top = h.within in
    let l : low ≤ r = h.least in
    record {
      within = omega arith;
      limit = λ t i k. elim (cases_lt i low) [
        | inl before ↦
            let x : order_key (vrp_at f b (low - 1)) ≤ route_key p = t.below (omega arith) in
            let y : order_key (vrp_at f b i) ≤ order_key (vrp_at f b (low - 1)) =
            t.sorted i (low - 1) (omega arith) (omega arith) in
            omega arith
        | inr behind ↦ below_bound f b n low top _ r most h t.sorted i behind k
      ];
      done = record {
        some = λ e. absurd (true≢false (sym e));
        passed = λ i k d c.
            let y = key_within (vrp_at f b i) p (origin_clear f _) c in
            elim (cases_lt i top) [
              | inl inside ↦
                  let x = above_bound f b n low top _ r most h d.0.sorted i d.1 inside in
                  absurd (omega arith)
              | inr past ↦
                  let x : route_key p < order_key (vrp_at f b top) = d.0.above (omega arith) in
                  let z : order_key (vrp_at f b top) ≤ order_key (vrp_at f b i) =
                  d.0.sorted top i past k in
                  absurd (omega arith)
            ];
      };
    }

-- the last covers, and doesn't match
pub seek_covers : (f : Family) (b : List ℕ) (n : ℕ) (p : PrefixParts) (a : ℕ) (covered : Bool)
    (high : ℕ) (T : Type 0) → 0 < high → Sought f b n p a covered high T →
    Covers (vrp_at f b (high - 1)) p → (Matches (vrp_at f b (high - 1)) p a → ⊥) →
    Sought f b n p a true (high - 1) T
seek_covers f b n p a covered high T some h here apart =
    let w : high ≤ n = h.within in
    record {
      within = omega arith;
      limit = λ s i k. h.limit s i (omega arith);
      done = record {
        some = λ e. (high - 1, omega arith, here);
        passed = λ i k d c. (
          refl,
          elim (cases_lt i high) [
            | inl less ↦
                let same : i ≡ high - 1 = omega (arith, d.1) in
                λ m. apart (subst (λ (j : ℕ). Matches (vrp_at f b j) p a) same m)
            | inr more ↦ (h.done.passed i k (d.0, more) c).1
          ],
        );
      };
    }

-- what covers below a unit is not longer than the bits that the unit shares with the route
few_bits : (f : Family) (b : List ℕ) (n : ℕ) (p : PrefixParts) (last s c i : ℕ) → last < n →
    AreSorted f b n → order_key (vrp_at f b last) ≤ route_key p →
    p.len ≤ width p.family → p.len < 256 → (vrp_at f b last).prefix_len < 256 →
    ((l : ℕ) → l ≤ width p.family → first_bits (width p.family) l p.address
    ≡ first_bits (width p.family) l (vrp_at f b last).address → l ≤ s) →
    (p.len < s → c ≡ p.len) → (s ≤ p.len → c ≡ s) → i < last → Covers (vrp_at f b i) p →
    (vrp_at f b i).prefix_len ≤ c
few_bits f b n p last s c i there t lim len short small few long less before v =
    let low : order_key (vrp_at f b i) ≤ order_key (vrp_at f b last) =
    t i last (omega arith) (omega arith) in
    let e = between (vrp_at f b i) (vrp_at f b last) p v low lim small short in
    let sh : (vrp_at f b i).prefix_len ≤ p.len = v.shorter in
    let fits : (vrp_at f b i).prefix_len ≤ width p.family = omega arith in
    let l : (vrp_at f b i).prefix_len ≤ s = few (vrp_at f b i).prefix_len fits e in
    elim (cases_lt p.len s) [
      | inl u ↦ subst (λ (x : ℕ). (vrp_at f b i).prefix_len ≤ x) (sym (long u)) sh
      | inr u ↦ subst (λ (x : ℕ). (vrp_at f b i).prefix_len ≤ x) (sym (less u)) l
    ]

-- the last doesn't cover: below it only what shares as many bits with the route as it may cover
pub seek_below : (f : Family) (b : List ℕ) (n g low end : ℕ) (p : PrefixParts) (a : ℕ)
    (covered : Bool) (high s c r : ℕ) → 0 < high →
    Sought f b n p a covered high (IsTable f b n g low end p) → p.len ≤ width p.family →
    p.len < 256 → (vrp_at f b (high - 1)).prefix_len < 256 →
    (Covers (vrp_at f b (high - 1)) p → ⊥) →
    ((l : ℕ) → l ≤ width p.family → first_bits (width p.family) l p.address
    ≡ first_bits (width p.family) l (vrp_at f b (high - 1)).address → l ≤ s) →
    (p.len < s → c ≡ p.len) → (s ≤ p.len → c ≡ s) → r ≤ high - 1 →
    (c < g) ⊎ IsUpperBound f b 0 (high - 1) (cleared (width p.family) c p.address * 256 + c) r →
    Sought f b n p a covered r (IsTable f b n g low end p)
seek_below f b n g low end p a covered high s c r some h len short small apart few long less top
    bound =
    let w : high ≤ n = h.within in
    record {
      within = omega arith;
      limit = λ o i k. h.limit o i (omega arith);
      done = record {
        some = h.done.some;
        passed = λ i k d v. elim (cases_lt i high) [
          | inr more ↦ h.done.passed i k (d.0, more) v
          | inl under ↦ elim (cases_lt i (high - 1)) [
            | inr most ↦
                let same : i ≡ high - 1 = omega arith in
                absurd (apart (subst (λ (j : ℕ). Covers (vrp_at f b j) p) same v))
            | inl before ↦
                let lim : order_key (vrp_at f b (high - 1)) ≤ route_key p =
                h.limit d.0 (high - 1) (omega arith) in
                let lc = few_bits f b n p (high - 1) s c i (omega arith) d.0.sorted lim len short
                small few long less before v in
                elim bound [
                  | inl none ↦
                      let floor : g ≤ (vrp_at f b i).prefix_len = d.0.least i k v in
                      absurd (omega arith)
                  | inr bound ↦
                      let x = above_bound f b n 0 (high - 1) _ r (omega arith) bound d.0.sorted i
                      d.1 before in
                      let y = key_below (vrp_at f b i) p c (origin_clear f _) v lc in
                      absurd (omega arith)
                ]
          ]
        ];
      };
    }

-- one more unit of the type
pub types_more : (f : Family) (b r : List ℕ) (n : ℕ) → r ≡ drop (n * prefix_size f) b →
    ((i : ℕ) → i < n → type_field (drop (i * prefix_size f) b) ≡ prefix_type f) →
    type_field r ≡ prefix_type f → (i : ℕ) → i < n + 1 →
    type_field (drop (i * prefix_size f) b) ≡ prefix_type f
types_more f b r n at h here i k = elim (cases_lt i n) [
  | inl less ↦ h i less
  | inr most ↦
      let same : n ≡ i = omega arith in
      subst (λ (j : ℕ). type_field (drop (j * prefix_size f) b) ≡ prefix_type f) same
      (subst (λ (l : List ℕ). type_field l ≡ prefix_type f) at here)
]

-- one more unit, and the shorter of the lengths
pub least_more : (f : Family) (b : List ℕ) (n s w r : ℕ) → AreAtLeast f b n s →
    r ≡ (vrp_at f b n).prefix_len → w ≤ r → w ≤ s → AreAtLeast f b (n + 1) w
least_more f b n s w r h e low least i k = elim (cases_lt i n) [
  | inl less ↦ let x = h i less in omega arith
  | inr most ↦
      let same : n ≡ i = omega arith in
      subst (λ (j : ℕ). w ≤ (vrp_at f b j).prefix_len) same (omega arith)
]

-- one more, and the length for its byte lowered to its own
pub lengths_more : (f : Family) (b : List ℕ) (n k l : ℕ) (old new : List ℕ) →
    AreAtLeastBy f b n old → ((j : ℕ) → slice_index new j ≤ slice_index old j) →
    (8 ≤ l → k ≡ first_bits (width f) 8 (vrp_at f b n).address) → l ≡ (vrp_at f b n).prefix_len →
    slice_index new k ≤ l → AreAtLeastBy f b (n + 1) new
lengths_more f b n k l old new h all byte len here i within long = elim (cases_lt i n) [
  | inl less ↦
      let j = first_bits (width f) 8 (vrp_at f b i).address in
      let x = h i less long in
      let y = all j in
      omega arith
  | inr most ↦
      let same : n ≡ i = omega arith in
      let long' : 8 ≤ (vrp_at f b n).prefix_len =
      subst (λ (j : ℕ). 8 ≤ (vrp_at f b j).prefix_len) (sym same) long in
      let x : slice_index new (first_bits (width f) 8 (vrp_at f b n).address)
      ≤ (vrp_at f b n).prefix_len =
      subst (λ (j : ℕ). slice_index new j ≤ (vrp_at f b n).prefix_len)
      (byte (omega (arith, len, long'))) (omega arith) in
      subst (λ (j : ℕ). slice_index new (first_bits (width f) 8 (vrp_at f b j).address)
      ≤ (vrp_at f b j).prefix_len) same x
]
