-- What tables say of the units around a route.
use Rattle.std.proofs.Common.{◌≡◌, ℕ, ◌+◌, ◌-◌, ◌*◌, ◌/◌, ◌^◌, ◌≤◌, ◌<◌, List, sym, ap, arith}
use Rattle.std.proofs.Common.{subst, ◌∙◌, ◌⊎◌, slice_index, slice_set, length, inl, inr}
use Rattle.std.proofs.lemmas.List.{get_or-set_other, get_or-set_same}
use Rattle.std.proofs.lemmas.Bool.{cases_lt}
use Rattle.std.proofs.lemmas.Nat.{div-add-mod'}
use Rattle.std.proofs.Math.Nat.{lt-div-mul-add}
use Rattle.rtr_base.specs.Addresses.{v4}
use Rattle.data_validation.specs.PrivateTable.{AreSorted, IsUpperBound, IsTable, route}
use Rattle.data_validation.specs.Tables.{AreAtLeast, AreAtLeastBy, AreTables, IsStart}
use Rattle.data_validation.specs.Tables.{order_key, vrp_at}
use Rattle.data_validation.specs.Validity.{Covers, first_bits}
use Rattle.data_validation.specs.declared.tables.Tables.{Tables}
use Rattle.data_validation.proofs.Bits.{fewer}

-- the first byte of a route's address is that of the VRP's that covers it, if that has as many bits
pub least_by : (b : List ℕ) (n s : ℕ) (lengths : List ℕ) (x l : ℕ) → AreAtLeast v4 b n s →
    AreAtLeastBy v4 b n lengths → 8 ≤ s → (i : ℕ) → i < n →
    Covers (vrp_at v4 b i) (route v4 x l) →
    slice_index lengths (first_bits 32 8 x) ≤ (vrp_at v4 b i).prefix_len
least_by b n s lengths x l least h long i k v =
    let some : s ≤ (vrp_at v4 b i).prefix_len = least i k in
    let same : first_bits 32 8 (vrp_at v4 b i).address ≡ first_bits 32 8 x =
    fewer (vrp_at v4 b i).address x (32 - (vrp_at v4 b i).prefix_len) 24 (omega arith) v.bits in
    subst (λ (y : ℕ). slice_index lengths y ≤ (vrp_at v4 b i).prefix_len) same
    (h i k (omega arith))

-- the units before those of a byte are not after a route that begins with it
pub below_start : (b : List ℕ) (n s x l : ℕ) → IsStart b n (first_bits 32 8 x) s → 0 < s →
    order_key (vrp_at v4 b (s - 1)) ≤ x * 256 + l
below_start b n s x l h some =
    let k : order_key (vrp_at v4 b (s - 1)) < x / 2 ^ 24 * 2 ^ 32 = h.below some in
    omega (arith, k, div-add-mod' x (2 ^ 24))

-- those of the next byte are
pub above_start : (b : List ℕ) (n s x l : ℕ) → IsStart b n (first_bits 32 8 x + 1) s → l ≤ 32 →
    s < n → x * 256 + l < order_key (vrp_at v4 b s)
above_start b n s x l h few some =
    let k : (x / 2 ^ 24 + 1) * 2 ^ 32 ≤ order_key (vrp_at v4 b s) = h.above some in
    let r : x < x / 2 ^ 24 * 2 ^ 24 + 2 ^ 24 = lt-div-mul-add (omega arith) in
    omega (arith, k, r)

-- the bound of the number before all that begin with a byte
pub start_is : (b : List ℕ) (n k r x : ℕ) → 0 < k → x ≡ k * 2 ^ 24 - 1 →
    IsUpperBound v4 b 0 n (x * 256 + 255) r → IsStart b n k r
start_is b n k r x some e h =
    let t : x * 256 + 255 + 1 ≡ k * 2 ^ 32 = omega (arith, e) in
    record {
      within = h.within;
      below = λ s. let y = h.below s in omega (arith, t, y);
      above = λ s. let y = h.above s in omega (arith, t, y);
    }

-- those of the byte 0 begin at the first unit
pub start_of_none : (b : List ℕ) (n : ℕ) → IsStart b n 0 0
start_of_none b n = record {
  within = omega arith;
  below = λ s. absurd (omega arith);
  above = λ s. omega arith;
}

-- one start more
pub starts_more : (b : List ℕ) (n x r : ℕ) (starts : List ℕ) → x < length starts →
    ((k : ℕ) → k < x → IsStart b n k (slice_index starts k)) → IsStart b n x r →
    (k : ℕ) → k < x + 1 → IsStart b n k (slice_index (slice_set starts x r) k)
starts_more b n x r starts there h new k within = elim (cases_lt k x) [
  | inl less ↦
      subst (λ (s : ℕ). IsStart b n k s)
      (sym (get_or-set_other starts x k r 0 (λ e. absurd (omega (arith, e, less))))) (h k less)
  | inr most ↦
      let same : x ≡ k = omega arith in
      subst (λ (j : ℕ). IsStart b n j (slice_index (slice_set starts x r) j)) same
      (subst (λ (s : ℕ). IsStart b n x s) (sym (get_or-set_same starts x r 0 there)) new)
]

-- ---- what is known around a route

pub around : (b : List ℕ) (t : Tables) (x l byte s low top : ℕ) → AreTables b t →
    AreSorted v4 b t.ipv4 → l ≤ 32 → byte ≡ first_bits 32 8 x → byte < 256 →
    (s ≡ t.shortest_ipv4) ⊎ ((8 ≤ t.shortest_ipv4) × (s ≡ slice_index t.shortest byte)) →
    low ≡ slice_index t.starts byte →
    ((byte ≡ 255) × (top ≡ t.ipv4))
    ⊎ ((byte < 255) × (top ≡ slice_index t.starts (byte + 1))) →
    IsTable v4 b t.ipv4 s low top (route v4 x l)
around b t x l byte s low top h sorted few e small shortest first last = record {
  sorted = sorted;
  least = shortest_is b t x l byte s h e shortest;
  below = λ some.
      below_start b t.ipv4 low x l (subst (λ (k : ℕ). IsStart b t.ipv4 k low) e
      (subst (λ (r : ℕ). IsStart b t.ipv4 byte r) (sym first) (h.starts byte small))) some;
  above = λ some. elim last [
    | inl end ↦ absurd (omega (arith, end.1, some))
    | inr next ↦
        above_start b t.ipv4 top x l (subst (λ (k : ℕ). IsStart b t.ipv4 (k + 1) top) e
        (subst (λ (r : ℕ). IsStart b t.ipv4 (byte + 1) r) (sym next.1)
        (h.starts (byte + 1) (omega (arith, next.0))))) few some
  ];
}
  where
    shortest_is : (b : List ℕ) (t : Tables) (x l byte s : ℕ) → AreTables b t →
        byte ≡ first_bits 32 8 x →
        (s ≡ t.shortest_ipv4) ⊎ ((8 ≤ t.shortest_ipv4) × (s ≡ slice_index t.shortest byte)) →
        (i : ℕ) → i < t.ipv4 → Covers (vrp_at v4 b i) (route v4 x l) →
        s ≤ (vrp_at v4 b i).prefix_len
    shortest_is b t x l byte s h e (inl same) i k v =
        let y = h.least4 i k in omega (arith, same, y)
    shortest_is b t x l byte s h e (inr more) i k v =
        let y = least_by b t.ipv4 t.shortest_ipv4 t.shortest x l h.least4 h.lengths more.0 i k v in
        let z : s ≡ slice_index t.shortest (first_bits 32 8 x) =
        more.1 ∙ ap (slice_index t.shortest) e in
        omega (arith, y, z)

-- the same with no bounds
pub around_all : (b : List ℕ) (t : Tables) (x l s low top : ℕ) →
    IsTable v4 b t.ipv4 s low top (route v4 x l) → IsTable v4 b t.ipv4 s 0 t.ipv4 (route v4 x l)
around_all b t x l s low top h = record {
  sorted = h.sorted;
  least = h.least;
  below = λ some. absurd (omega arith);
  above = λ some. absurd (omega arith);
}
