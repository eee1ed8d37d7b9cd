-- What tables say is what data says.
use Rattle.std.proofs.Common.{◌≡◌, ℕ, ◌*◌, ◌≤◌, ◌<◌, inl, inr, refl, sym, ap, arith}
use Rattle.std.proofs.Common.{List, subst, ◌∙◌, drop, true, false, Bool, length}
use Rattle.rtr_base.specs.Addresses.{Family, v4, v6, PrefixParts, v4_test}
use Rattle.rtr_units.specs.End.{EndMeaning}
use Rattle.rtr_units.specs.PrefixUnits.{OriginParts}
use Rattle.rtr_payload.specs.Payloads.{Payload, origin}
use Rattle.data_slices.specs.Canonical.{HoldsData}
use Rattle.data_validation.specs.Validity.{Covers, IsValidity, Matches}
use Rattle.data_validation.specs.Tables.{AreAtLeast, AreTables, vrp_at}
use Rattle.data_validation.specs.PrivateTable.{AreSorted, IsTable, TableSays, route}
use Rattle.data_validation.specs.declared.tables.Around.{Around}
use Rattle.data_validation.specs.declared.tables.Tables.{Tables}
use Rattle.data_validation.specs.declared.validity.Validity.{Validity}
use Rattle.data_validation.specs.declared.validity.Validity.TheVariants.{NotFound, Valid, Invalid}
use Rattle.data_validation.proofs.Among.{IsAmong, among, contained}
use Rattle.data_validation.proofs.Order.{class_of}
use Rattle.data_validation.proofs.Parted.{Parted, family_is, parted}
use Rattle.data_validation.proofs.Runs.{of_data}

pub to_prefix : (p : PrefixParts) (f : Family) (x l : ℕ) → f ≡ p.family → x ≡ p.address →
    l ≡ p.len → route f x l ≡ p
to_prefix p f x l a b c = λ i. record { family = a i; address = b i; len = c i }

pub is_v4 : (f : Family) (b : Bool) → b ≡ v4_test f → b ≡ true → v4 ≡ f
is_v4 v4 b e h = refl
is_v4 v6 b e h = absurd cc

pub is_v6 : (f : Family) (b : Bool) → b ≡ v4_test f → b ≡ false → v6 ≡ f
is_v6 v4 b e h = absurd cc
is_v6 v6 b e h = refl

-- where the units of a table are the VRPs of the route's family
says : (f : Family) (b : List ℕ) (n : ℕ) (p : PrefixParts) (a : ℕ) (d : List Payload)
    (answer : Validity) → ((i : ℕ) → i < n → IsAmong (origin (vrp_at f b i)) d) →
    ((v : OriginParts) → IsAmong (origin v) d → v.family ≡ p.family →
    (i : ℕ) × (i < n) × (v ≡ vrp_at f b i)) →
    TableSays answer f b n p a → IsValidity d p a answer
says f b n p a d NotFound here there h = λ v m c.
    let w = there v (among (origin v) d m) c.family in
    h w.0 w.1 (subst (λ (x : OriginParts). Covers x p) w.2 c)
says f b n p a d Valid here there h = (vrp_at f b h.0, contained _ d (here h.0 h.1), h.2)
says f b n p a d Invalid here there h = (
  (vrp_at f b h.0.0, contained _ d (here h.0.0 h.0.1), h.0.2),
  λ v m c.
      let w = there v (among (origin v) d m) c.covers.family in
      h.1 w.0 w.1 (subst (λ (x : OriginParts). Matches x p a) w.2 c),
)

pub first_part : (b : List ℕ) (t : Tables) (d : List Payload) (e : EndMeaning) → AreTables b t →
    HoldsData b d e → Parted v4 b t.ipv4 e.version d e
first_part b t d e h j =
    parted v4 t.ipv4 b e.version d e h.ipv4 (of_data b d e j) (λ q m. omega arith)

pub second_part : (b : List ℕ) (t : Tables) (d : List Payload) (e : EndMeaning) → AreTables b t →
    (one : Parted v4 b t.ipv4 e.version d e) →
    Parted v6 (drop (t.ipv4 * 20) b) t.ipv6 e.version one.others e
second_part b t d e h one =
    parted v6 t.ipv6 (drop (t.ipv4 * 20) b) e.version one.others e h.ipv6 one.left
    (λ q m. let a = one.above q m in omega arith)

same_origin : (v w : OriginParts) → origin v ≡ origin w → v ≡ w
same_origin v w e = cc

pub sorted_v4 : (b : List ℕ) (t : Tables) (d : List Payload) (e : EndMeaning) → AreTables b t →
    HoldsData b d e → AreSorted v4 b t.ipv4
sorted_v4 b t d e h j = (first_part b t d e h j).sorted

pub sorted_v6 : (b : List ℕ) (t : Tables) (d : List Payload) (e : EndMeaning) → AreTables b t →
    HoldsData b d e → AreSorted v6 (drop (t.ipv4 * 20) b) t.ipv6
sorted_v6 b t d e h j = (second_part b t d e h (first_part b t d e h j)).sorted

pub says_v4 : (b : List ℕ) (t : Tables) (d : List Payload) (e : EndMeaning) (p : PrefixParts)
    (a : ℕ) (answer : Validity) → AreTables b t → HoldsData b d e → v4 ≡ p.family →
    TableSays answer v4 b t.ipv4 p a → IsValidity d p a answer
says_v4 b t d e p a answer h j f s =
    let one = first_part b t d e h j in
    says v4 b t.ipv4 p a d answer one.here
    (λ v m g. elim (one.among (origin v) m) [
      | inl w ↦ (w.0, w.1, same_origin v _ w.2)
      | inr w ↦
          let k = one.above (origin v) w in
          let z : class_of v.family ≡ 0 = ap class_of (g ∙ sym f) in
          absurd (omega arith)
    ]) s

pub says_v6 : (b : List ℕ) (t : Tables) (d : List Payload) (e : EndMeaning) (p : PrefixParts)
    (a : ℕ) (answer : Validity) → AreTables b t → HoldsData b d e → v6 ≡ p.family →
    TableSays answer v6 (drop (t.ipv4 * 20) b) t.ipv6 p a → IsValidity d p a answer
says_v6 b t d e p a answer h j f s =
    let one = first_part b t d e h j in
    let two = second_part b t d e h one in
    says v6 (drop (t.ipv4 * 20) b) t.ipv6 p a d answer (λ i k. one.there _ (two.here i k))
    (λ v m g. elim (one.among (origin v) m) [
      | inl w ↦
          let z : class_of v.family ≡ 1 = ap class_of (g ∙ sym f) in
          let y : class_of v.family ≡ 0 =
          ap (λ (o : OriginParts). class_of o.family) (same_origin v _ w.2)
          ∙ ap class_of (family_is v4 _) in
          absurd (omega arith)
      | inr w ↦ elim (two.among (origin v) w) [
        | inl x ↦ (x.0, x.1, same_origin v _ x.2)
        | inr x ↦
            let k = two.above (origin v) x in
            let z : class_of v.family ≡ 1 = ap class_of (g ∙ sym f) in
            absurd (omega arith)
      ]
    ]) s

-- ---- the same, as the code names the values

pub done_v4 : (b : List ℕ) (t : Tables) (d : List Payload) (e : EndMeaning) (p : PrefixParts)
    (x l k n : ℕ) (answer : Validity) (T : (n : ℕ) → PrefixParts → Type 0) → AreTables b t →
    HoldsData b d e → v4 ≡ p.family → x ≡ p.address → l ≡ p.len → n ≡ t.ipv4 →
    (AreSorted v4 b t.ipv4 → T t.ipv4 (route v4 x l)) →
    (T n (route v4 x l) → TableSays answer v4 b n (route v4 x l) k) →
    IsValidity d p k answer
done_v4 b t d e p x l k n answer T h j f ex el en table s =
    says_v4 b t d e p k answer h j f
    (subst (λ (m : ℕ). TableSays answer v4 b m p k) en
    (subst (λ (q : PrefixParts). TableSays answer v4 b n q k) (to_prefix p v4 x l f ex el)
    (s (subst (λ (m : ℕ). T m (route v4 x l)) (sym en) (table (sorted_v4 b t d e h j))))))

pub done_v6 : (b : List ℕ) (t : Tables) (d : List Payload) (e : EndMeaning) (p : PrefixParts)
    (x l k i n : ℕ) (u : List ℕ) (answer : Validity)
    (T : (u : List ℕ) → (n : ℕ) → PrefixParts → Type 0) → u ≡ drop (i * 20) b → AreTables b t →
    HoldsData b d e → v6 ≡ p.family → x ≡ p.address → l ≡ p.len → i ≡ t.ipv4 → n ≡ t.ipv6 →
    (AreSorted v6 u n → ((j : ℕ) → j < n → t.shortest_ipv6 ≤ (vrp_at v6 u j).prefix_len) →
    T u n (route v6 x l)) →
    (T u n (route v6 x l) → TableSays answer v6 u n (route v6 x l) k) →
    IsValidity d p k answer
done_v6 b t d e p x l k i n u answer T eu h j f ex el ei en table s =
    let whole : u ≡ drop (t.ipv4 * 20) b = eu ∙ ap (λ (m : ℕ). drop (m * 20) b) ei in
    let sorted : AreSorted v6 u n =
    subst (λ (w : List ℕ). AreSorted v6 w n) (sym whole)
    (subst (λ (m : ℕ). AreSorted v6 (drop (t.ipv4 * 20) b) m) (sym en) (sorted_v6 b t d e h j)) in
    let least : (q : ℕ) → q < n → t.shortest_ipv6 ≤ (vrp_at v6 u q).prefix_len =
    subst (λ (w : List ℕ). AreAtLeast v6 w n t.shortest_ipv6) (sym whole)
    (subst (λ (m : ℕ). AreAtLeast v6 (drop (t.ipv4 * 20) b) m t.shortest_ipv6) (sym en) h.least6) in
    says_v6 b t d e p k answer h j f
    (subst (λ (m : ℕ). TableSays answer v6 (drop (t.ipv4 * 20) b) m p k) en
    (subst (λ (w : List ℕ). TableSays answer v6 w n p k) whole
    (subst (λ (q : PrefixParts). TableSays answer v6 u n q k) (to_prefix p v6 x l f ex el)
    (s (table sorted least)))))

pub room_v6 : (b : List ℕ) (t : Tables) (i n : ℕ) (u : List ℕ) → u ≡ drop (i * 20) b →
    AreTables b t → i ≡ t.ipv4 → n ≡ t.ipv6 → n * 32 ≤ length u
room_v6 b t i n u eu h ei en =
    subst (λ (w : List ℕ). n * 32 ≤ length w) (sym eu)
    (subst (λ (m : ℕ). n * 32 ≤ length (drop (m * 20) b)) (sym ei)
    (subst (λ (m : ℕ). m * 32 ≤ length (drop (t.ipv4 * 20) b)) (sym en) h.ipv6.room))

-- where nothing more is known around a route
pub whole_table : (t : Tables) (u : List ℕ) (n : ℕ) (q : PrefixParts) (around : Around) →
    around ≡ record { shortest = t.shortest_ipv6; low = 0; top = t.ipv6 } → n ≡ t.ipv6 →
    AreSorted v6 u n → AreAtLeast v6 u n t.shortest_ipv6 →
    IsTable v6 u n around.shortest around.low around.top q
whole_table t u n q around e en sorted least =
    subst (λ (a : Around). IsTable v6 u n a.shortest a.low a.top q) (sym e) (record {
      sorted = sorted;
      least = λ i k v. least i k;
      below = λ k. absurd (omega arith);
      above = λ k. absurd (omega arith);
    })
