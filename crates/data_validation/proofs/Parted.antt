-- A run of units, as the payloads that they announce.
use Rattle.std.proofs.Common.{◌≡◌, ℕ, ◌+◌, ◌*◌, ◌≤◌, ◌<◌, ◌⊎◌, inl, inr, refl, sym, ap, arith}
use Rattle.std.proofs.Common.{suc, zero}
use Rattle.std.proofs.Common.{List, [], ◌∷◌, subst, ◌∙◌, length, take, drop, length-drop}
use Rattle.std.proofs.lemmas.List.{drop-drop}
use Rattle.std.proofs.lemmas.Bool.{cases_lt}
use Rattle.std.specs.List.Sorted.{IsStrictlySortedBy}
use Rattle.std.specs.declared.cmp.Ordering.TheVariants.{Less}
use Rattle.rtr_base.specs.Addresses.{Family, v4, v6, width}
use Rattle.rtr_units.specs.End.{EndMeaning}
use Rattle.rtr_units.specs.Header.{type_field}
use Rattle.rtr_units.specs.PrefixUnits.{OriginParts, prefix_size, prefix_type}
use Rattle.rtr_payload.specs.Payloads.{Payload, origin, IsPayload, LengthsInOrder}
use Rattle.data_memory.specs.Data.{name_cmp}
use Rattle.std.proofs.Common.{Some, slice_get}
use Rattle.data_validation.specs.Tables.{IsUnitRun, order_key, vrp_at, vrp_of}
use Rattle.data_validation.specs.PrivateTable.{AreSorted}
use Rattle.data_validation.proofs.Among.{IsAmong}
use Rattle.data_validation.proofs.Order.{among_all, class, class_mono, class_of, key_mono}
use Rattle.data_validation.proofs.Runs.{Left, apart_first, first_unit, nothing_left}

-- ---- the run after its first unit

step_size : (f : Family) (i : ℕ) → prefix_size f + i * prefix_size f ≡ suc i * prefix_size f
step_size v4 i = omega arith
step_size v6 i = omega arith

nought : (f : Family) → 0 * prefix_size f ≡ 0
nought v4 = refl
nought v6 = refl

some_size : (f : Family) → 0 < prefix_size f
some_size v4 = omega arith
some_size v6 = omega arith

pub dropped : (f : Family) (b : List ℕ) (i : ℕ) →
    drop (i * prefix_size f) (drop (prefix_size f) b) ≡ drop (suc i * prefix_size f) b
dropped f b i =
    drop-drop (i * prefix_size f) (prefix_size f) b ∙ ap (λ (n : ℕ). drop n b) (step_size f i)

pub at_front : (f : Family) (b : List ℕ) → drop (0 * prefix_size f) b ≡ b
at_front f b = ap (λ (n : ℕ). drop n b) (nought f)

run_first : (f : Family) (b : List ℕ) (n : ℕ) → IsUnitRun f b (suc n) → type_field b ≡ prefix_type f
run_first f b n h = ap type_field (sym (at_front f b)) ∙ h.each 0 (omega arith)

run_rest : (f : Family) (b : List ℕ) (n : ℕ) → IsUnitRun f b (suc n) →
    IsUnitRun f (drop (prefix_size f) b) n
run_rest f b n h =
    let room = h.room in
    record {
      room = omega (arith, length-drop (prefix_size f) b, step_size f n, room);
      each = λ i k. ap type_field (dropped f b i) ∙ h.each (suc i) (omega arith);
      last = λ w t. h.last (subst (λ (l : List ℕ). prefix_size f ≤ length l) (dropped f b n) w)
          (sym (ap type_field (dropped f b n)) ∙ t);
    }

vrp_next : (f : Family) (b : List ℕ) (i : ℕ) →
    vrp_at f (drop (prefix_size f) b) i ≡ vrp_at f b (suc i)
vrp_next f b i = ap (λ (l : List ℕ). vrp_of f (take (prefix_size f) l)) (dropped f b i)

vrp_first : (f : Family) (b : List ℕ) → vrp_of f (take (prefix_size f) b) ≡ vrp_at f b 0
vrp_first f b = ap (λ (l : List ℕ). vrp_of f (take (prefix_size f) l)) (sym (at_front f b))

pub family_is : (f : Family) (x : List ℕ) → (vrp_of f x).family ≡ f
unfolding vrp_of
family_is f x = refl

width_few : (f : Family) → width f ≤ 128
width_few v4 = omega arith
width_few v6 = omega arith

small : (o : OriginParts) → IsPayload (origin o) → o.prefix_len < 256
small o h = let w = width_few o.family in omega (arith, h.lengths)

-- ---- all of it

pub record Parted (f : Family) (b : List ℕ) (n v : ℕ) (d : List Payload) (e : EndMeaning) :
    Type 0 where
  pub others : List Payload
  pub left : Left v (drop (n * prefix_size f) b) others e
  pub here : (i : ℕ) → i < n → IsAmong (origin (vrp_at f b i)) d
  pub among : (q : Payload) → IsAmong q d →
      ((i : ℕ) × (i < n) × (q ≡ origin (vrp_at f b i))) ⊎ IsAmong q others
  pub there : (q : Payload) → IsAmong q others → IsAmong q d
  pub above : (q : Payload) → IsAmong q others → class_of f < class q
  pub sorted : AreSorted f b n
  pub at : (i : ℕ) → i < n → slice_get d i ≡ Some (origin (vrp_at f b i))
  pub after : (i : ℕ) → slice_get d (n + i) ≡ slice_get others i
  pub lengths : (i : ℕ) → i < n → LengthsInOrder (vrp_at f b i)

none_here : (f : Family) (v : ℕ) (b : List ℕ) (d : List Payload) (e : EndMeaning) →
    Left v b d e → ((q : Payload) → IsAmong q d → class_of f ≤ class q) →
    (prefix_size f ≤ length b → type_field b ≡ prefix_type f → ⊥) →
    (q : Payload) → IsAmong q d → class_of f < class q
unfolding IsStrictlySortedBy
none_here f v b [] e h low none q m = absurd m
none_here f v b (p ∷ ps) e h low none q m =
    let first : class_of f < class p = elim (cases_lt (class_of f) (class p)) [
      | inl l ↦ l
      | inr g ↦
          let k : class_of f ≤ class p = low p (inl refl) in
          absurd (apart_first f v b p ps e h none (omega arith))
    ] in
    later first m
  where
    later : class_of f < class p → IsAmong q (p ∷ ps) → class_of f < class q
    later first (inl same) = subst (λ (x : Payload). class_of f < class x) same first
    later first (inr m) =
        let o = class_mono p q (among_all (λ x. name_cmp p x ≡ Less) ps h.in_order.0 q m) in
        omega arith

pub parted : (f : Family) (n : ℕ) (b : List ℕ) (v : ℕ) (d : List Payload) (e : EndMeaning) →
    IsUnitRun f b n → Left v b d e → ((q : Payload) → IsAmong q d → class_of f ≤ class q) →
    Parted f b n v d e
unfolding IsStrictlySortedBy
parted f zero b v d e run h low = record {
  others = d;
  left = subst (λ (l : List ℕ). Left v l d e) (sym (at_front f b)) h;
  here = λ i k. absurd (omega arith);
  among = λ q m. inr m;
  there = λ q m. m;
  above = none_here f v b d e h low (λ w t. run.last
      (subst (λ (l : List ℕ). prefix_size f ≤ length l) (sym (at_front f b)) w)
      (ap type_field (at_front f b) ∙ t));
  sorted = λ i j k l. absurd (omega arith);
  at = λ i k. absurd (omega arith);
  after = λ i. ap (slice_get d) (omega arith);
  lengths = λ i k. absurd (omega arith);
}
parted f (suc n) b v [] e run h low = absurd (nothing_left f v b e h (run_first f b n run))
parted f (suc n) b v (p ∷ ps) e run h low =
    let one = first_unit f v b p ps e h (run_first f b n run) in
    let more = parted f n (drop (prefix_size f) b) v ps e (run_rest f b n run) one.left
    (λ q m. low q (inr m)) in
    let means : p ≡ origin (vrp_at f b 0) =
    one.means ∙ ap origin (vrp_first f b) in
    record {
      others = more.others;
      left = subst (λ (l : List ℕ). Left v l more.others e) (dropped f b n) more.left;
      here = here more means;
      among = among more means;
      there = λ q m. inr (more.there q m);
      above = more.above;
      sorted = sorted one.range more means;
      at = at more means;
      after = λ i. ap (slice_get (p ∷ ps)) (next_place i) ∙ more.after i;
      lengths = lengths one.range more means;
    }
  where
    next_place : (i : ℕ) → suc n + i ≡ suc (n + i)
    next_place i = omega arith

    at : Parted f (drop (prefix_size f) b) n v ps e → p ≡ origin (vrp_at f b 0) → (i : ℕ) →
        i < suc n → slice_get (p ∷ ps) i ≡ Some (origin (vrp_at f b i))
    at more means zero k = ap (λ (x : Payload). Some x) means
    at more means (suc i) k =
        more.at i (omega arith) ∙ ap (λ (w : OriginParts). Some (origin w)) (vrp_next f b i)

    lengths : IsPayload p → Parted f (drop (prefix_size f) b) n v ps e →
        p ≡ origin (vrp_at f b 0) → (i : ℕ) → i < suc n → LengthsInOrder (vrp_at f b i)
    lengths range more means zero k =
        let r : IsPayload (origin (vrp_at f b 0)) = subst IsPayload means range in
        r.lengths
    lengths range more means (suc i) k =
        subst LengthsInOrder (vrp_next f b i) (more.lengths i (omega arith))

    here : Parted f (drop (prefix_size f) b) n v ps e → p ≡ origin (vrp_at f b 0) →
        (i : ℕ) → i < suc n → IsAmong (origin (vrp_at f b i)) (p ∷ ps)
    here more means zero k = inl means
    here more means (suc i) k =
        inr (subst (λ (w : OriginParts). IsAmong (origin w) ps) (vrp_next f b i)
        (more.here i (omega arith)))

    among : (more : Parted f (drop (prefix_size f) b) n v ps e) → p ≡ origin (vrp_at f b 0) →
        (q : Payload) → IsAmong q (p ∷ ps) →
        ((i : ℕ) × (i < suc n) × (q ≡ origin (vrp_at f b i))) ⊎ IsAmong q more.others
    among more means q (inl same) = inl (0, omega arith, sym same ∙ means)
    among more means q (inr m) = elim (more.among q m) [
      | inl w ↦ inl (suc w.0, omega (arith, w.1), w.2 ∙ ap origin (vrp_next f b w.0))
      | inr w ↦ inr w
    ]

    sorted : IsPayload p → Parted f (drop (prefix_size f) b) n v ps e →
        p ≡ origin (vrp_at f b 0) → AreSorted f b (suc n)
    sorted range more means zero zero k l = omega arith
    sorted range more means (suc i) zero k l = absurd (omega arith)
    sorted range more means zero (suc j) k l =
        let m : IsAmong (origin (vrp_at f b (suc j))) ps =
        subst (λ (w : OriginParts). IsAmong (origin w) ps) (vrp_next f b j)
        (more.here j (omega arith)) in
        let o = among_all (λ x. name_cmp p x ≡ Less) ps h.in_order.0 _ m in
        key_mono (vrp_at f b 0) (vrp_at f b (suc j))
        (subst (λ (x : Payload). name_cmp x (origin (vrp_at f b (suc j))) ≡ Less) means o)
        (family_is f _ ∙ sym (family_is f _))
        (small (vrp_at f b 0) (subst IsPayload means range))
    sorted range more means (suc i) (suc j) k l =
        let s = more.sorted i j (omega arith) (omega arith) in
        subst (λ (w : OriginParts). order_key w ≤ order_key (vrp_at f b (suc j))) (vrp_next f b i)
        (subst (λ (w : OriginParts). order_key (vrp_at f (drop (prefix_size f) b) i) ≤ order_key w)
        (vrp_next f b j) s)
