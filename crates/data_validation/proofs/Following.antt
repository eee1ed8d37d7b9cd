-- The units that cover the last address, as a trail goes on.
use Rattle.std.proofs.Common.{◌≡◌, ℕ, ◌+◌, ◌*◌, ◌≤◌, ◌<◌, List, Bool, true, false, refl, sym}
use Rattle.std.proofs.Common.{arith, inl, inr, slice_index, slice_set, length, subst, ◌∙◌}
use Rattle.std.proofs.lemmas.Bool.{cases_lt, true≢false}
use Rattle.std.proofs.lemmas.List.{get_or-set_other, get_or-set_same}
use Rattle.rtr_base.specs.Addresses.{Family, v4, v6, PrefixParts, width}
use Rattle.rtr_units.specs.PrefixUnits.{OriginParts, prefix_size}
use Rattle.data_validation.specs.PrivateTable.{IsCoveringUnit, IsTable, IsUpperBound}
use Rattle.data_validation.specs.PrivateTable.{NoneBetween, TableSays, UnitsPassed, answer_of}
use Rattle.data_validation.specs.PrivateTable.{route}
use Rattle.data_validation.specs.PrivateTrail.{AreTrailUnits, IsAmongKept, IsGathered, IsTrail}
use Rattle.data_validation.specs.PrivateTrail.{IsTrailAt, host}
use Rattle.data_validation.specs.Tables.{order_key, vrp_at}
use Rattle.data_validation.specs.Validity.{Covers, Matches}
use Rattle.data_validation.specs.declared.trail.Trail.{Trail}
use Rattle.data_validation.proofs.Bits.{between, key_is, key_within, origin_clear}
use Rattle.data_validation.proofs.Walking.{above_bound, below_bound}

width_small : (f : Family) → width f < 256
width_small v4 = omega arith
width_small v6 = omega arith

-- What isn't after an address and covers a later one covers it too.
pub covered_before : (u : OriginParts) (f : Family) (last x : ℕ) →
    order_key u ≤ last * 256 + width f → last ≤ x → Covers u (host f x) → Covers u (host f last)
covered_before u f last x low order h =
    let q : OriginParts =
    record { family = f; address = last; prefix_len = width f; max_len = 0; asn = 0 } in
    let k = key_is q last (width f) refl refl in
    let small = width_small f in
    record {
      family = h.family;
      shorter = h.shorter;
      bits = h.bits ∙ between u q (host f x) h (omega arith) (omega arith) small small;
    }

-- What covers a route covers its address.
pub covers_host : (u : OriginParts) (f : Family) (x l : ℕ) → l ≤ width f →
    Covers u (route f x l) → Covers u (host f x)
covers_host u f x l few h =
    let s : u.prefix_len ≤ l = h.shorter in
    record { family = h.family; shorter = omega arith; bits = h.bits }

-- ---- room

pub room_to : (f : Family) (b : List ℕ) (i n : ℕ) → i ≤ n → n * prefix_size f ≤ length b →
    i * prefix_size f ≤ length b
room_to v4 b i n h room = omega arith
room_to v6 b i n h room = omega arith

-- ---- the kept units

-- the answer by those that are kept, as the loop goes on
pub more_apart : (f : Family) (b : List ℕ) (n : ℕ) (p : PrefixParts) (a : ℕ) (covered : Bool)
    (kept : List ℕ) (x : ℕ) → UnitsPassed f b n p a covered (IsAmongKept kept x) →
    (Covers (vrp_at f b (slice_index kept x)) p → ⊥) →
    UnitsPassed f b n p a covered (IsAmongKept kept (x + 1))
more_apart f b n p a covered kept x h apart = record {
  some = h.some;
  passed = λ i k d c.
      let before : IsAmongKept kept x i = λ no. d (λ j w same. elim (cases_lt j x) [
        | inl less ↦ no j less same
        | inr most ↦
            let last : j ≡ x = omega arith in
            let here : slice_index kept x ≡ i =
            subst (λ (y : ℕ). slice_index kept y ≡ i) last same in
            apart (subst (λ (y : ℕ). Covers (vrp_at f b y) p) (sym here) c)
      ]) in
      h.passed i k before c;
}

pub more_covers : (f : Family) (b : List ℕ) (n : ℕ) (p : PrefixParts) (a : ℕ) (covered : Bool)
    (kept : List ℕ) (x : ℕ) → slice_index kept x < n →
    UnitsPassed f b n p a covered (IsAmongKept kept x) →
    Covers (vrp_at f b (slice_index kept x)) p →
    (Matches (vrp_at f b (slice_index kept x)) p a → ⊥) →
    UnitsPassed f b n p a true (IsAmongKept kept (x + 1))
more_covers f b n p a covered kept x within h here apart = record {
  some = λ e. (slice_index kept x, within, here);
  passed = λ i k d c. (
    refl,
    λ m. d (λ j w same. elim (cases_lt j x) [
      | inl less ↦ (h.passed i k (λ no. no j less same) c).1 m
      | inr most ↦
          let last : j ≡ x = omega arith in
          let is : slice_index kept x ≡ i =
          subst (λ (y : ℕ). slice_index kept y ≡ i) last same in
          apart (subst (λ (y : ℕ). Matches (vrp_at f b y) p a) (sym is) m)
    ]),
  );
}

pub all_kept : (f : Family) (b : List ℕ) (n : ℕ) (p : PrefixParts) (a : ℕ) (covered : Bool)
    (IsDone : ℕ → Type 0) → UnitsPassed f b n p a covered IsDone →
    ((i : ℕ) → i < n → Covers (vrp_at f b i) p → IsDone i) →
    TableSays (answer_of covered) f b n p a
all_kept f b n p a true IsDone h all =
    (h.some refl, λ i k m. (h.passed i k (all i k m.covers) m.covers).1 m)
all_kept f b n p a false IsDone h all =
    λ i k c. absurd (true≢false (sym ((h.passed i k (all i k c) c).0)))

-- ---- as units are gathered

-- what the loop knows
pub record Gathering (f : Family) (b : List ℕ) (from at end : ℕ) (T : Type 0) (address : ℕ)
    (before : List ℕ) (count : ℕ) (after : List ℕ) (more : ℕ) : Type 0 where
  pub low : from ≤ at
  pub high : at ≤ end
  pub long : length after ≡ 64
  pub so_far : IsGathered f b from at T address before count after more

pub gather_first : (f : Family) (b : List ℕ) (from end : ℕ) (T : Type 0) (address : ℕ)
    (kept : List ℕ) (count : ℕ) → from ≤ end → length kept ≡ 64 → count ≤ 64 →
    Gathering f b from from end T address kept count kept count
gather_first f b from end T address kept count order long most = record {
  low = omega arith;
  high = order;
  long = long;
  so_far = record {
    least = omega arith;
    most = most;
    stays = λ k w. refl;
    each = λ k w h. absurd (omega arith);
    all = λ t i w h. absurd (omega arith);
  };
}

pub gather_more : (f : Family) (b : List ℕ) (from at end : ℕ) (T : Type 0) (address : ℕ)
    (before : List ℕ) (count : ℕ) (after : List ℕ) (more x : ℕ) → more < 64 →
    Gathering f b from at end T address before count after more →
    IsCoveringUnit f b end at (host f address) x →
    (T → NoneBetween f b at x (host f address)) → length (slice_set after more x) ≡ 64 →
    Gathering f b from (x + 1) end T address before count (slice_set after more x) (more + 1)
gather_more f b from at end T address before count after more x room h found none long =
    let g = h.so_far in
    let lo = h.low in
    let le = g.least in
    let fl = found.least in
    let fw = found.within in
    let there : more < length after = omega (arith, h.long, room) in
    let here : slice_index (slice_set after more x) more ≡ x =
    get_or-set_same after more x 0 there in
    let other : (k : ℕ) → k < more → slice_index (slice_set after more x) k ≡ slice_index after k =
    λ k w. get_or-set_other after more k x 0 (λ e. absurd (omega (arith, e, w))) in
    record {
      low = omega arith;
      high = omega arith;
      long = long;
      so_far = record {
        least = omega arith;
        most = omega arith;
        stays = λ k w. other k (omega arith) ∙ g.stays k w;
        each = λ k w s. elim (cases_lt k more) [
          | inl less ↦
              subst (λ (j : ℕ). j < x + 1) (sym (other k less))
              (let y = g.each k w less in omega arith)
          | inr most ↦
              let same : more ≡ k = omega arith in
              subst (λ (j : ℕ). slice_index (slice_set after more x) j < x + 1) same
              (subst (λ (j : ℕ). j < x + 1) (sym here) (omega arith))
        ];
        all = λ t i w s c. elim (cases_lt i at) [
          | inl less ↦
              λ no. g.all t i w less c (λ k v e. no k (omega arith) (other k v ∙ e))
          | inr past ↦ elim (cases_lt i x) [
            | inl before ↦ absurd (none t i past before c)
            | inr last ↦
                let same : x ≡ i = omega arith in
                λ no. no more (omega arith) (here ∙ same)
          ]
        ];
      };
    }

pub gather_last : (f : Family) (b : List ℕ) (from at end : ℕ) (T : Type 0) (address : ℕ)
    (before : List ℕ) (count : ℕ) (after : List ℕ) (more : ℕ) →
    Gathering f b from at end T address before count after more →
    (T → NoneBetween f b at end (host f address)) →
    IsGathered f b from end T address before count after more
gather_last f b from at end T address before count after more h none =
    let g = h.so_far in
    let hi = h.high in
    record {
      least = g.least;
      most = g.most;
      stays = g.stays;
      each = λ k w s. let y = g.each k w s in omega arith;
      all = λ t i w s c. elim (cases_lt i at) [
        | inl less ↦ g.all t i w less c
        | inr past ↦ absurd (none t i past s c)
      ];
    }

-- ---- a trail that went on

-- the table of the units up to one, of an address
pub host_table : (f : Family) (b : List ℕ) (n end s address : ℕ) → end ≤ n → AreTrailUnits f b n s →
    IsTable f b end s 0 end (host f address)
host_table f b n end s address few h = record {
  sorted = λ i j w k. h.0 i j w (omega arith);
  least = λ i k c. h.1 i (omega arith);
  below = λ k. absurd (omega arith);
  above = λ k. absurd (omega arith);
}

pub went_on : (f : Family) (b : List ℕ) (n s address : ℕ) (before after : Trail) (left : ℕ) →
    before.address ≤ address → IsTrail f b n s before → left ≤ before.count →
    ((k : ℕ) → left ≤ k → k < before.count →
    Covers (vrp_at f b (slice_index before.kept k)) (host f address) → ⊥) →
    IsUpperBound f b before.passed n (address * 256 + width f) after.passed →
    IsGathered f b before.passed after.passed
    (IsTable f b after.passed s 0 after.passed (host f address)) address before.kept left
    after.kept after.count →
    after.address ≡ address → IsTrail f b n s after
went_on f b n s address before after left order h few apart bound g here =
    let bl = bound.least in
    let bw = bound.within in
    let gl = g.least in
    record {
      within = bw;
      most = g.most;
      each = λ k w. elim (cases_lt k left) [
        | inl less ↦
            subst (λ (j : ℕ). j < after.passed) (sym (g.stays k less))
            (let y = h.each k (omega arith) in omega arith)
        | inr more ↦ g.each k more w
      ];
      before = λ o i w. subst (λ (x : ℕ). order_key (vrp_at f b i) ≤ x * 256 + width f) (sym here)
          (elim (cases_lt i before.passed) [
            | inl less ↦ let y = h.before o i less in omega arith
            | inr more ↦ below_bound f b n before.passed n _ after.passed (omega arith) bound o.0 i
                more w
          ]);
      all = λ o i w c.
          let c' : Covers (vrp_at f b i) (host f address) =
          subst (λ (x : ℕ). Covers (vrp_at f b i) (host f x)) here c in
          elim (cases_lt i before.passed) [
            | inl less ↦
                let y = h.all o i less
                (covered_before (vrp_at f b i) f before.address address (h.before o i less) order
                c') in
                λ no. y (λ k v e. elim (cases_lt k left) [
                  | inl kept ↦ no k (omega arith) (g.stays k kept ∙ e)
                  | inr gone ↦
                      apart k gone v
                      (subst (λ (j : ℕ). Covers (vrp_at f b j) (host f address)) (sym e) c')
                ])
            | inr more ↦
                g.all (host_table f b n after.passed s address bw o) i more w c'
          ];
    }

-- what isn't passed is after the address
pub is_at : (f : Family) (b : List ℕ) (n s address low : ℕ) (t : Trail) → t.address ≡ address →
    IsUpperBound f b low n (address * 256 + width f) t.passed → IsTrailAt f b n s address t
is_at f b n s address low t here bound = record {
  here = here;
  after = λ o i w k. above_bound f b n low n _ t.passed (omega arith) bound o.0 i w k;
}

-- all units that cover a route are kept
pub route_kept : (f : Family) (b : List ℕ) (n s address l : ℕ) (t : Trail) → l ≤ width f →
    IsTrail f b n s t → IsTrailAt f b n s address t → AreTrailUnits f b n s → (i : ℕ) → i < n →
    Covers (vrp_at f b i) (route f address l) → IsAmongKept t.kept t.count i
route_kept f b n s address l t few h at o i k c = elim (cases_lt i t.passed) [
  | inl less ↦
      h.all o i less (subst (λ (x : ℕ). Covers (vrp_at f b i) (host f x)) (sym at.here)
      (covers_host (vrp_at f b i) f address l few c))
  | inr more ↦
      let x = at.after o i more k in
      let y = key_within (vrp_at f b i) (route f address l) (origin_clear f _) c in
      absurd (omega arith)
]

-- ---- a trail that stays

pub stays : (f : Family) (b : List ℕ) (n s m : ℕ) (t u : Trail) → u ≡ record t { missed = m } →
    IsTrail f b n s t → IsTrail f b n s u
stays f b n s m t u e h = subst (λ (x : Trail). IsTrail f b n s x) (sym e) (record {
  within = h.within;
  most = h.most;
  each = h.each;
  before = h.before;
  all = h.all;
})
