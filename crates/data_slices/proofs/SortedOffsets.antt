-- Places in the order of names.
use Rattle.data_slices.specs.AtOffsets.{HasUnit, HaveUnits}
use Rattle.std.proofs.Common.{◌≡◌, ◌≤◌, ◌<◌, ℕ, suc, ◌+◌, Bool, true, false, cond, eqb, List}
use Rattle.std.proofs.Common.{[], ◌∷◌, ◌++◌, drop, filter, get_or, length, map, All, sum_by, Option}
use Rattle.std.proofs.Common.{Some, None, ◌⊎◌, inl, inr, refl, sym, ap, subst, ◌∙◌, arith}
use Rattle.std.proofs.Common.{append_assoc, length-append, IsSome}
use Rattle.std.proofs.lemmas.Bool.{true≢false, false≢true, cases_lt}
use Rattle.std.proofs.lemmas.List.Elements.{All-cons, All-head, All-nil, All-tail}
use Rattle.std.proofs.lemmas.List.Sorted.{All-permutation, sorted_far, sum_by-IsPermutation}
use Rattle.std.proofs.lemmas.List.Sums.{sum_by-cons}
use Rattle.std.proofs.Math.Seq.{drop-append_seam}
use Rattle.std.specs.Cmp.{Equal-is, ranks}
use Rattle.std.specs.List.{AllByRecursion}
use Rattle.std.specs.List.Sorted.{IsPermutation, IsSortedBy}
use Rattle.std.specs.Option.{option_cmp}
use Rattle.std.specs.Ordering.{MatchOrdering, is_eq, is_lt, nat_cmp, ordering_then}
use Rattle.std.specs.declared.cmp.Ordering.{Ordering}
use Rattle.std.specs.declared.cmp.Ordering.TheVariants.{Less, Equal, Greater}
use Rattle.rtr_base.specs.Bytes.{IsBytes}
use Rattle.rtr_base.proofs.Numbers.{IsBytes-drop}
use Rattle.rtr_payload.specs.FirstFault.{BeginsEnd, BeginsUnit, first_fault}
use Rattle.rtr_payload.specs.Payloads.{Meaning, Payload}
use Rattle.rtr_payload.proofs.Apart.{begins_apart}
use Rattle.rtr_payload.proofs.Rests.{begins_unit_none, one_holds}
use Rattle.data_memory.specs.Data.{Change, name_cmp}
use Rattle.data_memory.specs.Deltas.{unit_of}
use Rattle.data_memory.specs.Sequences.{change_of}
use Rattle.data_memory.proofs.Merge.{laws}
use Rattle.data_slices.specs.Net.{of_name}
use Rattle.data_slices.specs.PrivateOffsets.{MeansAt, TellsUnits, SortsOffsets}
use Rattle.data_slices.specs.PrivateOffsets.{UnitsAt, meaning_cmp, offset_cmp}
use Rattle.data_slices.proofs.UnitsAt.{means_same, one_unit, places_ranked}

-- ---- a reading of the input

abbrev some_of : {X : Type 0} → Option X → Bool
some_of (Some x) = true
some_of None = false

no_unit_but : (r : List ℕ) → BeginsEnd r ⊎ IsSome (first_fault r) → BeginsUnit r → ⊥
no_unit_but r (inl d) u = begins_apart r u d
no_unit_but r (inr f) u =
    absurd (true≢false (sym f ∙ ap (λ o. some_of o) (begins_unit_none r u)))

abbrev meant_of : (r : List ℕ) → BeginsUnit r ⊎ (BeginsEnd r ⊎ IsSome (first_fault r)) →
    Option Meaning
meant_of r (inl u) = Some u.means
meant_of r (inr d) = None

meant_right : (input : List ℕ) (o : ℕ)
    (w : BeginsUnit (drop o input) ⊎ (BeginsEnd (drop o input)
    ⊎ IsSome (first_fault (drop o input)))) → MeansAt input o (meant_of (drop o input) w)
meant_right input o (inl u) =
    record { bytes = u.bytes; left = u.rest; unit = u.unit; parts = u.parts }
meant_right input o (inr d) = no_unit_but (drop o input) d

module _ (input : List ℕ) (bytes : IsBytes input) where
  pub reading : ℕ → Option Meaning
  reading o = meant_of (drop o input) (one_holds (drop o input) (IsBytes-drop o input bytes))

  pub reads : TellsUnits input reading
  unfolding reading
  reads o = meant_right input o (one_holds (drop o input) (IsBytes-drop o input bytes))

-- ---- units at places

pub same_changes : (input : List ℕ) (v : ℕ) (os : List ℕ) (cs ds : List Change) →
    HaveUnits input v os cs → HaveUnits input v os ds → cs ≡ ds
same_changes input v [] [] [] h j = refl
same_changes input v [] [] (d ∷ ds) h j = absurd j
same_changes input v [] (c ∷ cs) ds h j = absurd h
same_changes input v (o ∷ os) [] ds h j = absurd h
same_changes input v (o ∷ os) (c ∷ cs) [] h j = absurd j
same_changes input v (o ∷ os) (c ∷ cs) (d ∷ ds) (h, hs) (j, js) =
    let first : c ≡ d = ap change_of (one_unit input o (unit_of v c) (unit_of v d) h j) in
    let rest : cs ≡ ds = same_changes input v os cs ds hs js in
    (λ i. first i ∷ rest i)

-- a change of the version is made there
abbrev Made : (input : List ℕ) → (v : ℕ) → ℕ → Type 0
Made input v o = (c : Change) × HasUnit input o (unit_of v c)

all_made : (input : List ℕ) (v : ℕ) (os : List ℕ) (cs : List Change) → HaveUnits input v os cs →
    All (Made input v) os
all_made input v [] cs h = All-nil (Made input v)
all_made input v (o ∷ os) [] h = absurd h
all_made input v (o ∷ os) (c ∷ cs) (h, hs) =
    All-cons (Made input v) o os (c, h) (all_made input v os cs hs)

made_all : (input : List ℕ) (v : ℕ) (os : List ℕ) → All (Made input v) os →
    (cs : List Change) × HaveUnits input v os cs
made_all input v [] h = ([], tt)
made_all input v (o ∷ os) h =
    let (c, u) = All-head (Made input v) o os h in
    let (cs, us) = made_all input v os (All-tail (Made input v) o os h) in
    (c ∷ cs, (u, us))

pub have_at : (input pre b suf : List ℕ) (from v : ℕ) (cs : List Change) (os : List ℕ) →
    input ≡ pre ++ (b ++ suf) → from ≡ length pre → UnitsAt from b (map (unit_of v) cs) os →
    HaveUnits input v os cs
have_at input pre b suf from v [] [] parts is u = tt
have_at input pre b suf from v [] (o ∷ os) parts is u = absurd u
have_at input pre b suf from v (c ∷ cs) [] parts is u = absurd u
have_at input pre b suf from v (c ∷ cs) (o ∷ os) parts is (first, rest, split, unit, at, more) = (
  record {
    bytes = first;
    left = rest ++ suf;
    unit = unit;
    parts =
        (λ i. drop ((at ∙ is) i) (parts i)) ∙ drop-append_seam pre (b ++ suf)
        ∙ ap (λ l. l ++ suf) split ∙ append_assoc first rest suf;
  },
  have_at input (pre ++ first) rest suf (from + length first) v cs os
      (parts ∙ ap (λ l. pre ++ (l ++ suf)) split
      ∙ ap (λ l. pre ++ l) (append_assoc first rest suf)
      ∙ sym (append_assoc pre first (rest ++ suf)))
      (omega (arith, is, length-append pre first)) more,
)

-- ---- numbers that don't fall

abbrev pub Rise : List ℕ → Type 0
Rise [] = Unit {0}
Rise (x ∷ xs) = AllByRecursion (λ y. x ≤ y) xs × Rise xs

abbrev is : ℕ → ℕ → ℕ
is z x = cond (eqb z x) 1 0

is_itself : (z : ℕ) → is z z ≡ 1
is_itself z = ap (λ b. cond b 1 0) (eqb-itself z)
  where
    eqb-itself : (z : ℕ) → eqb z z ≡ true
    eqb-itself z = grind arith

is_other : (z x : ℕ) → z < x → is z x ≡ 0
is_other z x h = ap (λ b. cond b 1 0) (eqb-below z x h)
  where
    eqb-below : (z x : ℕ) → z < x → eqb z x ≡ false
    eqb-below z x h = grind arith

none_of : (z : ℕ) (xs : List ℕ) → AllByRecursion (λ y. z < y) xs → sum_by (is z) xs ≡ 0
none_of z [] h = refl
none_of z (x ∷ xs) (g, h) =
    sum_by-cons (is z) x xs
    ∙ omega (arith, is_other z x g, none_of z xs h)

all_over : (z y : ℕ) (ys : List ℕ) → z < y → AllByRecursion (λ x. y ≤ x) ys →
    AllByRecursion (λ x. z < x) ys
all_over z y [] h a = tt
all_over z y (x ∷ ys) h (g, a) = (omega arith, all_over z y ys h a)

first_below : (x y : ℕ) (xs ys : List ℕ) → Rise (y ∷ ys) →
    sum_by (is x) (x ∷ xs) ≡ sum_by (is x) (y ∷ ys) → y ≤ x
first_below x y xs ys (a, r) e = elim (cases x y) [
  | inl lt ↦
      absurd (let none : sum_by (is x) (y ∷ ys) ≡ 0 =
      none_of x (y ∷ ys) (lt, all_over x y ys lt a) in
      let one : sum_by (is x) (x ∷ xs) ≡ is x x + sum_by (is x) xs = sum_by-cons (is x) x xs in
      omega (arith, none, one, is_itself x, e))
  | inr le ↦ le
]
  where
    cases : (x y : ℕ) → (x < y) ⊎ (y ≤ x)
    cases x y = cases_lt x y

same_rise : (xs ys : List ℕ) → Rise xs → Rise ys →
    ((z : ℕ) → sum_by (is z) xs ≡ sum_by (is z) ys) → xs ≡ ys
same_rise [] [] r s e = refl
same_rise [] (y ∷ ys) r s e =
    absurd (omega (arith, e y, sum_by-cons (is y) y ys, is_itself y))
same_rise (x ∷ xs) [] r s e =
    absurd (omega (arith, e x, sum_by-cons (is x) x xs, is_itself x))
same_rise (x ∷ xs) (y ∷ ys) r s e =
    let low = first_below x y xs ys s (e x) in
    let high = first_below y x ys xs r (sym (e y)) in
    let first : x ≡ y = omega (arith, low, high) in
    let rest : xs ≡ ys =
    same_rise xs ys r.1 s.1
    (λ z. omega (arith, e z, sum_by-cons (is z) x xs, sum_by-cons (is z) y ys, ap (is z) first)) in
    (λ i. first i ∷ rest i)

-- what a test lets through counts as often
kept_sum_at : (t : ℕ → Bool) (z x : ℕ) (xs : List ℕ) (b : Bool) → t x ≡ b →
    sum_by (is z) (filter t xs) ≡ sum_by (λ o. cond (t o) (is z o) 0) xs →
    sum_by (is z) (cond b (x ∷ filter t xs) (filter t xs)) ≡
    cond b (is z x) 0 + sum_by (λ o. cond (t o) (is z o) 0) xs
kept_sum_at t z x xs true e ih =
    sum_by-cons (is z) x (filter t xs) ∙ ap (λ n. is z x + n) ih
kept_sum_at t z x xs false e ih = ih ∙ omega arith

kept_sum : (t : ℕ → Bool) (z : ℕ) (xs : List ℕ) →
    sum_by (is z) (filter t xs) ≡ sum_by (λ o. cond (t o) (is z o) 0) xs
kept_sum t z [] = refl
kept_sum t z (x ∷ xs) =
    kept_sum_at t z x xs (t x) refl (kept_sum t z xs)
    ∙ sym (sum_by-cons (λ o. cond (t o) (is z o) 0) x xs)

same_kept : (t : ℕ → Bool) (xs ys : List ℕ) → IsPermutation xs ys → Rise (filter t xs) →
    Rise (filter t ys) → filter t ys ≡ filter t xs
same_kept t xs ys p r s =
    same_rise (filter t ys) (filter t xs) s r
    (λ z. kept_sum t z ys ∙ sum_by-IsPermutation (λ o. cond (t o) (is z o) 0) xs ys p
    ∙ sym (kept_sum t z xs))

-- ---- places as units lie

rise_at : (from : ℕ) (b : List ℕ) (ms : List Meaning) (os : List ℕ) → UnitsAt from b ms os →
    AllByRecursion (λ o. from ≤ o) os × Rise os
rise_at from b [] [] u = (tt, tt)
rise_at from b [] (o ∷ os) u = absurd u
rise_at from b (m ∷ ms) [] u = absurd u
rise_at from b (m ∷ ms) (o ∷ os) (first, rest, split, unit, at, more) =
    let ih = rise_at (from + length first) rest ms os more in (
      (omega arith, weaker (from + length first) from os (omega arith) ih.0),
      (weaker (from + length first) o os (omega arith) ih.0, ih.1),
    )
  where
    weaker : (x y : ℕ) (os : List ℕ) → y ≤ x → AllByRecursion (λ o. x ≤ o) os →
        AllByRecursion (λ o. y ≤ o) os
    weaker x y [] h a = tt
    weaker x y (o ∷ os) h (g, a) = (omega arith, weaker x y os h a)

all_kept : (P : ℕ → Type 0) (t : ℕ → Bool) (xs : List ℕ) → AllByRecursion P xs →
    AllByRecursion P (filter t xs)
all_kept P t [] h = tt
all_kept P t (x ∷ xs) (g, h) =
    elim (t x) as (λ b. AllByRecursion P (cond b (x ∷ filter t xs) (filter t xs))) [
      | true ↦ (g, all_kept P t xs h)
      | false ↦ all_kept P t xs h
    ]

rise_kept : (t : ℕ → Bool) (xs : List ℕ) → Rise xs → Rise (filter t xs)
rise_kept t [] r = tt
rise_kept t (x ∷ xs) (a, r) =
    elim (t x) as (λ b. Rise (cond b (x ∷ filter t xs) (filter t xs))) [
      | true ↦ (all_kept (λ y. x ≤ y) t xs a, rise_kept t xs r)
      | false ↦ rise_kept t xs r
    ]

-- ---- places in order

-- no later one is less
abbrev Up : (ℕ → ℕ → Bool) → List ℕ → Type 0
Up lt [] = Unit {0}
Up lt (x ∷ xs) = AllByRecursion (λ y. lt y x ≡ false) xs × Up lt xs

above_first : (lt : ℕ → ℕ → Bool) (x : ℕ) (xs : List ℕ) →
    ((k : ℕ) → k < length xs → lt (get_or xs k x) x ≡ false) →
    AllByRecursion (λ y. lt y x ≡ false) xs
above_first lt x [] h = tt
above_first lt x (y ∷ ys) h =
    (h 0 (omega arith), above_first lt x ys (λ k p. h (suc k) (omega arith)))

up_of : (lt : ℕ → ℕ → Bool) (xs : List ℕ) → ((i j d : ℕ) → i ≤ j → j < length xs →
    lt (get_or xs j d) (get_or xs i d) ≡ false) → Up lt xs
up_of lt [] h = tt
up_of lt (x ∷ xs) h = (
  above_first lt x xs (λ k p. h 0 (suc k) x (omega arith) (omega arith)),
  up_of lt xs (λ i j d p q. h (suc i) (suc j) d (omega arith) (omega arith)),
)

sorted_up : (at : ℕ → Option Meaning) (os : List ℕ) →
    IsSortedBy (λ (x y : ℕ). is_lt (offset_cmp at x y)) os →
    Up (λ x y. is_lt (offset_cmp at x y)) os
sorted_up at os h =
    up_of (λ x y. is_lt (offset_cmp at x y)) os
    (sorted_far (λ x y. is_lt (offset_cmp at x y)) (places_ranked at) os h)

-- of one name, the later place is above
above_place : (y x : ℕ) → is_lt (nat_cmp y x) ≡ false → x ≤ y
above_place y x h = by_rank (nat_cmp y x) (ranks y x) h
  where
    by_rank : (o : Ordering) → MatchOrdering o (y < x) (y ≡ x) (x < y) → is_lt o ≡ false → x ≤ y
    by_rank Less r h = absurd (true≢false h)
    by_rank Equal r h = omega arith
    by_rank Greater r h = omega arith

-- whether what is read there is of the name
abbrev pub names : Payload → Option Meaning → Bool
names p None = false
names p (Some m) = is_eq (name_cmp p m.payload)

tied_places : (p : Payload) (x y : Option Meaning) → names p x ≡ true → names p y ≡ true →
    option_cmp meaning_cmp x y ≡ Equal
tied_places p None y n m = absurd (false≢true n)
tied_places p (Some x) None n m = absurd (false≢true m)
tied_places p (Some x) (Some y) n m =
    (Equal-is (name_cmp x.payload y.payload)).0
    (sym (laws.congr p x.payload y.payload n) ∙ m)

module _ (at : ℕ → Option Meaning) (p : Payload) where
  abbrev t : ℕ → Bool
  t o = names p (at o)

  later_above : (x y : ℕ) → t x ≡ true → t y ≡ true → is_lt (offset_cmp at y x) ≡ false → x ≤ y
  later_above x y n m h =
      above_place y x
      (sym (ap (λ o. is_lt (ordering_then o (nat_cmp y x))) (tied_places p (at y) (at x) m n)) ∙ h)

  all_above_at : (x y : ℕ) (ys : List ℕ) (b : Bool) → t y ≡ b → t x ≡ true →
      is_lt (offset_cmp at y x) ≡ false → AllByRecursion (λ z. x ≤ z) ys →
      AllByRecursion (λ z. x ≤ z) (cond b (y ∷ ys) ys)
  all_above_at x y ys true e n h a = (later_above x y n e h, a)
  all_above_at x y ys false e n h a = a

  all_above : (x : ℕ) (ys : List ℕ) → t x ≡ true →
      AllByRecursion (λ y. is_lt (offset_cmp at y x) ≡ false) ys →
      AllByRecursion (λ z. x ≤ z) (filter t ys)
  all_above x [] n a = tt
  all_above x (y ∷ ys) n (h, a) =
      all_above_at x y (filter t ys) (t y) refl n h (all_above x ys n a)

  rise_named_at : (x : ℕ) (xs : List ℕ) (b : Bool) → t x ≡ b →
      AllByRecursion (λ y. is_lt (offset_cmp at y x) ≡ false) xs → Rise (filter t xs) →
      Rise (cond b (x ∷ filter t xs) (filter t xs))
  rise_named_at x xs true e a r = (all_above x xs e a, r)
  rise_named_at x xs false e a r = r

  rise_named : (xs : List ℕ) → Up (λ x y. is_lt (offset_cmp at x y)) xs → Rise (filter t xs)
  rise_named [] u = tt
  rise_named (x ∷ xs) (a, u) = rise_named_at x xs (t x) refl a (rise_named xs u)

-- the changes of a name are those of its places
name_places_at : (input : List ℕ) (v : ℕ) (o : ℕ) (c : Change) (os : List ℕ) (cs : List Change)
    (a b : Bool) → a ≡ b → HasUnit input o (unit_of v c) → HaveUnits input v os cs →
    HaveUnits input v (cond a (o ∷ os) os) (cond b (c ∷ cs) cs)
name_places_at input v o c os cs true true e h hs = (h, hs)
name_places_at input v o c os cs true false e h hs = absurd (true≢false e)
name_places_at input v o c os cs false true e h hs = absurd (false≢true e)
name_places_at input v o c os cs false false e h hs = hs

pub name_places : (input : List ℕ) (at : ℕ → Option Meaning) → TellsUnits input at → (p : Payload)
    (v : ℕ) (os : List ℕ) (cs : List Change) → HaveUnits input v os cs →
    HaveUnits input v (filter (λ o. names p (at o)) os) (of_name p cs)
name_places input at r p v [] [] h = tt
name_places input at r p v [] (c ∷ cs) h = absurd h
name_places input at r p v (o ∷ os) [] h = absurd h
name_places input at r p v (o ∷ os) (c ∷ cs) (h, hs) =
    name_places_at input v o c (filter (λ o. names p (at o)) os) (of_name p cs)
    (names p (at o)) (is_eq (name_cmp p c.payload))
    (ap (names p) (means_same input o (unit_of v c) (at o) h (r o))) h
    (name_places input at r p v os cs hs)

-- ---- changes in the order of names

abbrev pub Ascending : List Change → Type 0
Ascending [] = Unit {0}
Ascending (c ∷ cs) =
    AllByRecursion (λ d. is_lt (name_cmp d.payload c.payload) ≡ false) cs × Ascending cs

then_less : (o p : Ordering) → is_lt (ordering_then o p) ≡ false → is_lt o ≡ false
then_less Less p h = h
then_less Equal p h = refl
then_less Greater p h = refl

module _ (input : List ℕ) (at : ℕ → Option Meaning) (r : TellsUnits input at) (v : ℕ) where
  name_above : (o n : ℕ) (c d : Change) → HasUnit input o (unit_of v c) →
      HasUnit input n (unit_of v d) → is_lt (offset_cmp at n o) ≡ false →
      is_lt (name_cmp d.payload c.payload) ≡ false
  name_above o n c d h j a =
      let at_o : at o ≡ Some (unit_of v c) = means_same input o (unit_of v c) (at o) h (r o) in
      let at_n : at n ≡ Some (unit_of v d) = means_same input n (unit_of v d) (at n) j (r n) in
      sym (λ i. is_lt (option_cmp meaning_cmp (at_n i) (at_o i)))
      ∙ then_less (option_cmp meaning_cmp (at n) (at o)) (nat_cmp n o) a

  names_above : (o : ℕ) (c : Change) (os : List ℕ) (cs : List Change) →
      HasUnit input o (unit_of v c) → HaveUnits input v os cs →
      AllByRecursion (λ n. is_lt (offset_cmp at n o) ≡ false) os →
      AllByRecursion (λ d. is_lt (name_cmp d.payload c.payload) ≡ false) cs
  names_above o c [] [] h hs a = tt
  names_above o c [] (d ∷ ds) h hs a = absurd hs
  names_above o c (n ∷ os) [] h hs a = absurd hs
  names_above o c (n ∷ os) (d ∷ ds) h (j, hs) (g, a) =
      (name_above o n c d h j g, names_above o c os ds h hs a)

  ascending : (os : List ℕ) (cs : List Change) → HaveUnits input v os cs →
      Up (λ x y. is_lt (offset_cmp at x y)) os → Ascending cs
  ascending [] [] h u = tt
  ascending [] (c ∷ cs) h u = absurd h
  ascending (o ∷ os) [] h u = absurd h
  ascending (o ∷ os) (c ∷ cs) (h, hs) (a, u) =
      (names_above o c os cs h hs a, ascending os cs hs u)

-- ---- all of it

-- the places in order, and the changes there, which are of each name those of the input
pub record InOrder (input os : List ℕ) (cs : List Change) (v : ℕ) (ps : List ℕ) : Type 0 where
  pub ds : List Change
  pub units : HaveUnits input v ps ds
  pub ordered : Ascending ds
  pub at : ℕ → Option Meaning
  pub reads_at : TellsUnits input at
  pub same_places : (p : Payload) →
      filter (λ o. names p (at o)) ps ≡ filter (λ o. names p (at o)) os
  pub same_of : (p : Payload) → of_name p ds ≡ of_name p cs

pub in_order_at : (input os : List ℕ) (cs : List Change) (v : ℕ) (ps : List ℕ) → IsBytes input →
    HaveUnits input v os cs → Rise os → IsPermutation os ps → SortsOffsets input ps →
    InOrder input os cs v ps
in_order_at input os cs v ps bytes have rise perm sorted =
    let at = reading input bytes in
    let r = reads input bytes in
    let (ds, there) =
    made_all input v ps (All-permutation (Made input v) os ps perm (all_made input v os cs have)) in
    let up = sorted_up at ps (sorted at r) in
    let same : (p : Payload) →
    filter (λ o. names p (at o)) ps ≡ filter (λ o. names p (at o)) os = λ p.
    same_kept (λ o. names p (at o)) os ps perm (rise_kept (λ o. names p (at o)) os rise)
    (rise_named at p ps up) in
    record {
      ds = ds;
      units = there;
      ordered = ascending input at r v ps ds there up;
      at = at;
      reads_at = r;
      same_places = same;
      same_of = λ p.
          same_changes input v (filter (λ o. names p (at o)) os) (of_name p ds) (of_name p cs)
          (subst (λ l. HaveUnits input v l (of_name p ds)) (same p)
          (name_places input at r p v ps ds there))
          (name_places input at r p v os cs have);
    }

pub in_order : (input os : List ℕ) (cs : List Change) (v : ℕ) (front suf : List ℕ)
    (ps : List ℕ) → IsBytes input → input ≡ front ++ suf →
    UnitsAt 0 front (map (unit_of v) cs) os → IsPermutation os ps → SortsOffsets input ps →
    InOrder input os cs v ps
in_order input os cs v front suf ps bytes parts units perm sorted =
    in_order_at input os cs v ps bytes (have_at input [] front suf 0 v cs os parts refl units)
    (rise_at 0 front (map (unit_of v) cs) os units).1 perm sorted
