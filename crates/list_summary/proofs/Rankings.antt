-- Entries of a map that are ranked one after the other.
use Rattle.std.proofs.Common.{◌≡◌, ◌≢◌, ℕ, ◌+◌, ◌^◌, ◌<◌, ◌≤◌, List, [], ◌∷◌, ◌++◌, suc, zero}
use Rattle.std.proofs.Common.{Bool, true, false, take, nat_lt, refl, ap, sym, ◌∙◌, arith}
use Rattle.std.proofs.Common.{None, Some, ⊎_elim, drop, length, not}
use Rattle.std.proofs.Common.{subst, map, append_assoc, append-nil}
use Rattle.std.specs.Prelude.{◌==◌, if◌then◌else◌}
use Rattle.std.specs.BTreeMap.{is_at}
use Rattle.std.specs.List.{AllByRecursion, insert, position_or_len}
use Rattle.std.specs.List.Sorted.{IsStrictlySortedBy}
use Rattle.std.specs.Map.{keys_of, lookup}
use Rattle.std.specs.Option.{unwrap_or}
use Rattle.std.specs.Ordering.{MatchOrdering, nat_cmp}
use Rattle.std.specs.declared.cmp.Ordering.TheVariants.{Less}
use Rattle.std.proofs.lemmas.Bool.{cases_lt}
use Rattle.std.proofs.lemmas.Bool.Decides.{nat_tests}
use Rattle.std.proofs.lemmas.Cmp.{ranked as by_cmp}
use Rattle.std.proofs.lemmas.List.{length-take-le, map-append, take-append-le, take-take}
use Rattle.std.proofs.lemmas.List.Sums.{prefix_len-le-length}
use Rattle.list_summary.specs.Summaries.{largest, ranked, ranking}

-- one entry ranked, unless it counts none
abbrev pub ranked_one : ℕ × ℕ → List (ℕ × ℕ) → List (ℕ × ℕ)
ranked_one row rows = if row.1 == 0 then rows else ranked row rows

-- all of them
abbrev pub ranked_all : List (ℕ × ℕ) → List (ℕ × ℕ) → List (ℕ × ℕ)
ranked_all rows [] = rows
ranked_all rows (e ∷ es) = ranked_all (ranked_one e rows) es

-- ---- where a row is put

put_behind : (row first : ℕ × ℕ) (rest : List (ℕ × ℕ)) (n : ℕ) →
    insert (first ∷ rest) (1 + n) row ≡ first ∷ insert rest n row
put_behind row first rest n =
    let same : 1 + n ≡ suc n = omega arith in
    ap (λ k. insert (first ∷ rest) k row) same

placed_by : (row first : ℕ × ℕ) (rest : List (ℕ × ℕ)) (b : Bool) → nat_lt first.1 row.1 ≡ b →
    insert rest (position_or_len (λ r. nat_lt r.1 row.1) rest) row ≡ ranked row rest →
    insert (first ∷ rest) (position_or_len (λ r. nat_lt r.1 row.1) (first ∷ rest)) row
    ≡ ranked row (first ∷ rest)
placed_by row first rest true is h = rw is refl
placed_by row first rest false is h =
    rw is (put_behind row first rest (position_or_len (λ r. nat_lt r.1 row.1) rest)
    ∙ ap (λ (l : List (ℕ × ℕ)). first ∷ l) h)

pub placed : (row : ℕ × ℕ) (rows : List (ℕ × ℕ)) →
    insert rows (position_or_len (λ r. nat_lt r.1 row.1) rows) row ≡ ranked row rows
placed row [] = refl
placed row (first ∷ rest) = placed_by row first rest _ refl (placed row rest)

-- a row that is put behind the first ones leaves these as they are
pub put_after : (n : ℕ) (row : ℕ × ℕ) (rows : List (ℕ × ℕ)) →
    n ≤ position_or_len (λ r. nat_lt r.1 row.1) rows → take n rows ≡ take n (ranked row rows)
put_after n row rows far =
    let place = position_or_len (λ (r : ℕ × ℕ). nat_lt r.1 row.1) rows in
    let within : place ≤ length rows =
    prefix_len-le-length (λ (r : ℕ × ℕ). not (nat_lt r.1 row.1)) rows in
    let long : n ≤ length (take place rows) =
    omega (arith, far, length-take-le place rows within) in
    sym (take-take n place rows far)
    ∙ sym (take-append-le n (take place rows) (row ∷ drop place rows) long)
    ∙ ap (λ (l : List (ℕ × ℕ)). take n l) (placed row rows)

-- ---- the first of a ranking

take_less : {A : Type 0} (n : ℕ) (l : List A) → take n (take (suc n) l) ≡ take n l
take_less zero l = refl
take_less (suc n) [] = refl
take_less (suc n) (x ∷ xs) = ap (λ (r : List _). x ∷ r) (take_less n xs)

take_behind : {A : Type 0} (n : ℕ) (x : A) (l : List A) → take n (x ∷ take n l) ≡ take n (x ∷ l)
take_behind zero x l = refl
take_behind (suc n) x l = ap (λ (r : List _). x ∷ r) (take_less n l)

first_by : (n : ℕ) (row first : ℕ × ℕ) (rest : List (ℕ × ℕ)) (b : Bool) →
    nat_lt first.1 row.1 ≡ b → take n (ranked row (take n rest)) ≡ take n (ranked row rest) →
    take (suc n) (ranked row (take (suc n) (first ∷ rest)))
    ≡ take (suc n) (ranked row (first ∷ rest))
first_by n row first rest true is h =
    rw is (ap (λ (l : List (ℕ × ℕ)). row ∷ l) (take_behind n first rest))
first_by n row first rest false is h = rw is (ap (λ (l : List (ℕ × ℕ)). first ∷ l) h)

pub first_ranked : (n : ℕ) (row : ℕ × ℕ) (rows : List (ℕ × ℕ)) →
    take n (ranked row (take n rows)) ≡ take n (ranked row rows)
first_ranked zero row rows = refl
first_ranked (suc n) row [] = refl
first_ranked (suc n) row (first ∷ rest) = first_by n row first rest _ refl (first_ranked n row rest)

-- ---- all entries of a map

-- an AS that counts none isn't ranked, and one that does is
counts_none : (f : ℕ → ℕ) (n : ℕ) → f n ≡ 0 → ranking f n ≡ ranking f (suc n)
unfolding ranking
counts_none f n none = rw none refl

counts_some : (f : ℕ → ℕ) (e : ℕ × ℕ) → f e.0 ≡ e.1 →
    ranked_one e (ranking f e.0) ≡ ranking f (suc e.0)
unfolding ranking
counts_some f e same = rw same refl

none_between : (f : ℕ → ℕ) (n m : ℕ) → n ≤ m → ((k : ℕ) → n ≤ k → k < m → f k ≡ 0) →
    ranking f n ≡ ranking f m
none_between f n zero most h = ap (ranking f) (omega arith)
none_between f n (suc m) most h =
    ⊎_elim (λ above. ap (ranking f) (omega (arith, above)))
    (λ within. none_between f n m within (λ k from below. h k from (omega arith))
    ∙ counts_none f m (h m within (omega arith)))
    (cases_lt m n)

pub ranked_push : (rows es : List (ℕ × ℕ)) (e : ℕ × ℕ) →
    ranked_all rows (es ++ e ∷ []) ≡ ranked_one e (ranked_all rows es)
ranked_push rows [] e = refl
ranked_push rows (x ∷ es) e = ranked_push (ranked_one x rows) es e

-- what is found of a key: nothing below all, the value at the first, and else what is in the rest
not_at : (k n v : ℕ) (es : List (ℕ × ℕ)) → k ≢ n →
    lookup (is_at (nat_cmp k)) ((n, v) ∷ es) ≡ lookup (is_at (nat_cmp k)) es
not_at k n v es apart =
    let no : is_at (nat_cmp k) n ≡ false = grind (arith, nat_tests, apart) in rw no refl

at_first : (k v : ℕ) (es : List (ℕ × ℕ)) → lookup (is_at (nat_cmp k)) ((k, v) ∷ es) ≡ Some v
at_first k v es =
    let yes : is_at (nat_cmp k) k ≡ true = grind (arith, nat_tests) in rw yes refl

below_all : (k n : ℕ) (es : List (ℕ × ℕ)) → k ≤ n → AllByRecursion (λ e. n < e.0) es →
    lookup (is_at (nat_cmp k)) es ≡ None
below_all k n [] most h = refl
below_all k n ((m, v) ∷ es) most (low, h) =
    not_at k m v es (omega (arith, low)) ∙ below_all k n es most h

less : (n m : ℕ) → nat_cmp n m ≡ Less → n < m
less n m h = subst (λ r. MatchOrdering r (n < m) (n ≡ m) (m < n)) h (by_cmp n m _ refl)

all_above : (n : ℕ) (es : List (ℕ × ℕ)) → AllByRecursion (λ m. nat_cmp n m ≡ Less) (keys_of es) →
    AllByRecursion (λ e. n < e.0) es
all_above n [] h = tt
all_above n (e ∷ es) (low, h) = (less n e.0 low, all_above n es h)

pub all_ranked : (f : ℕ → ℕ) (n m : ℕ) (es : List (ℕ × ℕ)) → n ≤ m →
    AllByRecursion (λ e. n ≤ e.0) es → AllByRecursion (λ e. e.0 < m) es →
    IsStrictlySortedBy nat_cmp (keys_of es) →
    ((k : ℕ) → n ≤ k → f k ≡ unwrap_or (lookup (is_at (nat_cmp k)) es) 0) →
    ranked_all (ranking f n) es ≡ ranking f m
unfolding IsStrictlySortedBy
all_ranked f n m [] most low high sorted is = none_between f n m most (λ k from _. is k from)
all_ranked f n m ((a, v) ∷ es) most (low, _) (high, highs) (first, sorted) is =
    let above = all_above a es first in
    let zeros : (k : ℕ) → n ≤ k → k < a → f k ≡ 0 =
    λ k from below. is k from ∙ ap (λ o. unwrap_or o 0)
    (not_at k a v es (omega (arith, below)) ∙ below_all k a es (omega (arith, below)) above) in
    let here : f a ≡ v = is a low ∙ ap (λ o. unwrap_or o 0) (at_first a v es) in
    ap (λ rows. ranked_all (ranked_one (a, v) rows) es) (none_between f n a low zeros)
    ∙ ap (λ rows. ranked_all rows es) (counts_some f (a, v) here)
    ∙ all_ranked f (suc a) m es high above highs sorted
    (λ k from. is k (omega (arith, from, low)) ∙ ap (λ o. unwrap_or o 0)
    (not_at k a v es (omega (arith, from))))

-- ---- a loop over the entries

counted : (a v : ℕ) (rows : List (ℕ × ℕ)) → 0 < v → ranked_one (a, v) rows ≡ ranked (a, v) rows
counted a v rows some =
    let no : v == 0 ≡ false = grind (arith, nat_tests, some) in rw no refl

uncounted : (a v : ℕ) (rows : List (ℕ × ℕ)) → v ≡ 0 → ranked_one (a, v) rows ≡ rows
uncounted a v rows none = rw none refl

all_push : {A : Type 0} (P : A → Type 0) (xs : List A) (x : A) → AllByRecursion P xs → P x →
    AllByRecursion P (xs ++ x ∷ [])
all_push P [] x h one = (one, tt)
all_push P (y ∷ ys) x (first, h) one = (first, all_push P ys x h one)

-- Of all entries, which `reads` shows, the first ones were gone over, and the rest weren't.
pub record SoFar {A : Type 0} (reads : A → ℕ × ℕ) (all : List (ℕ × ℕ)) (gone : List A)
    (rest rows : List (ℕ × ℕ)) : Type 0 where
  pub entries : all ≡ map reads gone ++ rest
  pub ranks : rows ≡ take 10 (ranked_all [] (map reads gone))
  pub range : AllByRecursion (λ e. e.0 < 2 ^ 32) (map reads gone)

module _ {A : Type 0} (reads : A → ℕ × ℕ) (all rest next rows : List (ℕ × ℕ)) (gone : List A)
    (x : A) (h : SoFar reads all gone rest rows) (takes : rest ≡ reads x ∷ next)
    (below : (reads x).0 < 2 ^ 32) where
  pushed : map reads (gone ++ x ∷ []) ≡ map reads gone ++ reads x ∷ []
  pushed = map-append reads gone (x ∷ [])

  entries_more : all ≡ map reads (gone ++ x ∷ []) ++ next
  entries_more =
      h.entries ∙ ap (λ l. map reads gone ++ l) takes
      ∙ sym (append_assoc (map reads gone) (reads x ∷ []) next)
      ∙ ap (λ l. l ++ next) (sym pushed)

  range_more : AllByRecursion (λ e. e.0 < 2 ^ 32) (map reads (gone ++ x ∷ []))
  range_more = subst (AllByRecursion (λ e. e.0 < 2 ^ 32)) (sym pushed)
      (all_push (λ e. e.0 < 2 ^ 32) (map reads gone) (reads x) h.range below)

  all_more : ranked_all [] (map reads (gone ++ x ∷ [])) ≡
      ranked_one (reads x) (ranked_all [] (map reads gone))
  all_more = ap (ranked_all []) pushed ∙ ranked_push [] (map reads gone) (reads x)

  -- one more, which counts something
  pub ranks_more : (after : List (ℕ × ℕ)) → 0 < (reads x).1 →
      after ≡ take 10 (ranked (reads x) rows) → SoFar reads all (gone ++ x ∷ []) next after
  ranks_more after some is = record {
    entries = entries_more;
    ranks =
        is ∙ ap (λ (l : List (ℕ × ℕ)). take 10 (ranked (reads x) l)) h.ranks
        ∙ first_ranked 10 (reads x) (ranked_all [] (map reads gone))
        ∙ ap (λ (l : List (ℕ × ℕ)). take 10 l)
        (sym (all_more ∙ counted (reads x).0 (reads x).1 _ some));
    range = range_more;
  }

  -- and one that counts nothing
  pub passes_more : (reads x).1 ≡ 0 → SoFar reads all (gone ++ x ∷ []) next rows
  passes_more none = record {
    entries = entries_more;
    ranks =
        h.ranks ∙ ap (λ (l : List (ℕ × ℕ)). take 10 l)
        (sym (all_more ∙ uncounted (reads x).0 (reads x).1 _ none));
    range = range_more;
  }

all_from : (es : List (ℕ × ℕ)) → AllByRecursion (λ e. 0 ≤ e.0) es
all_from [] = tt
all_from (e ∷ es) = (omega arith, all_from es)

pub ranks_all : {A : Type 0} (reads : A → ℕ × ℕ) (all rest rows : List (ℕ × ℕ)) (gone : List A) →
    SoFar reads all gone rest rows → rest ≡ [] → IsStrictlySortedBy nat_cmp (keys_of all) →
    rows ≡ largest (λ k. unwrap_or (lookup (is_at (nat_cmp k)) all) 0)
unfolding ranking
ranks_all reads all rest rows gone h none sorted =
    let whole : all ≡ map reads gone =
    h.entries ∙ ap (λ l. map reads gone ++ l) none ∙ append-nil (map reads gone) in
    h.ranks ∙ ap (λ (l : List (ℕ × ℕ)). take 10 (ranked_all [] l)) (sym whole)
    ∙ ap (λ (l : List (ℕ × ℕ)). take 10 l)
    (all_ranked (λ k. unwrap_or (lookup (is_at (nat_cmp k)) all) 0) 0 (2 ^ 32) all (omega arith)
    (all_from all) (subst (AllByRecursion (λ e. e.0 < 2 ^ 32)) (sym whole) h.range) sorted
    (λ k from. refl))
