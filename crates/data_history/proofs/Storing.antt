-- What is stored.
use Rattle.std.proofs.Common.{◌≡◌, ◌<◌, ◌^◌, ℕ, List, [], ◌∷◌, ◌++◌, Option, Some}
use Rattle.std.proofs.Common.{refl, sym, ap, subst, ◌∙◌, arith, append_assoc}
use Rattle.data_history.specs.Snapshots.{AreBehind, Snapshot, HoldsHistory, behind_by, snapshot_at}
use Rattle.data_history.specs.Stored.{IsStored, began, went_on}
use Rattle.data_history.proofs.Steps.{behind, here}

-- ---- one snapshot of each number

abbrev some : Snapshot → Option Snapshot
some e = Some e

abbrev first_of : Snapshot → List Snapshot → Snapshot
first_of e [] = e
first_of e (x ∷ xs) = x

abbrev rest_of : List Snapshot → List Snapshot
rest_of [] = []
rest_of (x ∷ xs) = xs

no_rest : (y : Snapshot) (front others : List Snapshot) → [] ≡ front ++ y ∷ others → ⊥
no_rest y [] others h = absurd cc
no_rest y (f ∷ front) others h = absurd cc

pub not_behind : (s : ℕ) → s < 2 ^ 32 → behind_by s s ≡ 0
unfolding behind_by
not_behind s h = omega arith

further : (n k : ℕ) (y : Snapshot) (ys front others : List Snapshot) → AreBehind n k ys →
    ys ≡ front ++ y ∷ others → k < behind_by y.end.serial n
further n k y [] front others order is = absurd (no_rest y front others is)
further n k y (z ∷ zs) [] others (above, below, order) is =
    let same : z ≡ y = ap (first_of y) is in
    subst (λ (e : Snapshot). k < behind_by e.end.serial n) same above
further n k y (z ∷ zs) (f ∷ front) others (above, below, order) is =
    let more = further n (behind_by z.end.serial n) y zs front others order (ap rest_of is) in
    omega (arith, above, more)

found_in : (n k : ℕ) (x y : Snapshot) (ys front others : List Snapshot) →
    behind_by x.end.serial n ≡ k → AreBehind n k ys → x ∷ ys ≡ front ++ y ∷ others →
    snapshot_at y.end.serial x ys ≡ Some y
found_in n k x y ys [] others at order is =
    let same : x ≡ y = ap (first_of y) is in
    here y.end.serial x ys (ap (λ (e : Snapshot). e.end.serial) same) ∙ ap (λ (e : Snapshot). some
    e) same
found_in n k x y [] (f ∷ front) others at order is = absurd (no_rest y front others (ap rest_of is))
found_in n k x y (z ∷ zs) (f ∷ front) others at order is =
    let far = further n k y (z ∷ zs) front others order (ap rest_of is) in
    behind y.end.serial x z zs
    (λ same.
    let equal : behind_by y.end.serial n ≡ k = ap (λ s. behind_by s n) (sym same) ∙ at in
    absurd (omega (arith, far, equal)))
    ∙ found_in n (behind_by z.end.serial n) z y zs front others refl order.2 (ap rest_of is)

pub found : (b : List ℕ) (x y : Snapshot) (ys front others : List Snapshot) → HoldsHistory b x ys →
    x ∷ ys ≡ front ++ y ∷ others → snapshot_at y.end.serial x ys ≡ Some y
found b x y ys front others h is =
    found_in x.end.serial 0 x y ys front others
    (not_behind x.end.serial h.holds.accepts.sequence.end.fits.serial) h.order is

-- ---- any number of calls

pub record Stored (stored : List Snapshot) (b : List ℕ) : Type 0 where
  pub x : Snapshot
  pub ys : List Snapshot
  pub others : List Snapshot
  pub history : HoldsHistory b x ys
  pub parts : stored ≡ (x ∷ ys) ++ others

pub is_history : (stored : List Snapshot) (b : List ℕ) → IsStored stored b → Stored stored b
is_history stored b (began z n new before after h (fits, history)) = record {
  x = z;
  ys = [];
  others = [];
  history = history;
  parts = refl;
}
is_history stored b (went_on log b' z since most n new before after s h f) =
    let t = is_history log b' s in
    let (fits, g) = f t.x t.ys t.history in
    record {
      x = z;
      ys = g.front;
      others = g.others ++ t.others;
      history = g.history;
      parts = ap (λ l. z ∷ l)
          (t.parts ∙ ap (λ l. l ++ t.others) g.parts ∙ append_assoc g.front g.others t.others);
    }
