-- Data that together go on less than the circle stay on it between any two of them.
use Rattle.std.proofs.Common.{◌≤◌, ◌<◌, ◌^◌, List, [], ◌∷◌, ◌++◌, arith, subst}
use Rattle.data_history.specs.Life.{gone_on}
use Rattle.data_history.specs.Snapshots.{Snapshot}
use Rattle.session_store_laws.specs.ServedData.{StayOnCircles}

one_more : (x : Snapshot) (xs : List Snapshot) → gone_on xs ≤ gone_on (x ∷ xs)
one_more x [] = omega arith
one_more x (y ∷ ys) = omega arith

behind_front : (front xs : List Snapshot) → gone_on xs ≤ gone_on (front ++ xs)
behind_front [] xs = omega arith
behind_front (f ∷ front) xs =
    omega (arith, behind_front front xs, one_more f (front ++ xs))

before_others : (x : Snapshot) (between others : List Snapshot) (y : Snapshot)
    → gone_on (x ∷ (between ++ y ∷ [])) ≤ gone_on (x ∷ (between ++ y ∷ others))
before_others x [] [] y = omega arith
before_others x [] (z ∷ zs) y = omega arith
before_others x (z ∷ zs) others y = omega (arith, before_others z zs others y)

pub on_circles : (served : List Snapshot) → gone_on served < 2 ^ 32 → StayOnCircles served
on_circles served lt front between others x y is same =
    omega (
      arith,
      subst (λ l. gone_on l < 2 ^ 32) is lt,
      behind_front front (x ∷ (between ++ y ∷ others)),
      before_others x between others y,
    )
