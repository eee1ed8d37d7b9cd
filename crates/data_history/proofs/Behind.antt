-- How far serial numbers are behind others (RFC 1982).
use Rattle.std.proofs.Common.{◌≡◌, ◌<◌, ◌+◌, ◌^◌, ℕ, Bool, true, false, cond, List, [], ◌∷◌}
use Rattle.std.proofs.Common.{◌++◌, Option, Some, None, refl, sym, ◌∙◌, arith, nat_eq, nat_lt}
use Rattle.std.proofs.Common.{ltb-true}
use Rattle.std.proofs.lemmas.Bool.{eqb-false}
use Rattle.std.specs.List.{AllByRecursion}
use Rattle.std.specs.declared.cmp.Ordering.{Ordering}
use Rattle.std.specs.declared.cmp.Ordering.TheVariants.{Less, Equal, Greater}
use Rattle.rtr_base.specs.Serial.{serial_cmp, serial_distance}
use Rattle.data_history.specs.Snapshots.{AreBehind, Snapshot, behind_by}

abbrev some : Ordering → Option Ordering
some o = Some o

differ : (o : Option Ordering) → o ≡ some Less → o ≡ some Equal → ⊥
differ o h e = let k : some Less ≡ some Equal = sym h ∙ e in absurd cc

is_less : (a b c : Bool) → cond a (Some Equal) (cond b (Some Less) (cond c None (Some Greater)))
    ≡ some Less → (a ≡ false) × (b ≡ true)
is_less true b c h = absurd cc
is_less false true c h = (refl, refl)
is_less false false true h = absurd cc
is_less false false false h = absurd cc

pub earlier_by : (s n : ℕ) → serial_cmp s n ≡ Some Less →
    (0 < behind_by s n) × (behind_by s n < 2 ^ 31)
unfolding behind_by
earlier_by s n h =
    let d = serial_distance s n in
    let t = is_less (nat_eq d 0) (nat_lt d (2 ^ 31)) (nat_eq d (2 ^ 31)) h in
    let some : d ≡ 0 → ⊥ = eqb-false d 0 t.0 in
    (omega (arith, some), ltb-true d (2 ^ 31) t.1)

pub behind_sum : (y x z : ℕ) → y < 2 ^ 32 → x < 2 ^ 32 → z < 2 ^ 32 →
    behind_by y x + behind_by x z < 2 ^ 32 → behind_by y z ≡ behind_by y x + behind_by x z
unfolding behind_by
behind_sum y x z hy hx hz h = omega arith

-- the same snapshots, seen from a later serial number
pub moved_on : (x z k m : ℕ) (front others : List Snapshot) → x < 2 ^ 32 → z < 2 ^ 32 →
    behind_by x z < 2 ^ 31 → m ≡ behind_by x z + k → AreBehind x k (front ++ others) →
    AllByRecursion (λ y. (y.end.serial < 2 ^ 32)
    × (serial_cmp y.end.serial z ≡ Some Less)) front → AreBehind z m front
moved_on x z k m [] others hx hz near is order all = tt
moved_on x z k m (y ∷ front) others hx hz near is (above, below, order) ((hy, less), all) =
    let sum : behind_by y.end.serial z ≡ behind_by y.end.serial x + behind_by x z =
    behind_sum y.end.serial x z hy hx hz (omega (arith, below, near)) in (
      omega (arith, above, is, sum),
      (earlier_by y.end.serial z less).1,
      moved_on x z (behind_by y.end.serial x) (behind_by y.end.serial z) front others hx hz near
          (omega (arith, sum)) order all,
    )
