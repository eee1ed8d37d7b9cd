-- Providers that were sorted, taken once each and written are those that were given.
use Rattle.std.proofs.Common.{◌≡◌, ℕ, List, [], ◌∷◌, ◌++◌, length, sym, ap, subst, ◌∙◌, arith}
use Rattle.std.proofs.Common.{eqb, nat_cmp}
use Rattle.std.proofs.lemmas.Iterator.{items_from_drains}
use Rattle.std.proofs.lemmas.Iterator.Adapters.{YieldsList-from_vec}
use Rattle.std.proofs.lemmas.List.{length-append, map-id}
use Rattle.std.proofs.lemmas.List.Kept.{Contains-dedup_nat, Contains-from_dedup}
use Rattle.std.proofs.lemmas.List.Sorted.{Contains-permutation, IsPermutation-sym}
use Rattle.std.proofs.lemmas.Map.Keys.{IsStrictlyIncreasing-dedup}
use Rattle.std.specs.Iterator.{Drains, Yields}
use Rattle.std.specs.List.{dedup}
use Rattle.std.specs.List.Sorted.{IsPermutation, IsSorted}
use Rattle.std.specs.declared.vec.IntoIter.{IntoIter}
use Rattle.std.specs.Vec.Iter.{into_iter_items, into_iter_len, into_iter_steps}
use Rattle.json.specs.Json.{Json}
use Rattle.make_work.specs.JsonRefusals.{HasTooMany}
use Rattle.make_work.specs.JsonValues.{AreAsnValues, IsSetOf}

pub set_of : (given sorted once : List ℕ) → IsPermutation given sorted → IsSorted nat_cmp sorted →
    once ≡ dedup eqb sorted → IsSetOf given once
set_of given sorted once p s is =
    subst (IsSetOf given) (sym is) (record {
      in_order = IsStrictlyIncreasing-dedup sorted s;
      same = λ n. (
        λ h. Contains-dedup_nat sorted n (Contains-permutation given sorted n p h),
        λ h. Contains-permutation sorted given n (IsPermutation-sym given sorted p)
            (Contains-from_dedup eqb sorted n h),
      );
    })

-- what an iterator over a vector gives is what the vector has
pub drained : {Z : Type 0} (s : IntoIter ℕ Z) (xs ys : List ℕ) → into_iter_items s ≡ xs →
    into_iter_len s ≡ length xs → Drains into_iter_steps s ys → ys ≡ xs
drained s xs ys items len d =
    sym (map-id ys)
    ∙ items_from_drains ys (d.1.0, d.1.1, λ w. (d.0, d.1.2)) (YieldsList-from_vec xs items len)

-- what an iterator over a vector gave comes first in what the vector has
given_first : {Z : Type 0} (xs : List ℕ) (s t : IntoIter ℕ Z) → Yields into_iter_steps s xs t →
    into_iter_items s ≡ xs ++ into_iter_items t
given_first [] s t e = ap into_iter_items e
given_first (x ∷ xs) s t (j, step, rest) = step.0 ∙ ap (λ l. x ∷ l) (given_first xs j t rest)

-- where it gave more than a unit has room for, there are too many
pub too_many : {Z : Type 0} (s t : IntoIter ℕ Z) (js : List Json) (given sorted once xs : List ℕ) →
    AreAsnValues js given → IsPermutation given sorted → IsSorted nat_cmp sorted →
    once ≡ dedup eqb sorted → into_iter_items s ≡ once → Yields into_iter_steps s xs t →
    length xs ≡ 16381 → HasTooMany js
too_many s t js given sorted once xs asns p o is items gave count = record {
  given = given;
  asns = asns;
  set = once;
  is_set = set_of given sorted once p o is;
  many =
      let all = ap length (sym items ∙ given_first xs s t gave) in
      omega (arith, all, count, length-append xs (into_iter_items t));
}
