-- Whether something holds of one element, or of each, of a list of which the first were looked at.
use Rattle.std.proofs.Common.{ℕ, List, drop}

-- the elements so far don't decide
pub record SeenSoFar {X : Type 0} (Holds : List X → Type 0) (xs : List X) (i : ℕ) : Type 0 where
  pub rest : Holds xs → Holds (drop i xs)
  pub whole : Holds (drop i xs) → Holds xs
