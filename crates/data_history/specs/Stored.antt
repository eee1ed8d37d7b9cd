-- What comes of storing data, any number of times (this library's own).
use Rattle.std.specs.Prelude.{ℕ, List, [], ◌∷◌, take, Ok}
use Rattle.data_slices.specs.Canonical.{HoldsData}
use Rattle.data_history.specs.Snapshots.{Snapshot, HoldsHistory}
use Rattle.data_history.specs.Next.{Advances, StartsHistory}

-- These snapshots were stored, the newest first, and left these bytes: the first by `first_into`,
-- and each other one by a call of `next_into` on the bytes before it, that took it.
pub data IsStored : List Snapshot → List ℕ → Type 0 where
  began : (z : Snapshot) (n : ℕ) (new before after : List ℕ) → HoldsData new z.payloads z.end →
      StartsHistory (Ok n) z before after → IsStored (z ∷ []) (take n after)
  went_on : (stored : List Snapshot) (b : List ℕ) (z : Snapshot) (since most n : ℕ)
      (new before after : List ℕ) → IsStored stored b → HoldsData new z.payloads z.end →
      ((x : Snapshot) (ys : List Snapshot) → HoldsHistory b x ys →
      Advances since most (Ok n) z x ys before after) → IsStored (z ∷ stored) (take n after)
