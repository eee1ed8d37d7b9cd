-- The histories that a cache's stores hold, over its life (RFC 8210 sections 5.3 and 8.2).
use Rattle.std.specs.Prelude.{◌≡◌, ⊤, ℕ, List, [], ◌∷◌, Option, Some, None}
use Rattle.std.specs.List.{AllByRecursion}
use Rattle.data_history.specs.Life.{IsLife, IsUnsavedLife}
use Rattle.data_history.specs.Life.{was_new, took_first, took, wrote, saved, gave_up, stopped}
use Rattle.data_history.specs.Life.{started}
use Rattle.data_history.specs.Life.{first_start, next_start, served_first, served_next}
use Rattle.data_history.specs.Parts.{part_rest}
use Rattle.data_history.specs.Snapshots.{Snapshot}
use Rattle.session_cache.specs.Worlds.{IsIn}

-- each of these data is among those
abbrev pub AllIn : (those these : List Snapshot) → Type 0
AllIn those these = AllByRecursion (λ x. IsIn those x) these

-- In this life the first data were stored alone, and newer ones with data of the store before them,
-- or alone: no store had other earlier data.
abbrev pub AddsOnlyTaken : (served : List Snapshot) → (file present taken : Option (List ℕ)) →
    IsLife served file present taken → Type 0
AddsOnlyTaken served file present taken was_new = ⊤
AddsOnlyTaken served file present taken (took_first f t b z ys l h) =
    (ys ≡ []) × AddsOnlyTaken [] f None t l
AddsOnlyTaken served file present taken (took s f t b b' z x ys l h is) =
    AllIn (x ∷ ys) is.front × AddsOnlyTaken s f (Some b) t l
AddsOnlyTaken served file present taken (wrote s f p b' l) = AddsOnlyTaken s f p (Some b') l
AddsOnlyTaken served file present taken (saved s p b' z ys l h) =
    AddsOnlyTaken s (Some b') p (Some b') l
AddsOnlyTaken served file present taken (gave_up s f p t l) = AddsOnlyTaken s f p t l
AddsOnlyTaken served file present taken (stopped s f p t l) = AddsOnlyTaken s f p t l
AddsOnlyTaken served file present taken (started s b z ys l h) =
    AddsOnlyTaken s (Some b) None None l

-- the same of a life without a file
abbrev pub AddsOnlyServed : (served : List Snapshot) → (session : ℕ) →
    (present : Option (List ℕ)) → IsUnsavedLife served session present → Type 0
AddsOnlyServed served session present (first_start s) = ⊤
AddsOnlyServed served session present (next_start xs s t p l new) = AddsOnlyServed xs s p l
AddsOnlyServed served session present (served_first xs s b z ys l h is) =
    (ys ≡ []) × AddsOnlyServed xs s None l
AddsOnlyServed served session present (served_next xs s b b' z x ys l h is of) =
    AllIn (x ∷ ys) is.front × AddsOnlyServed xs s (Some b) l

-- such lives: in them the calls of `Stores` lead on (`stores_add_only_what_they_take`)
abbrev pub HasLife : (served : List Snapshot) → (file present taken : Option (List ℕ)) → Type 0
HasLife served file present taken =
    (life : IsLife served file present taken) × AddsOnlyTaken served file present taken life

abbrev pub HasUnsavedLife : (served : List Snapshot) → (session : ℕ) →
    (present : Option (List ℕ)) → Type 0
HasUnsavedLife served session present =
    (life : IsUnsavedLife served session present) × AddsOnlyServed served session present life

-- A cache that served these data, the newest first, serves this history, whether it saves or not.
pub data ServesHistory : (served : List Snapshot) → (history : List ℕ) → Type 0 where
  serves_saved :
      (served : List Snapshot) (file taken : Option (List ℕ)) (b : List ℕ) →
      HasLife served file (Some b) taken → ServesHistory served (part_rest b)
  serves_unsaved :
      (served : List Snapshot) (session : ℕ) (b : List ℕ) →
      HasUnsavedLife served session (Some b) → ServesHistory served (part_rest b)

-- A cache that served these data has this history in a store that it took and hasn't served yet, or
-- in its file.
pub data KeepsHistory : (served : List Snapshot) → (history : List ℕ) → Type 0 where
  keeps_taken :
      (served : List Snapshot) (file present : Option (List ℕ)) (b : List ℕ) →
      HasLife served file present (Some b) → KeepsHistory served (part_rest b)
  keeps_in_file :
      (served : List Snapshot) (present taken : Option (List ℕ)) (b : List ℕ) →
      HasLife served (Some b) present taken → KeepsHistory served (part_rest b)
