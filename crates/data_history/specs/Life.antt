-- The life of a cache, over any sequence of new data, savings, starts and cuts of power (this
-- library's own; one session and serial number name one data: RFC 8210 sections 5.1 and 5.3).
use Rattle.std.specs.Prelude.{◌≡◌, ◌≢◌, ◌<◌, ◌+◌, ◌^◌, ⊤, ℕ, List, [], ◌∷◌, ◌++◌, Option, Some}
use Rattle.std.specs.Prelude.{None}
use Rattle.std.specs.List.{AllByRecursion}
use Rattle.data_history.specs.Snapshots.{Snapshot, behind_by}
use Rattle.data_history.specs.Store.{HoldsStore, IsTaken}

-- What a cache that saves served until now, the newest first; what its file has, if there is one;
-- the store that it serves, unless it is down or has no data; and the one that it took, to be
-- saved. Between any two of these steps power may be cut.
pub data IsLife : (served : List Snapshot) → (file present taken : Option (List ℕ)) → Type 0 where
  -- a new cache
  was_new : IsLife [] None None None
  -- its first data were taken, before it served any
  took_first : (file taken : Option (List ℕ)) (b : List ℕ) (z : Snapshot) (ys : List Snapshot) →
      IsLife [] file None taken → HoldsStore b z ys → IsLife [] file None (Some b)
  -- newer data were taken
  took : (served : List Snapshot) (file taken : Option (List ℕ)) (b b' : List ℕ) (z x : Snapshot)
      (ys : List Snapshot) → IsLife served file (Some b) taken → HoldsStore b x ys →
      IsTaken b b' z x → IsLife served file (Some b) (Some b')
  -- their store replaced that of the file
  wrote : (served : List Snapshot) (file present : Option (List ℕ)) (b' : List ℕ) →
      IsLife served file present (Some b') → IsLife served (Some b') present (Some b')
  -- they are served, once the file has them: this is the premise on the caller
  saved : (served : List Snapshot) (present : Option (List ℕ)) (b' : List ℕ) (z : Snapshot)
      (ys : List Snapshot) → IsLife served (Some b') present (Some b') → HoldsStore b' z ys →
      IsLife (z ∷ served) (Some b') (Some b') None
  -- they were given up, whether the file has them or not
  gave_up : (served : List Snapshot) (file present taken : Option (List ℕ)) →
      IsLife served file present taken → IsLife served file present None
  -- power was cut: only the file is left
  stopped : (served : List Snapshot) (file present taken : Option (List ℕ)) →
      IsLife served file present taken → IsLife served file None None
  -- a start from the file, whose data are served
  started : (served : List Snapshot) (b : List ℕ) (z : Snapshot) (ys : List Snapshot) →
      IsLife served (Some b) None None → HoldsStore b z ys →
      IsLife (z ∷ served) (Some b) (Some b) None

-- a cache that served data and is down starts from its file: this is a premise on the caller
abbrev pub MayTake : (served : List Snapshot) → (present : Option (List ℕ)) → Type 0
MayTake served None = served ≡ []
MayTake served (Some b) = ⊤

-- What a cache that doesn't save served until now, the newest first; the session of its last start;
-- and the store that it serves, if it took data since then.
pub data IsUnsavedLife : (served : List Snapshot) → (session : ℕ) →
    (present : Option (List ℕ)) → Type 0 where
  -- the first start
  first_start : (s : ℕ) → IsUnsavedLife [] s None
  -- another start, in a session of which no data were served: this is the premise on the caller
  next_start : (served : List Snapshot) (s t : ℕ) (present : Option (List ℕ)) →
      IsUnsavedLife served s present → AllByRecursion (λ x. x.end.session ≢ t) served →
      IsUnsavedLife served t None
  -- the first data since the start are served
  served_first : (served : List Snapshot) (s : ℕ) (b : List ℕ) (z : Snapshot)
      (ys : List Snapshot) → IsUnsavedLife served s None → HoldsStore b z ys →
      z.end.session ≡ s → IsUnsavedLife (z ∷ served) s (Some b)
  -- newer data of its session are served
  served_next : (served : List Snapshot) (s : ℕ) (b b' : List ℕ) (z x : Snapshot)
      (ys : List Snapshot) → IsUnsavedLife served s (Some b) → HoldsStore b x ys →
      IsTaken b b' z x → z.end.session ≡ s → IsUnsavedLife (z ∷ served) s (Some b')

-- how far the serial numbers went on, from the last of these data to the first, all steps together
abbrev pub gone_on : List Snapshot → ℕ
gone_on [] = 0
gone_on (x ∷ []) = 0
gone_on (x ∷ y ∷ ys) = behind_by y.end.serial x.end.serial + gone_on (y ∷ ys)

-- From y to x, with these between them, the numbers didn't go round the circle (RFC 1982): after
-- 2^32 of them each number comes again, whatever a cache does.
abbrev pub StaysOnCircle : Snapshot → List Snapshot → Snapshot → Type 0
StaysOnCircle x between y = gone_on (x ∷ (between ++ y ∷ [])) < 2 ^ 32
