-- The data that a store serves, as the editions of a cache (RFC 8210 sections 5.1, 5.3 and 5.8).
use Rattle.std.specs.Prelude.{◌≡◌, ℕ, true, List, ◌∷◌, ◌++◌, Option, unwrap_or}
use Rattle.std.specs.List.{AllByRecursion}
use Rattle.rtr_base.specs.Timings.{default_timing}
use Rattle.rtr_base.specs.declared.timing.Timing.{Timing}
use Rattle.data_history.specs.Life.{IsLife, IsUnsavedLife, StaysOnCircle}
use Rattle.data_history.specs.Snapshots.{Snapshot}
use Rattle.session_cache.specs.Worlds.{IsIn}
use Rattle.session_laws.specs.Editions.{PayloadEdition}

-- What the stores of a cache served until now, the newest first, whether it saves them or not.
pub data HasServed : List Snapshot → Type 0 where
  served_saved :
      (served : List Snapshot) (file present taken : Option (List ℕ))
      → IsLife served file present taken → HasServed served
  served_unsaved :
      (served : List Snapshot) (session : ℕ) (present : Option (List ℕ))
      → IsUnsavedLife served session present → HasServed served

-- From the first of these data to the last no session's serial numbers went round the circle (RFC
-- 1982).
abbrev pub StayOnCircles : List Snapshot → Type 0
StayOnCircles served =
    (front between others : List Snapshot) (x y : Snapshot)
    → served ≡ front ++ x ∷ (between ++ y ∷ others) → x.end.session ≡ y.end.session
    → StaysOnCircle x between y

abbrev pub times_of_edition : PayloadEdition → Timing
times_of_edition e = record { refresh = e.refresh; retry = e.retry; expire = e.expire }

-- An edition of these data: their session, serial number and payloads, and the times of their end
-- of data. Where that names none, in version 0, they are the recommended ones.
pub record IsEditionOf (x : Snapshot) (e : PayloadEdition) : Type 0 where
  pub has : e.name.has ≡ true
  pub session : e.name.session ≡ x.end.session
  pub serial : e.name.serial ≡ x.end.serial
  pub payloads : e.payloads ≡ x.payloads
  pub times : times_of_edition e ≡ unwrap_or x.end.timing default_timing

-- each edition of a cache, if it has data, is one of data that were served
abbrev pub AreServed : List Snapshot → List PayloadEdition → Type 0
AreServed served had =
    AllByRecursion (λ e. e.name.has ≡ true
    → (x : Snapshot) × IsIn served x × IsEditionOf x e) had

-- the cache had an edition of each of these data
abbrev pub AreHad : List PayloadEdition → List Snapshot → Type 0
AreHad had xs = AllByRecursion (λ x. (e : PayloadEdition) × IsIn had e × IsEditionOf x e) xs
