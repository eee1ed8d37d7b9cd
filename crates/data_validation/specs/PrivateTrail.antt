-- The units that cover the last address that was looked up. Only contracts of private functions and
-- ghost fields cite these.
use Rattle.std.specs.Prelude.{◌≡◌, ℕ, ◌+◌, ◌*◌, ◌<◌, ◌≤◌, List, Option, Some, None, ⊤}
use Rattle.std.specs.Prelude.{slice_index}
use Rattle.rtr_base.specs.Addresses.{Family, PrefixParts, width}
use Rattle.data_validation.specs.PrivateTable.{AreSorted, route}
use Rattle.data_validation.specs.Tables.{AreAtLeast, order_key, vrp_at}
use Rattle.data_validation.specs.Validity.{Covers}
use Rattle.data_validation.specs.declared.trail.Trail.{Trail}

-- the prefix of a whole address
abbrev pub host : Family → ℕ → PrefixParts
host f address = route f address (width f)

-- the first indexes that are kept are below a number
abbrev pub AreWithin : (kept : List ℕ) → (count n : ℕ) → Type 0
AreWithin kept count n = (k : ℕ) → k < count → slice_index kept k < n

-- an index is among the first that are kept: not all of these are others
abbrev pub IsAmongKept : (kept : List ℕ) → (count i : ℕ) → Type 0
IsAmongKept kept count i = ((k : ℕ) → k < count → slice_index kept k ≡ i → ⊥) → ⊥

-- n units are in order, and none of their prefixes is shorter than s
abbrev pub AreTrailUnits : Family → List ℕ → (n s : ℕ) → Type 0
AreTrailUnits f b n s = AreSorted f b n × AreAtLeast f b n s

-- Of n units those that aren't after the address are passed, and all of these that cover it are
-- kept.
pub record IsTrail (f : Family) (b : List ℕ) (n s : ℕ) (t : Trail) : Type 0 where
  pub within : t.passed ≤ n
  pub most : t.count ≤ 64
  pub each : AreWithin t.kept t.count t.passed
  pub before : AreTrailUnits f b n s → (i : ℕ) → i < t.passed →
      order_key (vrp_at f b i) ≤ t.address * 256 + width f
  pub all : AreTrailUnits f b n s → (i : ℕ) → i < t.passed →
      Covers (vrp_at f b i) (host f t.address) → IsAmongKept t.kept t.count i

-- all units that aren't passed are after this address, at which the trail is
pub record IsTrailAt (f : Family) (b : List ℕ) (n s address : ℕ) (t : Trail) : Type 0 where
  pub here : t.address ≡ address
  pub after : AreTrailUnits f b n s → (i : ℕ) → t.passed ≤ i → i < n →
      address * 256 + width f < order_key (vrp_at f b i)

-- The units from one index to another that cover an address are kept behind the first ones, if T
-- holds.
pub record IsGathered (f : Family) (b : List ℕ) (from end : ℕ) (T : Type 0) (address : ℕ)
    (before : List ℕ) (count : ℕ) (after : List ℕ) (more : ℕ) : Type 0 where
  pub least : count ≤ more
  pub most : more ≤ 64
  pub stays : (k : ℕ) → k < count → slice_index after k ≡ slice_index before k
  pub each : (k : ℕ) → count ≤ k → k < more → slice_index after k < end
  pub all : T → (i : ℕ) → from ≤ i → i < end → Covers (vrp_at f b i) (host f address) →
      IsAmongKept after more i

abbrev pub GathersCovering : Option ℕ → Family → List ℕ → (from end : ℕ) → (T : Type 0) →
    (address : ℕ) → (before : List ℕ) → (count : ℕ) → (after : List ℕ) → Type 0
GathersCovering None f b from end T address before count after = ⊤
GathersCovering (Some more) f b from end T address before count after =
    IsGathered f b from end T address before count after more
