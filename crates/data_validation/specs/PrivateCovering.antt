-- The first unit that covers, at its place in data. Only contracts of private functions cite these.
use Rattle.std.specs.Prelude.{◌≡◌, ℕ, ◌+◌, ◌-◌, ◌<◌, ◌≤◌, List, Option, Some, None}
use Rattle.rtr_base.specs.Addresses.{Family, PrefixParts}
use Rattle.rtr_units.specs.PrefixUnits.{OriginParts}
use Rattle.rtr_payload.specs.Payloads.{LengthsInOrder}
use Rattle.rtr_payload.specs.declared.payload.RouteOrigin.{RouteOrigin}
use Rattle.data_validation.specs.Covering.{vrp}
use Rattle.data_validation.specs.PrivateTable.{IsTable, NoneBetween}
use Rattle.data_validation.specs.Tables.{vrp_at}
use Rattle.data_validation.specs.Validity.{Covers}
use Rattle.data_validation.specs.declared.finding.CoveringVrp.{CoveringVrp}

-- n units are in order, and so are the lengths of each
pub record IsOrderedTable (f : Family) (b : List ℕ) (n s : ℕ) (p : PrefixParts) : Type 0 where
  pub table : IsTable f b n s 0 n p
  pub lengths : (i : ℕ) → i < n → LengthsInOrder (vrp_at f b i)

-- the unit that was found, of n units of which the first is at a place of the data; it is the first
-- one if T holds
pub record IsUnitFrom (f : Family) (b : List ℕ) (n base from : ℕ) (p : PrefixParts) (T : Type 0)
    (c : CoveringVrp) : Type 0 where
  pub index : ℕ
  pub within : index < n
  pub at : c.place ≡ base + index
  pub reached : from ≤ c.place
  pub shows : vrp c.origin ≡ vrp_at f b index
  pub covers : Covers (vrp_at f b index) p
  pub first : T → NoneBetween f b (from - base) index p

abbrev pub UnitFrom : Option CoveringVrp → Family → List ℕ → (n base from : ℕ) → PrefixParts →
    (T : Type 0) → Type 0
UnitFrom None f b n base from p T = T → NoneBetween f b (from - base) n p
UnitFrom (Some c) f b n base from p T = IsUnitFrom f b n base from p T c

-- a VRP as an origin, or its lengths are not in order
abbrev pub IsOriginOfVrp : Option RouteOrigin → OriginParts → Type 0
IsOriginOfVrp None v = LengthsInOrder v → ⊥
IsOriginOfVrp (Some o) v = vrp o ≡ v
