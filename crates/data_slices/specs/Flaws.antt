-- Why a slice doesn't hold data or changes: its first flaw (this library's own).
use Rattle.std.specs.Prelude.{◌≡◌, ◌⊎◌, ℕ, List, ◌++◌, length, map}
use Rattle.rtr_units.specs.End.{EndMeaning, IsEnd}
use Rattle.rtr_payload.specs.Payloads.{Meaning, Payload}
use Rattle.rtr_payload.specs.Units.{IsUnit}
use Rattle.unit_views.specs.Faults.{IsFirstFault}
use Rattle.rtr_wire.specs.Sequences.{AreUnits}
use Rattle.data_memory.specs.Data.{Change, IsData, announcement}
use Rattle.data_memory.specs.Deltas.{unit_of}
use Rattle.data_slices.specs.Canonical.{HasData}
use Rattle.data_slices.specs.CanonicalChanges.{AreOrdered, HasChanges}
use Rattle.data_slices.specs.declared.fault.Flaw.{Flaw}
use Rattle.data_slices.specs.declared.fault.Reason.{Reason}
use Rattle.data_slices.specs.declared.fault.Reason.TheVariants.{Refused, NotCanonical}

-- these bytes are a payload unit or an end of data
abbrev pub IsUnitOrEnd : List ℕ → Type 0
IsUnitOrEnd b = ((m : Meaning) × IsUnit b m) ⊎ ((e : EndMeaning) × IsEnd b e)

-- these bytes are units, all of one version, that make such changes
pub record AreUnitsOf (Such : List Change → Type 0) (b : List ℕ) : Type 0 where
  pub version : ℕ
  pub changes : List Change
  pub units : AreUnits b (map (unit_of version) changes)
  pub such : Such changes

-- What is wrong after this front of an input, of units that make such changes: a fault; or a unit
-- or an end of data, with which the front neither is such units nor holds what the input should.
abbrev pub IsWrongAfter : (Such : List Change → Type 0) (Holds : List ℕ → Type 0) → Reason →
    (front left : List ℕ) → Type 0
IsWrongAfter Such Holds (Refused e) front left = IsFirstFault left e
IsWrongAfter Such Holds NotCanonical front left =
    (b rest : List ℕ) × (left ≡ b ++ rest) × IsUnitOrEnd b
    × (AreUnitsOf Such (front ++ b) → ⊥) × (Holds (front ++ b) → ⊥)

-- The input doesn't hold what it should, and the flaw is the first: what comes before it are units
-- of one version that make such changes, and what stands there may not follow them.
pub record IsFirstFlaw (Such : List Change → Type 0) (Holds : List ℕ → Type 0) (input : List ℕ)
    (f : Flaw) : Type 0 where
  pub front : List ℕ
  pub left : List ℕ
  pub parts : input ≡ front ++ left
  pub size : f.offset ≡ length front
  pub before : AreUnitsOf Such front
  pub wrong : IsWrongAfter Such Holds f.reason front left
  pub none : Holds input → ⊥

-- they announce payloads in order
abbrev pub AreAnnounced : List Change → Type 0
AreAnnounced cs = (d : List Payload) × (cs ≡ map announcement d) × IsData d

-- why the input doesn't hold data
abbrev pub IsFlawOfData : List ℕ → Flaw → Type 0
IsFlawOfData input f = IsFirstFlaw AreAnnounced HasData input f

-- why the input doesn't hold changes
abbrev pub IsFlawOfChanges : List ℕ → Flaw → Type 0
IsFlawOfChanges input f = IsFirstFlaw AreOrdered HasChanges input f
