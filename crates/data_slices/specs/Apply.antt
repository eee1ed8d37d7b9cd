-- Changes applied to data, both in slices (this library's own; what changes make of data: RFC 8210
-- sections 5.6, 5.7, 5.10 and 12).
use Rattle.std.specs.Prelude.{◌≡◌, ◌≢◌, ℕ, List, ◌∷◌, ◌++◌, map, length, Option, Some, None}
use Rattle.std.specs.Prelude.{Result, Ok, Err}
use Rattle.rtr_units.specs.End.{EndMeaning, end_list}
use Rattle.rtr_payload.specs.Payloads.{Payload}
use Rattle.rtr_payload.specs.Units.{IsUnit}
use Rattle.rtr_wire.specs.Sequences.{AreUnits}
use Rattle.data_memory.specs.Changes.{after_all}
use Rattle.data_memory.specs.Data.{Change, after, announcement}
use Rattle.data_memory.specs.Deltas.{change_forms, unit_of}
use Rattle.data_memory.specs.declared.change_error.ChangeError.{ChangeError}
use Rattle.data_memory.specs.declared.change_error.ChangeError.TheVariants as refusals
use Rattle.data_slices.specs.Canonical.{HasData, HoldsData, PlacesFront}
use Rattle.data_slices.specs.CanonicalChanges.{HoldsChanges}
use Rattle.data_slices.specs.Flaws.{IsFlawOfChanges, IsFlawOfData}
use Rattle.data_slices.specs.declared.fault.ApplyFault.{ApplyFault}
use Rattle.data_slices.specs.declared.fault.ApplyFault.TheVariants.{Data, Changes, UnitVersion}
use Rattle.data_slices.specs.declared.fault.ApplyFault.TheVariants.{Session, Duplicate, Unknown}
use Rattle.data_slices.specs.declared.fault.ApplyFault.TheVariants.{NoRoom}

-- the units that announce the data, and the end of data
abbrev pub data_form : List Payload → EndMeaning → List ℕ
data_form d e = change_forms e.version (map announcement d) ++ end_list e

-- the first input begins with data, the second with changes, and this holds of what they are
abbrev pub DataAndChanges : (base changes : List ℕ) →
    (List Payload → EndMeaning → List Change → EndMeaning → Type 0) → Type 0
DataAndChanges base changes P =
    (d : List Payload) × (end : EndMeaning) × (cs : List Change) × (end' : EndMeaning) ×
    HoldsData base d end × HoldsChanges changes cs end' × P d end cs end'

-- data and changes are of one version and of one session, and this holds of them
abbrev pub OfOneSession : (base changes : List ℕ) →
    (List Payload → List Change → EndMeaning → Type 0) → Type 0
OfOneSession base changes P = DataAndChanges base changes (λ d end cs end'.
    (end.version ≡ end'.version) × (end.session ≡ end'.session) × P d cs end')

-- all changes are allowed, and of the data that they make this was written
abbrev pub WritesApplied : Option ℕ → (base changes before after : List ℕ) → Type 0
WritesApplied n base changes before after = OfOneSession base changes (λ d cs e.
    (d' : List Payload) × (after_all cs (Ok d) ≡ Ok d')
    × PlacesFront n (data_form d' e) before after)

-- The rules refuse this change, and those before it they allow: its unit, of version v, is at the
-- offset.
pub record RefusedAt (offset : ℕ) (why : ChangeError) (changes : List ℕ) (d : List Payload)
    (cs : List Change) (v : ℕ) : Type 0 where
  pub before : List Change
  pub refused : Change
  pub others : List Change
  pub all : cs ≡ before ++ refused ∷ others
  pub made : List Payload
  pub allowed : after_all before (Ok d) ≡ Ok made
  pub wrong : after refused made ≡ Err why
  pub front : List ℕ
  pub unit : List ℕ
  pub left : List ℕ
  pub parts : changes ≡ front ++ (unit ++ left)
  pub size : offset ≡ length front
  pub units : AreUnits front (map (unit_of v) before)
  pub is_unit : IsUnit unit (unit_of v refused)

-- What is wrong with the inputs, the first of these.
abbrev pub RefusesApply : ApplyFault → (base changes : List ℕ) → Type 0
RefusesApply (Data f) base changes = IsFlawOfData base f
RefusesApply (Changes f) base changes = HasData base × IsFlawOfChanges changes f
RefusesApply (UnitVersion v) base changes = DataAndChanges base changes (λ d end cs end'.
    (end.version ≢ end'.version) × (v ≡ end'.version))
RefusesApply (Session s) base changes = DataAndChanges base changes (λ d end cs end'.
    (end.version ≡ end'.version) × (end.session ≢ end'.session) × (s ≡ end'.session))
RefusesApply (Duplicate offset) base changes = OfOneSession base changes (λ d cs e.
    RefusedAt offset refusals.Duplicate changes d cs e.version)
RefusesApply (Unknown offset) base changes = OfOneSession base changes (λ d cs e.
    RefusedAt offset refusals.Unknown changes d cs e.version)
RefusesApply NoRoom base changes = ⊥

-- The whole promise of a call: what all changes make of the data was written, and its length
-- answered; or there is no room for all of it, and a front of it was written; or the inputs are
-- refused, with nothing written.
abbrev pub AppliesChanges : Result ℕ ApplyFault → (base changes before after : List ℕ) → Type 0
AppliesChanges (Ok n) base changes before after = WritesApplied (Some n) base changes before after
AppliesChanges (Err NoRoom) base changes before after =
    WritesApplied None base changes before after
AppliesChanges (Err f) base changes before after =
    RefusesApply f base changes × (after ≡ before)

-- this was written, or a front of it where there is no room for all of it
abbrev pub IsApplied : Result ℕ ApplyFault → (form before after : List ℕ) → Type 0
IsApplied (Ok n) form before after = PlacesFront (Some n) form before after
IsApplied (Err NoRoom) form before after = PlacesFront None form before after
IsApplied (Err f) form before after = ⊥
