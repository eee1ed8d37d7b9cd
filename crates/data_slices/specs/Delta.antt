-- The delta between two slices of data (this library's own; what a cache answers a serial query
-- with after its cache response: RFC 8210 section 8.2), and the changes between data of any
-- versions and sessions (this library's own).
use Rattle.std.specs.Prelude.{◌≡◌, ◌≢◌, ◌⊎◌, ℕ, List, [], ◌++◌, max, Option, Some, None}
use Rattle.std.specs.Prelude.{Result, Ok, Err}
use Rattle.rtr_units.specs.End.{EndMeaning, end_list}
use Rattle.rtr_payload.specs.Payloads.{Payload}
use Rattle.rtr_wire.specs.Sequences.{end_for}
use Rattle.data_memory.specs.Changes.{changes}
use Rattle.data_memory.specs.Deltas.{change_forms}
use Rattle.data_slices.specs.Canonical.{HasData, HoldsData, PlacesFront}
use Rattle.data_slices.specs.Flaws.{IsFlawOfData}
use Rattle.data_slices.specs.declared.fault.DeltaFault.{DeltaFault}
use Rattle.data_slices.specs.declared.fault.DeltaFault.TheVariants.{Old, New, UnitVersion, Session}
use Rattle.data_slices.specs.declared.fault.DeltaFault.TheVariants.{NoRoom}

-- the units of the changes from old data to new, and the end of the new data
abbrev pub delta_form : (old new : List Payload) → EndMeaning → List ℕ
delta_form old new e = change_forms e.version (changes old new) ++ end_list e

-- both inputs begin with data, and this holds of what they are
abbrev pub Both : (old new : List ℕ) →
    ((d : List Payload) → EndMeaning → List Payload → EndMeaning → Type 0) → Type 0
Both old new P =
    (d : List Payload) × (end : EndMeaning) × (d' : List Payload) × (end' : EndMeaning) ×
    HoldsData old d end × HoldsData new d' end' × P d end d' end'

-- the data are of one version and of one session, and of their delta this was written
abbrev pub WritesDelta : Option ℕ → (old new before after : List ℕ) → Type 0
WritesDelta n old new before after = Both old new (λ d end d' end'.
    (end.version ≡ end'.version) × (end.session ≡ end'.session)
    × PlacesFront n (delta_form d d' end') before after)

-- What is wrong with the inputs, the first of these.
abbrev pub RefusesDelta : DeltaFault → (old new : List ℕ) → Type 0
RefusesDelta (Old f) old new = IsFlawOfData old f
RefusesDelta (New f) old new = HasData old × IsFlawOfData new f
RefusesDelta (UnitVersion v) old new = Both old new (λ d end d' end'.
    (end.version ≢ end'.version) × (v ≡ end'.version))
RefusesDelta (Session s) old new = Both old new (λ d end d' end'.
    (end.version ≡ end'.version) × (end.session ≢ end'.session) × (s ≡ end'.session))
RefusesDelta NoRoom old new = ⊥

-- The whole promise of a call: the delta was written, and its length answered; or there is no room
-- for all of it, and a front of it was written; or the inputs are refused, with nothing written.
abbrev pub Deltas : Result ℕ DeltaFault → (old new before after : List ℕ) → Type 0
Deltas (Ok n) old new before after = WritesDelta (Some n) old new before after
Deltas (Err NoRoom) old new before after = WritesDelta None old new before after
Deltas (Err f) old new before after = RefusesDelta f old new × (after ≡ before)

-- this was written, or a front of it where there is no room for all of it
abbrev pub IsPlaced : Result ℕ DeltaFault → (form before after : List ℕ) → Type 0
IsPlaced (Ok n) form before after = PlacesFront (Some n) form before after
IsPlaced (Err NoRoom) form before after = PlacesFront None form before after
IsPlaced (Err f) form before after = ⊥

-- ---- data of any versions and sessions

-- the input begins with data, and this holds of what they are
abbrev pub Holding : List ℕ → (List Payload → EndMeaning → Type 0) → Type 0
Holding input P = (d : List Payload) × (end : EndMeaning) × HoldsData input d end × P d end

-- Of the changes from old data to new this was written: in the higher of both versions the units,
-- and the end of the new data. An empty input stands for no data: all of the other is announced
-- or withdrawn then, with its end of data.
abbrev pub WritesChanges : Option ℕ → (old new before after : List ℕ) → Type 0
WritesChanges n old new before after =
    Both old new (λ d end d' end'. PlacesFront n
    (delta_form d d' (end_for (max end.version end'.version) end')) before after)
    ⊎ (((old ≡ []) × Holding new (λ d end. PlacesFront n (delta_form [] d end) before after))
    ⊎ ((new ≡ []) × Holding old (λ d end. PlacesFront n (delta_form d [] end) before after)))

-- What is wrong with the inputs, the first of these. Two that are both empty are no data.
abbrev pub RefusesChanges : DeltaFault → (old new : List ℕ) → Type 0
RefusesChanges (Old f) old new = (old ≢ []) × IsFlawOfData old f
RefusesChanges (New f) old new =
    ((old ≡ []) ⊎ ((new ≢ []) × HasData old)) × IsFlawOfData new f
RefusesChanges _ old new = ⊥

-- The whole promise of a call: as that of the delta.
abbrev pub ChangesBetween : Result ℕ DeltaFault → (old new before after : List ℕ) → Type 0
ChangesBetween (Ok n) old new before after = WritesChanges (Some n) old new before after
ChangesBetween (Err NoRoom) old new before after = WritesChanges None old new before after
ChangesBetween (Err f) old new before after = RefusesChanges f old new × (after ≡ before)
