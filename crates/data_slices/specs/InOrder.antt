-- The changes of an answer (RFC 8210 sections 8.1 and 8.2), made onto the data that a router has in
-- the order in which they came: what each makes of the data (sections 5.6, 5.7 and 5.10), and which
-- of them is an error (section 12). ASPAs are as in the Rust crate. That both are in slices, the
-- faults and their order are this library's own.
use Rattle.std.specs.Prelude.{◌≡◌, ◌≢◌, ◌<◌, ◌≤◌, ℕ, List, length, Option, Some, None}
use Rattle.std.specs.Prelude.{Result, Ok, Err}
use Rattle.rtr_units.specs.AnyEnd.{end_meaning}
use Rattle.rtr_units.specs.End.{EndMeaning}
use Rattle.rtr_units.specs.declared.end.EndOfData.{EndOfData}
use Rattle.rtr_payload.specs.Payloads.{Payload}
use Rattle.data_memory.specs.Changes.{after_all}
use Rattle.data_memory.specs.Data.{Change}
use Rattle.data_memory.specs.declared.change_error.ChangeError.{ChangeError}
use Rattle.data_memory.specs.declared.change_error.ChangeError.TheVariants as refusals
use Rattle.data_slices.specs.Apply.{RefusedAt, data_form}
use Rattle.data_slices.specs.Canonical.{HasData, HoldsData, PlacesFront}
use Rattle.data_slices.specs.Flaws.{IsFlawOfData}
use Rattle.data_slices.specs.Order.{IsStrayAt, Sends}
use Rattle.data_slices.specs.declared.in_order_fault.InOrderFault.{InOrderFault}
use Rattle.data_slices.specs.declared.in_order_fault.InOrderFault.TheVariants as faults

-- the first input begins with data, the second with units of one version that make changes, in this
-- order, and their end of data; and this holds of what they are
abbrev pub DataAndSequence : (base changes : List ℕ) →
    (List Payload → EndMeaning → List Change → EndMeaning → Type 0) → Type 0
DataAndSequence base changes P =
    (d : List Payload) × (end : EndMeaning) × (cs : List Change) × (end' : EndMeaning) ×
    HoldsData base d end × Sends changes cs end' × P d end cs end'

-- both are of one version and of one session, and this holds of them
abbrev pub InOneSession : (base changes : List ℕ) →
    (List Payload → List Change → EndMeaning → Type 0) → Type 0
InOneSession base changes P = DataAndSequence base changes (λ d end cs end'.
    (end.version ≡ end'.version) × (end.session ≡ end'.session) × P d cs end')

-- all changes are allowed, one after the other in the order in which they came
abbrev pub AreAllowed : List Change → List Payload → Type 0
AreAllowed cs d = (made : List Payload) × (after_all cs (Ok d) ≡ Ok made)

-- Of the changes in the order in which they came, that of the unit at the offset is the first that
-- the rules refuse, for this reason. The index has places for all of them.
abbrev pub RefusesChange : ChangeError → (offset : ℕ) → (base changes : List ℕ) →
    (places : ℕ) → Type 0
RefusesChange why offset base changes places = InOneSession base changes (λ d cs e.
    (length cs ≤ places) × RefusedAt offset why changes d cs e.version)

-- What is wrong with the inputs, the first of these, for an index of this many elements. A change
-- is refused that announces what is there then (error code 7), or that withdraws what isn't there
-- then (error code 6).
abbrev pub RefusesInOrder : InOrderFault → (base changes : List ℕ) → (places : ℕ) → Type 0
RefusesInOrder (faults.Data f) base changes places = IsFlawOfData base f
RefusesInOrder (faults.Changes f) base changes places = HasData base × IsStrayAt changes f
RefusesInOrder (faults.UnitVersion v) base changes places =
    DataAndSequence base changes (λ d end cs end'.
    (end.version ≢ end'.version) × (v ≡ end'.version))
RefusesInOrder (faults.Session s) base changes places =
    DataAndSequence base changes (λ d end cs end'.
    (end.version ≡ end'.version) × (end.session ≢ end'.session) × (s ≡ end'.session))
RefusesInOrder faults.NoIndex base changes places = InOneSession base changes (λ d cs e.
    places < length cs)
RefusesInOrder (faults.Duplicate offset) base changes places =
    RefusesChange refusals.Duplicate offset base changes places
RefusesInOrder (faults.Unknown offset) base changes places =
    RefusesChange refusals.Unknown offset base changes places
RefusesInOrder faults.NoRoom base changes places = ⊥

-- The whole promise of a check: all changes are allowed, and this is their end of data; or the
-- inputs are refused.
abbrev pub ChecksInOrder : Result EndOfData InOrderFault → (base changes : List ℕ) →
    (places : ℕ) → Type 0
ChecksInOrder (Ok end) base changes places = InOneSession base changes (λ d cs e.
    (end_meaning end ≡ e) × (length cs ≤ places) × AreAllowed cs d)
ChecksInOrder (Err f) base changes places = RefusesInOrder f base changes places

-- all changes are allowed, and of the data that they make this was written
abbrev pub WritesInOrder : Option ℕ → (base changes : List ℕ) → (places : ℕ) →
    (before after : List ℕ) → Type 0
WritesInOrder n base changes places before after = InOneSession base changes (λ d cs e.
    (length cs ≤ places) × ((d' : List Payload) × (after_all cs (Ok d) ≡ Ok d')
    × PlacesFront n (data_form d' e) before after))

-- The whole promise of a call: what all changes make of the data was written, and its length
-- answered; or there is no room for all of it, and a front of it was written; or the inputs are
-- refused, with nothing written.
abbrev pub AppliesInOrder : Result ℕ InOrderFault → (base changes : List ℕ) → (places : ℕ) →
    (before after : List ℕ) → Type 0
AppliesInOrder (Ok n) base changes places before after =
    WritesInOrder (Some n) base changes places before after
AppliesInOrder (Err faults.NoRoom) base changes places before after =
    WritesInOrder None base changes places before after
AppliesInOrder (Err f) base changes places before after =
    RefusesInOrder f base changes places × (after ≡ before)

-- this was written, or a front of it where there is no room for all of it
abbrev pub IsMade : Result ℕ InOrderFault → (form before after : List ℕ) → Type 0
IsMade (Ok n) form before after = PlacesFront (Some n) form before after
IsMade (Err faults.NoRoom) form before after = PlacesFront None form before after
IsMade (Err f) form before after = ⊥

-- a change is refused, for this reason
abbrev pub IsRefusedFor : Result ℕ InOrderFault → ChangeError → Type 0
IsRefusedFor (Ok n) why = ⊥
IsRefusedFor (Err faults.NoRoom) why = ⊥
IsRefusedFor (Err (faults.Data f)) why = ⊥
IsRefusedFor (Err (faults.Changes f)) why = ⊥
IsRefusedFor (Err (faults.UnitVersion v)) why = ⊥
IsRefusedFor (Err (faults.Session s)) why = ⊥
IsRefusedFor (Err faults.NoIndex) why = ⊥
IsRefusedFor (Err (faults.Duplicate o)) why = why ≡ refusals.Duplicate
IsRefusedFor (Err (faults.Unknown o)) why = why ≡ refusals.Unknown
