-- The state of loading. Only contracts of private functions cite these.
use Rattle.std.specs.Prelude.{◌≡◌, ◌⊎◌, ⊤, ℕ, ◌<◌, ◌≤◌, Bool, true, false, List, [], ◌++◌}
use Rattle.std.specs.Prelude.{length, take, Option, Some, None, Result, Ok, Err}
use Rattle.std.specs.List.{AllByRecursion, flat_map}
use Rattle.std.specs.Option.{option_map}
use Rattle.rtr_units.specs.AnyEnd.{end_bytes, end_meaning}
use Rattle.rtr_units.specs.End.{IsEnd}
use Rattle.rtr_units.specs.declared.end.EndOfData.{EndOfData}
use Rattle.rtr_base.specs.declared.action.Action.{Action}
use Rattle.rtr_payload.specs.Payloads.{Payload}
use Rattle.rtr_payload.specs.UnitFields.{Fields, meaning}
use Rattle.rtr_payload.specs.Units.{IsUnit}
use Rattle.unit_any.specs.AnyFields.{AnyFields, HasAnyFields, any_list, cache_reset}
use Rattle.unit_any.specs.AnyFields.{cache_response, end_of_data, error_report, payload}
use Rattle.unit_any.specs.AnyFields.{reset_query, serial_notify, serial_query}
use Rattle.data_memory.specs.Changes.{after_all}
use Rattle.data_memory.specs.Data.{Change}
use Rattle.data_recordings.specs.RecordingRead.{IsRecorded, KeepsPrefixRule}
use Rattle.data_recordings.specs.Recordings.{OpenAnswer, SoMuch, begun_in, held_after, last_session}
use Rattle.data_recordings.specs.Recordings.{nothing, with_payloads}
use Rattle.data_recordings.specs.declared.stop.Refusal.TheVariants as refusals
use Rattle.data_slices.specs.Apply.{data_form}
use Rattle.data_slices.specs.AtOffsets.{IsBase, LieAt, StoppedAt, made_by, offsets_of, why}
use Rattle.data_slices.specs.Canonical.{HoldsData}
use Rattle.data_loading.specs.Loading.{HasOpenAnswer, IsWrong, RefusesLoad, Taken, begun_version}
use Rattle.data_loading.specs.Loading.{version_taken}
use Rattle.data_loading.specs.declared.fault.LoadFault.{LoadFault}
use Rattle.data_loading.specs.declared.fault.LoadFault.TheVariants as faults
use Rattle.data_loading.specs.declared.fault.LoadReason.{LoadReason}
use Rattle.data_loading.specs.declared.fault.LoadReason.TheVariants as reasons
use Rattle.data_loading.specs.declared.held.Answer.{Answer}
use Rattle.data_loading.specs.declared.held.Held.{Held}
use Rattle.data_loading.specs.declared.seen.Seen.{Seen}
use Rattle.data_loading.specs.declared.seen.Seen.TheVariants as seens

-- ---- one unit

-- the effect of a unit with these fields
abbrev pub IsSeen : Seen → List ℕ → AnyFields → Type 0
IsSeen (seens.Payload v) b f =
    (g : Fields) × (f ≡ payload g) × ((meaning g).version ≡ v) × IsUnit b (meaning g)
IsSeen (seens.End e) b f = (f ≡ end_of_data (end_meaning e)) × IsEnd (end_bytes e) (end_meaning e)
IsSeen (seens.Response s) b f = (v : ℕ) × (f ≡ cache_response v s)
IsSeen seens.Reset b f = (v : ℕ) × (s : ℕ) × (f ≡ cache_reset v s)
IsSeen seens.Report b f = (v : ℕ) × (code : ℕ) × (body : List ℕ) × (f ≡ error_report v code body)
IsSeen seens.AsksAll b f = (v : ℕ) × (s : ℕ) × (f ≡ reset_query v s)
IsSeen seens.AsksChanges b f = (v : ℕ) × (s : ℕ) × (n : ℕ) × (f ≡ serial_query v s n)
IsSeen seens.Notifies b f = (v : ℕ) × (s : ℕ) × (n : ℕ) × (f ≡ serial_notify v s n)

-- these bytes are a unit with this effect
abbrev pub Sees : Seen → List ℕ → Type 0
Sees seen b =
    (f : AnyFields) × HasAnyFields b f × KeepsPrefixRule f × IsSeen seen b f

-- ---- what is known

abbrev pub payloads_begun : (is_anew : Bool) → List Payload → List Payload
payloads_begun true d = []
payloads_begun false d = d

-- the open answer, before its changes are applied, with these payloads kept
abbrev pub opened_answer : List Payload → Answer → OpenAnswer
opened_answer d a = record {
  payloads = payloads_begun a.is_anew d;
  session = a.session;
  since = a.since;
  has_all = a.has_all;
}

-- the state that is held, except for the changes of the open answer
abbrev pub so_much : Held → List Payload → SoMuch
so_much h d = record {
  kept = d;
  end = option_map end_meaning h.end;
  pending = option_map (opened_answer d) h.pending;
  asks_all = h.asks_all;
  has_cut = h.has_cut;
}

-- the version of the data that the answer changes is known
abbrev pub IsBased : Answer → (end : Option EndOfData) → Type 0
IsBased a None = ⊤
IsBased a (Some x) = a.is_anew ≡ false → a.version ≡ Some (end_meaning x).version

-- the answer of this session that begins next
pub record IsBegun (a : Answer) (h : Held) (d : List Payload) (session : Option ℕ) : Type 0 where
  pub answer : opened_answer d a ≡ begun_in (so_much h d) session
  pub version : a.version ≡ begun_version (so_much h d) session
  pub count : a.count ≡ 0
  pub based : IsBased a h.end

abbrev pub IsCurrent : (pending : Option Answer) → Answer → Held → Type 0
IsCurrent (Some a) result h = result ≡ a
IsCurrent None result h = (d : List Payload) → IsBegun result h d (last_session (so_much h d))

-- the slice holds the data of whole answers
abbrev pub KeepsData : (size : ℕ) → (end : Option EndOfData) → List Payload → (output : List ℕ) →
    Type 0
KeepsData size None d output = (size ≡ 0) × (d ≡ [])
KeepsData size (Some x) d output =
    (size ≤ length output) × (size ≡ length (data_form d (end_meaning x)))
    × (take size output ≡ data_form d (end_meaning x))
    × HoldsData (take size output) d (end_meaning x)

-- ---- where no answer is open

pub record Idle (input : List ℕ) (at : ℕ) (m : SoMuch) : Type 0 where
  pub units : List AnyFields
  pub left : List ℕ
  pub parts : input ≡ flat_map any_list units ++ left
  pub size : at ≡ length (flat_map any_list units)
  pub are_recorded : AllByRecursion IsRecorded units
  pub makes : held_after units (Ok nothing) ≡ Ok m

-- ---- where one is

-- with these payloads as the result of the open answer's changes
abbrev pub made_in : SoMuch → OpenAnswer → List Payload → SoMuch
made_in m o made = record m { pending = Some (with_payloads o made) }

-- the change of this action at that offset is refused, and the units before it are accepted
abbrev pub RefusedThere : (input : List ℕ) → ℕ × Action → Type 0
RefusedThere input r =
    (t : Taken input r.0)
    × IsWrong (reasons.Refused (refusals.Change (why r.1))) t.units t.held t.left

pub record GathersAnswer (input : List ℕ) (at : ℕ) (m : SoMuch) (o : OpenAnswer) (a : Answer)
    (index : List ℕ) (end : Option EndOfData) : Type 0 where
  pub units : List AnyFields
  pub left : List ℕ
  pub parts : input ≡ flat_map any_list units ++ left
  pub size : at ≡ length (flat_map any_list units)
  pub are_recorded : AllByRecursion IsRecorded units
  -- the changes of the open answer, and their offsets
  pub xs : List (ℕ × Change)
  -- the result of the units, if all are allowed
  pub if_allowed : (made : List Payload) → after_all (made_by xs) (Ok o.payloads) ≡ Ok made →
      (held_after units (Ok nothing) ≡ Ok (made_in m o made)) × (version_taken units ≡ a.version)
  -- and where they stop, otherwise
  pub stops : (r : ℕ × Action) → StoppedAt xs o.payloads r → RefusedThere input r
  pub v : ℕ
  pub lies : LieAt input v xs
  pub of_version : (xs ≡ []) ⊎ (a.version ≡ Some v)
  pub below : AllByRecursion (λ (y : ℕ × Change). y.0 < at) xs
  pub within : length xs ≤ at
  pub counted : length xs ≡ a.count
  pub indexed : a.count ≤ length index → take a.count index ≡ offsets_of xs
  pub opened : HasOpenAnswer a.count input left
  pub based : IsBased a end

abbrev pub ReadsSoMuch : (pending : Option Answer) → (input : List ℕ) → (at : ℕ) → SoMuch →
    List Payload → (index : List ℕ) → (end : Option EndOfData) → Type 0
ReadsSoMuch None input at m d index end = Idle input at m
ReadsSoMuch (Some a) input at m d index end = GathersAnswer input at m (opened_answer d a) a index
    end

pub record StandsAt (h : Held) (at : ℕ) (input index output : List ℕ) : Type 0 where
  pub d : List Payload
  pub keeps : KeepsData h.length h.end d output
  pub reads : ReadsSoMuch h.pending input at (so_much h d) d index h.end

-- ---- the open answer's changes, all allowed

-- the state after the units that were read
abbrev pub IsStateOf : (pending : Option Answer) → SoMuch → List Payload →
    (units : List AnyFields) → (held : SoMuch) → Type 0
IsStateOf None m d units held = held ≡ m
IsStateOf (Some a) m d units held =
    (made : List Payload) × (held ≡ made_in m (opened_answer d a) made)
    × (version_taken units ≡ a.version)

abbrev pub StandsWhole : Held → List Payload → (input : List ℕ) → (at : ℕ) → Type 0
StandsWhole h d input at =
    (t : Taken input at) × IsStateOf h.pending (so_much h d) d t.units t.held

-- the open answer has no fault, or this one
abbrev pub Settles : Option LoadFault → Held → (input index output : List ℕ) → (room : ℕ) → Type 0
Settles None h input index output room =
    (at : ℕ) (s : StandsAt h at input index output) → StandsWhole h s.d input at
Settles (Some f) h input index output room = RefusesLoad f input (length index) room

-- the reason is right, whatever the units leave
abbrev pub IsRightReason : LoadReason → Held → (input : List ℕ) → (at : ℕ) → Type 0
IsRightReason reason h input at =
    (d : List Payload) (t : Taken input at) →
    IsStateOf h.pending (so_much h d) d t.units t.held → IsWrong reason t.units t.held t.left

-- ---- an end of data

-- the result of an answer's changes was written over the kept data, or why it wasn't
abbrev pub WritesBack : Result ℕ LoadFault → List (ℕ × Change) → List Payload → EndOfData →
    (room : ℕ) → (after : List ℕ) → Type 0
WritesBack (Ok n) xs d end room after =
    (made : List Payload) × (after_all (made_by xs) (Ok d) ≡ Ok made)
    × KeepsData n (Some end) made after
WritesBack (Err (faults.Refused o (reasons.Refused (refusals.Change e)))) xs d end room after =
    (a : Action) × StoppedAt xs d (o, a) × (e ≡ why a)
WritesBack (Err (faults.Refused o reason)) xs d end room after = ⊥
WritesBack (Err faults.NoRoom) xs d end room after =
    (made : List Payload) × (after_all (made_by xs) (Ok d) ≡ Ok made)
    × (room < length (data_form made (end_meaning end)))
WritesBack (Err (faults.NoIndex n)) xs d end room after = ⊥

-- the fault of a change of this action at this offset
abbrev pub change_fault_of : ℕ → Action → LoadFault
change_fault_of o a = faults.Refused o (reasons.Refused (refusals.Change (why a)))

-- whatever the data and the changes are
abbrev pub WritesBackAll : Result ℕ LoadFault → (base input os : List ℕ) → EndOfData →
    (room : ℕ) → (after : List ℕ) → Type 0
WritesBackAll r base input os end room after =
    (d : List Payload) (xs : List (ℕ × Change)) → IsBase (end_meaning end).version base d →
    os ≡ offsets_of xs → LieAt input (end_meaning end).version xs →
    WritesBack r xs d end room after

-- how many bytes of the kept data an answer changes
abbrev pub base_size : (is_anew : Bool) → (size : ℕ) → ℕ
base_size true size = 0
base_size false size = size

-- the result of reading a unit, or why it was refused
abbrev pub TookUnit : {T : Type 0} → Result T LoadFault → Held → (at : ℕ) →
    (input index output : List ℕ) → (room : ℕ) → Type 0
TookUnit (Ok t) h at input index output room = StandsAt h at input index output
TookUnit (Err f) h at input index output room = RefusesLoad f input (length index) room
