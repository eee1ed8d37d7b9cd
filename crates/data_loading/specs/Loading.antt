-- What loading a recording or a list leaves: the data that its units leave, one after the other, as
-- `Recordings` of `data_recordings` has it, in canonical form; or the first unit at which that
-- can't go on. That units of an answer are of one version, that the changes of an answer are of the
-- version of the data (RFC 8210 section 7), and what a caller's buffers hold, is this library's
-- own.
use Rattle.std.specs.Prelude.{◌≡◌, ◌≢◌, ◌⊎◌, ⊤, ℕ, ◌<◌, Bool, true, false, List, [], ◌∷◌}
use Rattle.std.specs.Prelude.{◌++◌, length, take, filter, Option, Some, None, Result, Ok, Err}
use Rattle.std.specs.Prelude.{if◌then◌else◌}
use Rattle.std.specs.List.{AllByRecursion, flat_map}
use Rattle.std.specs.Option.{option_map}
use Rattle.rtr_units.specs.AnyEnd.{end_meaning}
use Rattle.rtr_units.specs.End.{EndMeaning}
use Rattle.rtr_payload.specs.UnitFields.{meaning}
use Rattle.unit_views.specs.declared.fault.ViewFault.TheVariants.{Short}
use Rattle.unit_any.specs.AnyFields.{AnyFields, any_list, cache_response, end_of_data, payload}
use Rattle.unit_any.specs.SessionViews.{IsSessionFault}
use Rattle.data_recordings.specs.RecordingRead.{IsRecorded}
use Rattle.data_recordings.specs.Recordings.{OpenAnswer, SoMuch, begins_anew, held_after, is_whole}
use Rattle.data_recordings.specs.Recordings.{last_session, nothing, step}
use Rattle.data_recordings.specs.declared.stop.Refusal.{Refusal}
use Rattle.data_slices.specs.Apply.{data_form}
use Rattle.data_slices.specs.Canonical.{HoldsData}
use Rattle.data_loading.specs.declared.fault.LoadFault.{LoadFault}
use Rattle.data_loading.specs.declared.fault.LoadFault.TheVariants as faults
use Rattle.data_loading.specs.declared.fault.LoadReason.{LoadReason}
use Rattle.data_loading.specs.declared.fault.LoadReason.TheVariants as reasons
use Rattle.data_loading.specs.declared.recording.Loaded.{Loaded}

-- ---- the version of an answer

-- that of the data which the answer of this session changes; none if it begins anew
abbrev pub begun_version : SoMuch → (session : Option ℕ) → Option ℕ
begun_version m session =
    if begins_anew m session then None else option_map (λ end. end.version) m.end

abbrev pub open_version : (pending : Option OpenAnswer) → SoMuch → (version : Option ℕ) → Option ℕ
open_version (Some answer) m version = version
open_version None m version = begun_version m (last_session m)

-- the version that the next payload unit or end of data is to be of, if it is to be of one
abbrev pub current_version : SoMuch → (version : Option ℕ) → Option ℕ
current_version m version = open_version m.pending m version

-- the version of the open answer after a unit
abbrev pub version_step : AnyFields → SoMuch → Option ℕ → Option ℕ
version_step (payload fields) m version = Some (meaning fields).version
version_step (cache_response v session) m version = begun_version m (Some session)
version_step others m version = version

abbrev pub version_through : List AnyFields → Result SoMuch Refusal → Option ℕ → Option ℕ
version_through [] r version = version
version_through (unit ∷ units) (Ok m) version =
    version_through units (step unit m) (version_step unit m version)
version_through (unit ∷ units) (Err e) version = version

-- the version of a payload unit or an end of data
abbrev pub version_borne : AnyFields → Option ℕ
version_borne (payload fields) = Some (meaning fields).version
version_borne (end_of_data end) = Some end.version
version_borne others = None

-- ---- units that were taken

-- the input begins with this many bytes of units, which can be taken in turn
pub record Taken (input : List ℕ) (offset : ℕ) : Type 0 where
  pub units : List AnyFields
  pub left : List ℕ
  pub parts : input ≡ flat_map any_list units ++ left
  pub size : offset ≡ length (flat_map any_list units)
  pub are_recorded : AllByRecursion IsRecorded units
  -- they leave this
  pub held : SoMuch
  pub makes : held_after units (Ok nothing) ≡ Ok held

-- the version of their open answer
abbrev pub version_taken : List AnyFields → Option ℕ
version_taken units = version_through units (Ok nothing) None

-- the unit is the next
abbrev pub BeginsWith : AnyFields → (left : List ℕ) → Type 0
BeginsWith unit left = IsRecorded unit × (rest : List ℕ) × (left ≡ any_list unit ++ rest)

-- ---- what is wrong

-- the unit is of another version than its answer
abbrev pub IsOtherThan : (version : Option ℕ) → ℕ → AnyFields → Type 0
IsOtherThan version v unit =
    (version_borne unit ≡ Some v) × (w : ℕ) × (version ≡ Some w) × (w ≢ v)

-- why the recording can't go on with the bytes that are left
abbrev pub IsWrong : LoadReason → (units : List AnyFields) → SoMuch → (left : List ℕ) → Type 0
IsWrong (reasons.Read e) units m left =
    ((left ≡ []) × (e ≡ Short) × (is_whole m ≡ false))
    ⊎ ((left ≢ []) × (size : Option ℕ) × IsSessionFault left e size)
IsWrong (reasons.Refused why) units m left =
    (unit : AnyFields) × BeginsWith unit left × (step unit m ≡ Err why)
IsWrong (reasons.UnitVersion v) units m left =
    (unit : AnyFields) × BeginsWith unit left
    × IsOtherThan (current_version m (version_taken units)) v unit

abbrev pub IsWrongAt : (input : List ℕ) → (offset : ℕ) → LoadReason → Taken input offset → Type 0
IsWrongAt input offset reason t = IsWrong reason t.units t.held t.left

-- ---- what a call leaves

abbrev pub is_payload : AnyFields → Bool
is_payload (payload fields) = true
is_payload others = false

-- a unit that neither opens nor closes an answer (RFC 8210 sections 5.5 and 5.8)
abbrev pub IsInside : AnyFields → Type 0
IsInside (cache_response version session) = ⊥
IsInside (end_of_data end) = ⊥
IsInside others = ⊤

-- no payload unit of the answer that is open next has come: none is open, or the last of the units
-- is its cache response
abbrev pub IsAtStart : (units : List AnyFields) → SoMuch → Type 0
IsAtStart units m =
    (m.pending ≡ None)
    ⊎ ((front : List AnyFields) × (v : ℕ) × (session : ℕ)
    × (units ≡ front ++ cache_response v session ∷ []))

-- An answer is open where these bytes are left. The units before it were taken, and its own, as far
-- as they came, are these: of them this many are payload units.
pub record HasOpenAnswer (n : ℕ) (input left : List ℕ) : Type 0 where
  pub offset : ℕ
  pub before : Taken input offset
  pub start : IsAtStart before.units before.held
  pub units : List AnyFields
  pub parts : before.left ≡ flat_map any_list units ++ left
  pub are_recorded : AllByRecursion IsRecorded units
  pub are_inside : AllByRecursion IsInside units
  pub count : n ≡ length (filter is_payload units)

-- units were taken, the last of them an end of data, and a buffer is shorter than the data
abbrev pub LacksLoadRoom : (input : List ℕ) → (room : ℕ) → Type 0
LacksLoadRoom input room =
    (offset : ℕ) × (t : Taken input offset) × (e : EndMeaning) × (t.held.end ≡ Some e)
    × (room < length (data_form t.held.kept e))

-- The input is whole, and the data that it leaves were written.
pub record Loads (loaded : Loaded) (input after : List ℕ) : Type 0 where
  pub taken : Taken input (length input)
  pub none_open : taken.held.pending ≡ None
  pub end : taken.held.end ≡ Some (end_meaning loaded.end)
  pub has_cut : loaded.has_cut ≡ taken.held.has_cut
  pub written_form :
      take loaded.length after ≡ data_form taken.held.kept (end_meaning loaded.end)
  pub size : loaded.length ≡ length (data_form taken.held.kept (end_meaning loaded.end))
  pub canonical :
      HoldsData (take loaded.length after) taken.held.kept (end_meaning loaded.end)

-- why there are no data, for an index of this many elements and buffers of so much room
abbrev pub RefusesLoad : LoadFault → (input : List ℕ) → (places room : ℕ) → Type 0
RefusesLoad (faults.Refused offset reason) input places room =
    (t : Taken input offset) × IsWrong reason t.units t.held t.left
RefusesLoad (faults.NoIndex wanted) input places room =
    (places < wanted) × (left : List ℕ) × HasOpenAnswer wanted input left
RefusesLoad faults.NoRoom input places room = LacksLoadRoom input room

-- The whole promise of a call.
abbrev pub LoadsFrom : Result Loaded LoadFault → (input : List ℕ) → (places room : ℕ) →
    (after : List ℕ) → Type 0
LoadsFrom (Ok loaded) input places room after = Loads loaded input after
LoadsFrom (Err f) input places room after = RefusesLoad f input places room
