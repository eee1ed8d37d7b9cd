-- What reading a recording leaves: this library's own.
--
-- A call takes units from the front of its input. It ends where the input does, at the first fault
-- or the first change that is refused, or where the reader or memory fails.
use Rattle.std.specs.Prelude.{◌≡◌, ◌⊎◌, ⊤, ℕ, ◌-◌, ◌^◌, false, min, List, [], ◌++◌, length}
use Rattle.std.specs.Prelude.{Option, Some, None, Result, Ok, Err, IfErr, IsOk}
use Rattle.std.specs.Prelude.{MatchResult}
use Rattle.std.specs.List.{flat_map, AllByRecursion}
use Rattle.std.specs.Io.KnownBytes.{Consumes, IsAtEnd}
use Rattle.std.specs.declared.io.Error.{Error}
use Rattle.rtr_units.specs.AnyEnd.{end_meaning}
use Rattle.rtr_units.specs.StopCauses.{Cause, short, too_many, wrong, cause_of, ReaderState}
use Rattle.rtr_units.specs.StopCauses.{reader_count, HoldsReadError}
use Rattle.rtr_payload.specs.UnitBytes.{HasNoPayload, unit_bytes}
use Rattle.rtr_payload.specs.UnitFields.{LengthsAgree}
use Rattle.rtr_payload.specs.declared.pdu.payload.Payload.{Payload as Unit}
use Rattle.data_memory.specs.declared.change_error.ChangeError.TheVariants.{Memory}
use Rattle.unit_any.specs.AnyFields.{AnyFields, HasAnyFields, any_list, payload}
use Rattle.unit_any.specs.AnyReading.{StopsInAny}
use Rattle.data_recordings.specs.Recordings.{SoMuch, held_after, is_whole, nothing, step}
use Rattle.data_recordings.specs.declared.recording.Recording.{Recording}
use Rattle.data_recordings.specs.declared.stop.Refusal.{Refusal}
use Rattle.data_recordings.specs.declared.stop.Refusal.TheVariants.{Change}
use Rattle.data_recordings.specs.declared.stop.Stop.{Stop}
use Rattle.data_recordings.specs.declared.stop.StopCause.{StopCause}
use Rattle.data_recordings.specs.declared.stop.StopCause.TheVariants.{Read, Refused}

-- the lengths of a prefix are in order (RFC 8210 sections 5.1, 5.6 and 5.7)
abbrev pub KeepsPrefixRule : AnyFields → Type 0
KeepsPrefixRule (payload fields) = LengthsAgree fields
KeepsPrefixRule others = ⊤

-- a unit that counts
abbrev pub IsRecorded : AnyFields → Type 0
IsRecorded unit = HasAnyFields (any_list unit) unit × KeepsPrefixRule unit

-- ---- how it ends

-- Why no unit is read of these last bytes: reading stopped inside it; or they are a payload unit
-- whose prefix breaks the rule on its lengths, or for whose report there was no memory.
abbrev pub HasNoUnit : Cause → (last : List ℕ) → (left : Option (List ℕ)) → Type 0
HasNoUnit cause last left = StopsInAny cause last left
    ⊎ ((unit : Unit) × (last ≡ unit_bytes unit) × HasNoPayload unit cause)

-- why reading stopped at these last bytes after so many units: it is short too where the input ends
-- between two units, before an end of data or inside an answer
abbrev pub StopsReading : Cause → ℕ → SoMuch → (last : List ℕ) → (left : Option (List ℕ)) → Type 0
StopsReading too_many count m last left = (count ≡ 2 ^ 64 - 1) × (last ≡ [])
StopsReading (wrong short) count m last left =
    HasNoUnit (wrong short) last left ⊎ ((last ≡ []) × IsAtEnd left × (is_whole m ≡ false))
StopsReading cause count m last left = HasNoUnit cause last left

-- The unit is refused so; or memory ran out where it is allowed, or for the copy of what is kept
-- that the first payload unit of an answer without a cache response changes.
abbrev pub IsRefused : Refusal → AnyFields → SoMuch → Type 0
IsRefused (Change Memory) unit m = IsOk (step unit m) ⊎ (m.pending ≡ None)
IsRefused e unit m = step unit m ≡ Err e

-- no unit is read of the last bytes, or they are a unit that is refused
abbrev pub StopsRecording : StopCause → ℕ → SoMuch → (last : List ℕ) →
    (left : Option (List ℕ)) → Type 0
StopsRecording (Read f) count m last left = StopsReading (cause_of f) count m last left
StopsRecording (Refused e) count m last left =
    (unit : AnyFields) × (last ≡ any_list unit) × IsRecorded unit × IsRefused e unit m

-- so much is whole, and this is what it leaves
pub record IsLeft (m : SoMuch) (r : Recording) : Type 0 where
  pub none_open : m.pending ≡ None
  pub end : m.end ≡ Some (end_meaning r.end)
  pub payloads : r.payloads ≡ m.kept
  pub has_cut : r.has_cut ≡ m.has_cut

-- how a call ended, by its answer, where so many units made this
abbrev pub EndsRecording : Result Recording Stop → ℕ → SoMuch → (last : List ℕ) →
    (left : Option (List ℕ)) → Type 0
-- at the end of the input, between two units
EndsRecording (Ok r) count m last left = (last ≡ []) × IsAtEnd left × IsLeft m r
EndsRecording (Err stop) count m last left = StopsRecording stop.cause count m last left

-- the reader's count of failures where reading stopped so, where it was n before
abbrev pub stopped_count : StopCause → ℕ → ℕ
stopped_count (Read f) n = reader_count {T = ℕ} (Err (cause_of f)) n
stopped_count (Refused e) n = n

-- The whole promise of reading a recording: `old` and `new` are what the reader has before and
-- after it.
pub record ReadsRecording (result : Result Recording Stop) (old new : ReaderState) : Type 0 where
  -- it took units, and then some last bytes
  pub units : List AnyFields
  pub last : List ℕ
  pub are_recorded : AllByRecursion IsRecorded units
  pub takes : Consumes old.left new.left (flat_map any_list units ++ last)
  -- the units in turn make this
  pub held : SoMuch
  pub makes : held_after units (Ok nothing) ≡ Ok held
  -- so the call ended
  pub ends : EndsRecording result (length units) held last new.left
  -- where it stopped, it says how many bytes the units have
  pub offset : IfErr result (λ s. s.offset ≡ min (length (flat_map any_list units)) (2 ^ 64 - 1))
  -- the reader is blamed exactly where its count of failures rose
  pub reader_failures : MatchResult result (λ r. new.failed ≡ old.failed)
      (λ s. new.failed ≡ stopped_count s.cause old.failed)

-- the error in a reader's fault is one that the last read may have given
abbrev pub HoldsCauseOf : (Error → Type 0) → StopCause → Type 0
HoldsCauseOf fails (Read f) = HoldsReadError fails f
HoldsCauseOf fails (Refused e) = ⊤

abbrev pub HoldsStopError : (Error → Type 0) → Stop → Type 0
HoldsStopError fails s = HoldsCauseOf fails s.cause
