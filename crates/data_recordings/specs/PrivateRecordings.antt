-- What taking one unit of a recording leaves. Only contracts of private functions cite these.
use Rattle.std.specs.Prelude.{◌≡◌, ℕ, false, List, [], None, Result, Ok, Err, IsOk}
use Rattle.rtr_units.specs.StopCauses.{Cause, cause_of}
use Rattle.rtr_units.specs.declared.fault.Fault.TheVariants.{Short}
use Rattle.rtr_payload.specs.Payloads.{Payload}
use Rattle.rtr_payload.specs.UnitBytes.{HasNoPayload}
use Rattle.data_memory.specs.declared.change_error.ChangeError.{ChangeError}
use Rattle.data_memory.specs.declared.change_error.ChangeError.TheVariants.{Memory}
use Rattle.unit_any.specs.AnyUnits.{any_fields}
use Rattle.unit_any.specs.declared.any_unit.AnyUnit.{AnyUnit}
use Rattle.unit_any.specs.declared.any_unit.AnyUnit.TheVariants as units
use Rattle.data_recordings.specs.RecordingRead.{IsLeft, IsRefused, KeepsPrefixRule}
use Rattle.data_recordings.specs.Recordings.{OpenAnswer, SoMuch, begun_in, current, is_whole}
use Rattle.data_recordings.specs.Recordings.{last_session, step, with_open}
use Rattle.data_recordings.specs.declared.recording.Recording.{Recording}
use Rattle.data_recordings.specs.declared.stop.Stop.{Stop}
use Rattle.data_recordings.specs.declared.stop.StopCause.{StopCause}
use Rattle.data_recordings.specs.declared.stop.StopCause.TheVariants.{Read, Refused}

-- why the unit is not taken: it is a payload unit, and has no payload
abbrev pub HasNoChange : AnyUnit → Cause → Type 0
HasNoChange (units.Payload unit) cause = HasNoPayload unit cause
HasNoChange unit cause = ⊥

-- the unit was taken, or refused, or it has no payload
abbrev pub TakesUnit : {T : Type 0} → Result T StopCause → AnyUnit → (old new : SoMuch) → Type 0
TakesUnit (Ok x) unit old new =
    KeepsPrefixRule (any_fields unit) × (step (any_fields unit) old ≡ Ok new)
TakesUnit (Err (Read f)) unit old new = HasNoChange unit (cause_of f)
TakesUnit (Err (Refused e)) unit old new =
    KeepsPrefixRule (any_fields unit) × IsRefused e (any_fields unit) old

-- the same with no answer open
abbrev pub without_pending : SoMuch → SoMuch
without_pending m = record m { pending = None }

-- the answer that the next payload unit is of was taken out, or memory ran out for a copy
abbrev pub TakesCurrent : Result OpenAnswer ChangeError → (old new : SoMuch) → Type 0
TakesCurrent (Ok answer) old new =
    (answer ≡ current old) × (new ≡ without_pending (with_open old))
TakesCurrent (Err e) old new = (e ≡ Memory) × (old.pending ≡ None)

-- an answer that begins without a cache response was taken out, with the payloads themselves
abbrev pub TakesBegun : OpenAnswer → (old new : SoMuch) → Type 0
TakesBegun answer old new = (answer ≡ begun_in old (last_session old))
    × (new ≡ record old { kept = []; asks_all = None })

-- this is what a change was to make, or why it is refused, or memory ran out where it isn't
abbrev pub Gives : Result (List Payload) ChangeError → Result (List Payload) ChangeError → Type 0
Gives (Ok d) wanted = wanted ≡ Ok d
Gives (Err Memory) wanted = IsOk wanted
Gives (Err e) wanted = wanted ≡ Err e

-- where the input ends at this offset: what a whole recording leaves, or that it isn't whole
abbrev pub FinishesAt : Result Recording Stop → SoMuch → (offset : ℕ) → Type 0
FinishesAt (Ok r) m offset = IsLeft m r
FinishesAt (Err stop) m offset =
    (is_whole m ≡ false) × (stop ≡ record { offset = offset; cause = Read Short })
