-- What reading a unit of any type leaves, by the bytes that were taken. The order of refusals and
-- the places where memory is asked for are this library's own.
use Rattle.std.specs.Prelude.{◌≡◌, ℕ, ◌<◌, List, [], ◌++◌, length, Option, Some, None}
use Rattle.std.specs.Prelude.{Result, Ok, Err}
use Rattle.std.specs.Io.KnownBytes.{Consumes, IsAtEnd}
use Rattle.rtr_units.specs.declared.fault.Fault.{Fault}
use Rattle.rtr_units.specs.StopCauses.{short, Cause, wrong, cause_of, by_cause}
use Rattle.rtr_units.specs.Reading.{Stops, Takes}
use Rattle.rtr_units.specs.StopCauses.{ReaderState, reader_count}
use Rattle.unit_any.specs.AnyFields.{HasAnyFields}
use Rattle.unit_any.specs.SessionKinds.{session_unit}
use Rattle.unit_any.specs.AnyUnits.{any_bytes, any_fields}
use Rattle.unit_any.specs.declared.any_unit.AnyUnit.{AnyUnit}

-- Why reading a unit of any type stopped where the bytes t of it were there; `left` is what the
-- reader then has. At the end of input it stopped inside the unit, of which a byte was there.
abbrev pub StopsInAny : Cause → List ℕ → Option (List ℕ) → Type 0
StopsInAny (wrong short) t left = Stops session_unit (wrong short) t left × (0 < length t)
StopsInAny cause t left = Stops session_unit cause t left

-- not a byte was left
abbrev pub HasEnded : Option (List ℕ) → Option (List ℕ) → Type 0
HasEnded old left = Consumes old left [] × IsAtEnd left

-- a unit was read, or there was none, or reading stopped
abbrev pub ReadsAnyBytes :
    Result (Option AnyUnit) Fault → Option (List ℕ) → Option (List ℕ) → Type 0
ReadsAnyBytes (Ok None) old left = HasEnded old left
ReadsAnyBytes (Ok (Some u)) old left = Consumes old left (any_bytes u) ×
    HasAnyFields (any_bytes u) (any_fields u)
ReadsAnyBytes (Err e) old left = Takes old left (λ t. StopsInAny (cause_of e) t left)

abbrev pub ReadsAny : Result (Option AnyUnit) Fault → ReaderState → ReaderState → Type 0
ReadsAny r old new =
    ReadsAnyBytes r old.left new.left × (new.failed ≡ reader_count (by_cause r) old.failed)

-- what follows the header h was read, and the unit made of both, or reading stopped
abbrev pub ReadsAnyAfterBytes :
    List ℕ → Result AnyUnit Fault → Option (List ℕ) → Option (List ℕ) → Type 0
ReadsAnyAfterBytes h (Ok u) old left = Takes old left (λ t. any_bytes u ≡ h ++ t) ×
    HasAnyFields (any_bytes u) (any_fields u)
ReadsAnyAfterBytes h (Err e) old left =
    Takes old left (λ t. StopsInAny (cause_of e) (h ++ t) left)

abbrev pub ReadsAnyAfter : List ℕ → Result AnyUnit Fault → ReaderState → ReaderState → Type 0
ReadsAnyAfter h r old new =
    ReadsAnyAfterBytes h r old.left new.left × (new.failed ≡ reader_count (by_cause r) old.failed)
