-- What calls inside this crate leave. Only contracts of private functions cite these.
use Rattle.std.specs.Prelude.{◌≡◌, ⊤, ℕ, Bool, true, false}
use Rattle.std.specs.Prelude.{List, [], Option, Some, None, Result, Ok, Err, MatchResult}
use Rattle.std.specs.Io.KnownBytes.{Consumes, Appends, IsAtEnd, Keeps}
use Rattle.rtr_units.specs.declared.fault.Fault.{Fault}
use Rattle.rtr_units.specs.StopCauses.{Cause, by_cause, WriterState, writer_count}
use Rattle.rtr_units.specs.Stream.{StopsWriting}
use Rattle.rtr_payload.specs.UnitBytes.{HasNoPayload}
use Rattle.unit_any.specs.AnyFields.{AnyFields, any_list}
use Rattle.unit_any.specs.AnyUnits.{any_bytes}
use Rattle.unit_any.specs.declared.any_unit.AnyUnit.{AnyUnit}
use Rattle.unit_any.specs.declared.any_unit.AnyUnit.TheVariants as units
use Rattle.rtr_wire.specs.Sequences.{Output, everything, for_version}
use Rattle.rtr_clean.specs.CleanForms.{IsPassed, clean_form, ends_answer}
use Rattle.rtr_clean.specs.Cleaning.{StopsAt}
use Rattle.rtr_clean.specs.declared.clean.PassedUnit.{PassedUnit}
use Rattle.rtr_clean.specs.declared.clean.PassedUnit.TheVariants as passes
use Rattle.rtr_clean.specs.declared.flushing.Flushed.{Flushed}
use Rattle.rtr_clean.specs.declared.wanted.WantedForm.{WantedForm}
use Rattle.rtr_clean.specs.declared.wanted.WantedForm.TheVariants as wants

-- what is written, as the program holds what it is asked for
abbrev pub form_held : WantedForm → Output
form_held wants.Everything = everything
form_held (wants.Version v) = for_version v

-- the bytes of the unit that is to be written, if there is one
abbrev pub bytes_to_write : Option AnyUnit → List ℕ
bytes_to_write None = []
bytes_to_write (Some unit) = any_bytes unit

-- why the unit is not passed on: it is a payload unit, and has no payload
abbrev pub HasNoForm : AnyUnit → Cause → Type 0
HasNoForm (units.Payload unit) cause = HasNoPayload unit cause
HasNoForm unit cause = ⊥

-- a flush, which writes no byte, or the writer's failure
abbrev pub PassesOn : Result Flushed Fault → WriterState → WriterState → Type 0
PassesOn r old new = Keeps old.held new.held × MatchResult r (λ _. ⊤) StopsWriting
    × (new.failed ≡ writer_count (by_cause r) old.failed)

-- a unit was taken that ends an answer, or one that doesn't, and what is to be written for it was
-- written
abbrev pub IsPassedOn : Output → Bool → List ℕ → List ℕ → Type 0
IsPassedOn what is_last taken written = (unit : AnyFields) × (taken ≡ any_list unit)
    × IsPassed unit × (written ≡ clean_form what unit) × (ends_answer unit ≡ is_last)

-- whether there was a flush
abbrev pub has_flushed : PassedUnit → Bool
has_flushed passes.Part = false
has_flushed (passes.Answer flushed) = true

-- by the answer: so it was with one unit, which ended an answer exactly where there was a flush; or
-- there was none; or the run ends here
abbrev pub Passes :
    Output → Result (Option PassedUnit) Cause → List ℕ → Option (List ℕ) → List ℕ → Type 0
Passes what (Ok (Some passed)) taken left written =
    IsPassedOn what (has_flushed passed) taken written
Passes what (Ok None) taken left written = (taken ≡ []) × IsAtEnd left × (written ≡ [])
Passes what (Err cause) taken left written = StopsAt what cause taken left written

abbrev pub PassesUnit :
    Output → Result (Option PassedUnit) Fault → (old left held holds : Option (List ℕ)) → Type 0
PassesUnit what r old left held holds = (taken written : List ℕ) × Consumes old left taken
    × Appends held holds written × Passes what (by_cause r) taken left written
