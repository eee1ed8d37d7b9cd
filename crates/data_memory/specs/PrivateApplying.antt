-- One unit of a sequence that is applied. Only contracts of private functions cite this.
use Rattle.std.specs.Prelude.{◌≡◌, ◌≢◌, ℕ, List, [], Option, Result, Ok, Err}
use Rattle.std.specs.Io.KnownBytes.{Consumes}
use Rattle.rtr_base.specs.declared.action.Action.{Action}
use Rattle.rtr_units.specs.declared.end.EndOfData.{EndOfData}
use Rattle.rtr_units.specs.declared.fault.Fault.{Fault}
use Rattle.rtr_units.specs.AnyEnd.{end_bytes, end_meaning}
use Rattle.rtr_units.specs.End.{IsEnd}
use Rattle.rtr_units.specs.StopCauses.{by_writer, cause_of}
use Rattle.rtr_payload.specs.Meanings.{payload_of}
use Rattle.rtr_payload.specs.Payloads.{Meaning}
use Rattle.rtr_payload.specs.Units.{IsUnit}
use Rattle.rtr_payload.specs.declared.payload.Payload.{Payload as Value}
use Rattle.rtr_wire.specs.PrivateSteps.{StepTells}
use Rattle.rtr_wire.specs.Sequences.{everything}
use Rattle.data_memory.specs.Sequences.{change_of}

-- What reading one unit leaves: its bytes were taken, and this is the change that it is for; or
-- those of an end of data; or reading stopped as a step of a run does.
abbrev pub ReadsChange : Result (Result (Action × Value) EndOfData) Fault →
    (old left : Option (List ℕ)) → Type 0
ReadsChange (Ok (Ok c)) old left = (t : List ℕ) × (m : Meaning) × Consumes old left t × IsUnit t m
    × (change_of m ≡ record { action = c.0; payload = payload_of c.1 })
ReadsChange (Ok (Err d)) old left =
    Consumes old left (end_bytes d) × IsEnd (end_bytes d) (end_meaning d)
ReadsChange (Err f) old left = (t : List ℕ) × Consumes old left t × (cause_of f ≢ by_writer)
    × StepTells everything (Err (cause_of f)) t [] left
