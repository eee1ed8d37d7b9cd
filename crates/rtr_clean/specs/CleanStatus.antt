-- How the program ends: this program's own.
use Rattle.std.specs.Prelude.{◌≡◌, ℕ, Bool, true, false, Result, Ok, Err}
use Rattle.rtr_units.specs.declared.fault.Fault.{Fault}
use Rattle.rtr_units.specs.StopCauses.{Cause, by_reader, by_writer, too_many, no_memory, wrong}
use Rattle.rtr_units.specs.StopCauses.{by_cause}
use Rattle.rtr_units.specs.Stream.{Flushes}
use Rattle.rtr_units.specs.StopCauses.{ReaderState, WriterState}
use Rattle.rtr_wire.specs.Sequences.{Output}
use Rattle.rtr_clean.specs.Cleaning.{Cleans}

-- the status by how the run ended, and by whether the flush after it succeeded
abbrev pub clean_status : Result Unit Cause → Bool → ℕ
clean_status (Ok _) true = 0
clean_status (Ok _) false = 3
clean_status (Err by_reader) flushed = 3
clean_status (Err by_writer) flushed = 3
clean_status (Err no_memory) flushed = 3
clean_status (Err too_many) flushed = 1
clean_status (Err (wrong f)) flushed = 1

-- a run that writes this, then one flush of the output, and both decide the status
abbrev pub CleansAndFlushes : Output → ℕ → ReaderState → ReaderState → WriterState →
    WriterState → Type 0
CleansAndFlushes what status old new before after =
    (answer : Result Unit Fault) × (flushed : Bool) × (mid : WriterState)
    × Cleans what answer old new before mid × Flushes flushed mid after
    × (status ≡ clean_status (by_cause answer) flushed)
