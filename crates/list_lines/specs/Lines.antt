-- Lines of output, and what writing one leaves: this program's own.
use Rattle.std.specs.Prelude.{◌≡◌, ℕ, ◌<◌, List, [], ◌∷◌, ◌++◌, length, map, max}
use Rattle.std.specs.Prelude.{Option, Result, Ok, Err}
use Rattle.std.specs.Io.KnownBytes.{Appends}
use Rattle.rtr_units.specs.declared.fault.Fault.{Fault}
use Rattle.rtr_units.specs.StopCauses.{Cause, by_writer, no_memory, by_cause, cause_of}
use Rattle.rtr_units.specs.StopCauses.{WriterState, writer_count}

-- the line that is written of a text: bytes below 32 are made spaces, and it ends with a line feed
unfoldable pub written_line : List ℕ → List ℕ
written_line text = map (λ byte. max byte 32) text ++ 10 ∷ []

-- why a line wasn't written, and what was written of it and what wasn't
abbrev pub StopsLine : Cause → List ℕ → List ℕ → Type 0
StopsLine by_writer part missing = 0 < length missing
StopsLine no_memory part missing = part ≡ []
StopsLine cause part missing = ⊥

-- the line of this text was written, or a part of it, or nothing where memory ran out
abbrev pub PutsLineBytes :
    List ℕ → Result (Unit {0}) Fault → Option (List ℕ) → Option (List ℕ) → Type 0
PutsLineBytes text (Ok x) held holds = Appends held holds (written_line text)
PutsLineBytes text (Err e) held holds = (part missing : List ℕ) × Appends held holds part
    × (written_line text ≡ part ++ missing) × StopsLine (cause_of e) part missing

abbrev pub PutsLine : List ℕ → Result (Unit {0}) Fault → WriterState → WriterState → Type 0
PutsLine text r old new =
    PutsLineBytes text r old.held new.held × (new.failed ≡ writer_count (by_cause r) old.failed)
