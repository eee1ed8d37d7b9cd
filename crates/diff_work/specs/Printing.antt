-- What printing leaves of a text: all of it was written, or a front of it, and then the writer
-- failed or memory ran out. This program's own.
use Rattle.std.specs.Prelude.{◌≡◌, ℕ, ◌<◌, List, ◌++◌, length, Option, Result, Ok, Err, ⊤}
use Rattle.std.specs.Io.KnownBytes.{Appends}
use Rattle.rtr_units.specs.declared.fault.Fault.{Fault}
use Rattle.rtr_units.specs.declared.fault.Fault.TheVariants.{Writer, Memory}
use Rattle.rtr_units.specs.StopCauses.{WriterState, by_cause, writer_count}

-- why not all was written, by what is missing: where the writer failed, something is
abbrev pub StopsPrinting : Fault → List ℕ → Type 0
StopsPrinting (Writer e) missing = 0 < length missing
StopsPrinting Memory missing = ⊤
StopsPrinting _ missing = ⊥

-- a front of the text was written
abbrev pub PrintsFront : Fault → Option (List ℕ) → Option (List ℕ) → List ℕ → Type 0
PrintsFront e old new text = (first missing : List ℕ) × Appends old new first
    × (text ≡ first ++ missing) × StopsPrinting e missing

abbrev pub PutsText :
    {T : Type 0} → Result T Fault → Option (List ℕ) → Option (List ℕ) → List ℕ → Type 0
PutsText (Ok x) old new text = Appends old new text
PutsText (Err e) old new text = PrintsFront e old new text

abbrev pub Puts : {T : Type 0} → Result T Fault → WriterState → WriterState → List ℕ → Type 0
Puts r old new text =
    PutsText r old.held new.held text × (new.failed ≡ writer_count (by_cause r) old.failed)
