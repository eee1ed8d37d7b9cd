-- What calls inside this crate leave. Only contracts of private functions cite these.
use Rattle.std.specs.Prelude.{◌≡◌, ◌⊎◌, ℕ, List, [], length, Option, Result, Ok, Err, ⊤}
use Rattle.std.specs.Io.KnownBytes.{Consumes}
use Rattle.rtr_units.specs.StopCauses.{Cause, no_memory, wrong, refused}
use Rattle.rtr_units.specs.Reading.{Takes}
use Rattle.rtr_units.specs.Stream.{FallsShort}
use Rattle.rtr_units.specs.StopCauses.{ReaderState, reader_count}

-- Why reading a frame of n bytes, what follows the header of a variable unit, stopped where t of
-- them had come. Memory is refused before the first byte, or after the last one.
abbrev pub StopsInFrame : ℕ → Cause → List ℕ → Option (List ℕ) → Type 0
StopsInFrame n no_memory t left = (t ≡ []) ⊎ (length t ≡ n)
StopsInFrame n cause t left = FallsShort n cause t left

-- a frame of n bytes was read, or reading stopped
abbrev pub ReadsFrameBytes : ℕ → Result (List ℕ) Cause → Option (List ℕ) → Option (List ℕ) → Type 0
ReadsFrameBytes n (Ok t) old left = Consumes old left t × (length t ≡ n)
ReadsFrameBytes n (Err c) old left = Takes old left (λ t. StopsInFrame n c t left)

abbrev pub ReadsFrame : ℕ → Result (List ℕ) Cause → ReaderState → ReaderState → Type 0
ReadsFrame n answer old new =
    ReadsFrameBytes n answer old.left new.left × (new.failed ≡ reader_count answer old.failed)

-- a report, or no memory for it
abbrev pub AnswersReport : Cause → List ℕ → Type 0
AnswersReport (wrong (refused r)) report = r ≡ report
AnswersReport no_memory report = ⊤
AnswersReport c report = ⊥
