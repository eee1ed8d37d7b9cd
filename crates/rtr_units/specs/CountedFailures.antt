-- Readers and writers whose failures are counted, which is this library's own.
use Rattle.std.specs.Prelude.{◌≡◌, ◌<◌, ◌≤◌, ℕ, Option, Some, None, List, Result, IfErr, is_ok}
use Rattle.std.specs.Prelude.{MatchResult, length, take, drop}
use Rattle.std.specs.Io.{ReadsAtMost}
use Rattle.std.specs.Io.Buffered.{reader_buffer, reader_inner}
use Rattle.std.specs.Io.KnownBytes.{Keeps, ReadConsumes}
use Rattle.std.specs.IoError.{error_kind}
use Rattle.std.specs.declared.io.Error.{Error}
use Rattle.std.specs.declared.io.buffered.BufReader.{BufReader}
use Rattle.std.specs.declared.io.ErrorKind.{ErrorKind}
use Rattle.rtr_units.specs.StopCauses.{ReaderState, WriterState, count_after}

-- The reader or writer, how many failures there were, and the kind of the error that came last:
-- none where nothing has failed, or where a write that took nothing came after it.
pub record Tally (T : Type 0) : Type 0 where
  pub inner : T
  pub failed : ℕ
  pub last : Option ErrorKind

-- what is seen of a reader whose bytes are known by `left`
abbrev pub reader_state : {T : Type 0} → (T → Option (List ℕ)) → Tally T → ReaderState
reader_state left t = record { left = left t.inner; failed = t.failed }

-- what is seen of a writer whose bytes are known by `held`
abbrev pub writer_state : {T : Type 0} → (T → Option (List ℕ)) → Tally T → WriterState
writer_state held t = record { held = held t.inner; failed = t.failed }

-- the last failure was an error of this one's kind
abbrev pub FailedWith : {T : Type 0} → Tally T → Error → Type 0
FailedWith t e = t.last ≡ Some (error_kind e)

-- something has failed, and the last failure was a write that took nothing
abbrev pub Stalled : {T : Type 0} → Tally T → Type 0
Stalled t = (0 < t.failed) × (t.last ≡ None)

-- a read of a reader whose bytes are known by `left`
abbrev pub ReadsCounted : {T : Type 0} → (T → Option (List ℕ)) → Result ℕ Error →
    Tally T → Tally T → List ℕ → Type 0
ReadsCounted left answer old new piece =
    ReadsAtMost answer piece × ReadConsumes (left old.inner) (left new.inner) answer piece
    × IfErr answer (FailedWith new)
    × (new.failed ≡ count_after old.failed (is_ok answer))

-- A read of a buffered reader gave the bytes at the front of its buffer, as many as were asked for
-- or all of them, and left the others there. The reader behind the buffer is as it was.
abbrev pub GivesHeld : {T A : Type 0} → Result ℕ Error → Tally (BufReader T A) →
    Tally (BufReader T A) → List ℕ → Type 0
GivesHeld answer old new piece = MatchResult answer
    (λ count. (length piece ≤ length (reader_buffer old.inner) → count ≡ length piece)
    × (length (reader_buffer old.inner) < length piece → count ≡ length (reader_buffer old.inner))
    × (take count piece ≡ take count (reader_buffer old.inner))
    × (reader_buffer new.inner ≡ drop count (reader_buffer old.inner))
    × (reader_inner new.inner ≡ reader_inner old.inner))
    (λ _. ⊥)

-- a flush of a writer whose bytes are known by `held`
abbrev pub FlushesCounted : {T U : Type 0} → (T → Option (List ℕ)) → Result U Error →
    Tally T → Tally T → Type 0
FlushesCounted held answer old new =
    Keeps (held old.inner) (held new.inner) × IfErr answer (FailedWith new)
    × (new.failed ≡ count_after old.failed (is_ok answer))
