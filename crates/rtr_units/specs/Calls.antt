-- What a call leaves of its reader or of its writer, and which error it then gives (this library's
-- own).
use Rattle.std.specs.Prelude.{◌≡◌, ℕ, List, Result, IfErr, MatchResult, is_ok, ⊤}
use Rattle.std.specs.Io.KnownBytes.{Appends}
use Rattle.std.specs.declared.io.Error.{Error}
use Rattle.rtr_units.specs.Reading.{by_bytes}
use Rattle.rtr_units.specs.StopCauses.{Cause, ReaderState, count_after}
use Rattle.rtr_units.specs.StopCauses.{HoldsReadError, HoldsWriteError, IsWriteError}
use Rattle.rtr_units.specs.Stream.{PutsForm, WritesPart}
use Rattle.rtr_units.specs.declared.fault.Fault.{Fault}
use Rattle.rtr_units.specs.declared.source.Sink as sinks
use Rattle.rtr_units.specs.declared.source.Source as sources

-- A call that reads from a reader of type R, which is `old` before it and `new` after it: `Leaves`
-- says what this leaves of the reader, by the answer, of which `bytes_of` gives the bytes read.
pub record ReadsFrom {R : Type 0} (source : sources.Ghosts R) {T : Type 0} (bytes_of : T → List ℕ)
    (result : Result T Fault) (old new : R)
    (Leaves : Result (List ℕ) Cause → ReaderState → ReaderState → Type 0) : Type 0 where
  pub bytes : Leaves (by_bytes bytes_of result) (source.state old) (source.state new)
  -- the error in a reader's fault is one of the last read
  pub error : IfErr result (HoldsReadError (source.fails new))

-- A call that writes this piece to a writer of type W, which is `old` before it and `new` after it.
pub record WritesTo {W : Type 0} (sink : sinks.Ghosts W) {T : Type 0} (result : Result T Fault)
    (old new : W) (piece : List ℕ) : Type 0 where
  -- all of it was written, or a part of it and then the writer failed, which is counted
  pub bytes : PutsForm result (sink.state old) (sink.state new) piece
  -- the error in a writer's fault is one of the last write
  pub error : IfErr result (HoldsWriteError (sink.fails new) (sink.stalls new))

-- such a call that fails by the writer alone, and so answers its error
pub record WritesAll {W : Type 0} (sink : sinks.Ghosts W) {T : Type 0} (result : Result T Error)
    (old new : W) (piece : List ℕ) : Type 0 where
  pub bytes : MatchResult result
      (λ _. Appends (sink.state old).held (sink.state new).held piece)
      (λ _. WritesPart ⊤ (sink.state old).held (sink.state new).held piece)
  pub count : (sink.state new).failed ≡ count_after (sink.state old).failed (is_ok result)
  pub error : IfErr result (IsWriteError (sink.fails new) (sink.stalls new))
