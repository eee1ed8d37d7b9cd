-- What a fault of a call on views says (this library's own; which fault comes first, as of units).
use Rattle.std.specs.Prelude.{◌≡◌, ℕ, Bool, true, false, not, List, Option, Some, Result, Err}
use Rattle.std.specs.Prelude.{MatchResult, IfErr, ⊤}
use Rattle.std.specs.Io.KnownBytes.{Appends}
use Rattle.std.specs.declared.io.Error.{Error}
use Rattle.rtr_units.specs.StopCauses.{Refusal, short, unit_type, unit_version, too_long}
use Rattle.rtr_units.specs.StopCauses.{unit_length, empty_providers, refused}
use Rattle.rtr_units.specs.Stream.{WritesPart}
use Rattle.rtr_units.specs.StopCauses.{WriterState, IsWriteError, count_after}
use Rattle.rtr_units.specs.declared.source.Sink as sinks
use Rattle.rtr_payload.specs.FirstFault.{first_fault, refusal_report}
use Rattle.rtr_payload.specs.FaultSteps.{first_unit}
use Rattle.unit_views.specs.declared.fault.ViewFault.{ViewFault}
use Rattle.unit_views.specs.declared.fault.ViewFault.TheVariants.{Writer, Short, UnitType}
use Rattle.unit_views.specs.declared.fault.ViewFault.TheVariants.{UnitLength, TooLong}
use Rattle.unit_views.specs.declared.fault.ViewFault.TheVariants.{EmptyProviders, UnitVersion}
use Rattle.unit_views.specs.declared.fault.ViewFault.TheVariants.{Prefix, TooMany}

-- The fault names what is wrong with the unit u. Of a prefix that breaks its rule it names the part
-- that is broken, and of the report that part is told alone.
abbrev pub NamesRefusal : List ℕ → Option Refusal → ViewFault → Type 0
NamesRefusal u wrong (Writer e) = ⊥
NamesRefusal u wrong Short = wrong ≡ Some short
NamesRefusal u wrong (UnitType t) = wrong ≡ Some (unit_type t)
NamesRefusal u wrong UnitLength = wrong ≡ Some unit_length
NamesRefusal u wrong TooLong = wrong ≡ Some too_long
NamesRefusal u wrong EmptyProviders = wrong ≡ Some empty_providers
NamesRefusal u wrong (UnitVersion v) = wrong ≡ Some (unit_version v)
NamesRefusal u wrong (Prefix rule) = wrong ≡ Some (refused (refusal_report u rule))
NamesRefusal u wrong TooMany = ⊥

-- the fault names the first fault of the list r
abbrev pub IsFirstFault : List ℕ → ViewFault → Type 0
IsFirstFault r e = NamesRefusal (first_unit r) (first_fault r) e

-- whether the writer gave the fault
abbrev pub is_view_writer_fault : {T : Type 0} → Result T ViewFault → Bool
is_view_writer_fault (Err (Writer e)) = true
is_view_writer_fault _ = false

abbrev pub IsWriterFault : ViewFault → Type 0
IsWriterFault (Writer e) = ⊤
IsWriterFault _ = ⊥

-- the error in a writer's fault is one of the last write
abbrev pub HoldsViewWriteError : (Error → Type 0) → Type 0 → ViewFault → Type 0
HoldsViewWriteError fails Stalls (Writer e) = IsWriteError fails Stalls e
HoldsViewWriteError fails Stalls _ = ⊤

-- what a call that writes this piece leaves
abbrev pub PutsPiece :
    {T : Type 0} → Result T ViewFault → WriterState → WriterState → List ℕ → Type 0
PutsPiece r old new piece =
    MatchResult r (λ _. Appends old.held new.held piece)
    (λ e. WritesPart (IsWriterFault e) old.held new.held piece)
    × (new.failed ≡ count_after old.failed (not (is_view_writer_fault r)))

-- A call that writes this piece to a writer of type W, which is `old` before it and `new` after it.
pub record WritesPiece {W : Type 0} (sink : sinks.Ghosts W) {T : Type 0}
    (result : Result T ViewFault) (old new : W) (piece : List ℕ) : Type 0 where
  -- all of it was written, or a part of it and then the writer failed, which is counted
  pub bytes : PutsPiece result (sink.state old) (sink.state new) piece
  -- the error in a writer's fault is one of the last write
  pub error : IfErr result (HoldsViewWriteError (sink.fails new) (sink.stalls new))
