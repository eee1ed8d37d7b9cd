-- What a run of `normalise_slice` reads, writes and answers: a run as one of `normalise`, over
-- bytes that are known, for which neither a reader nor memory can fail.
use Rattle.std.specs.Prelude.{◌≡◌, ℕ, not, List, ◌++◌, length, Result, Ok, Err, IfOk}
use Rattle.std.specs.Io.KnownBytes.{Appends}
use Rattle.rtr_units.specs.StopCauses.{short, unit_type, unit_version, too_long, unit_length}
use Rattle.rtr_units.specs.StopCauses.{empty_providers, refused, Cause, by_writer, too_many, wrong}
use Rattle.rtr_units.specs.StopCauses.{WriterState, count_after}
use Rattle.rtr_payload.specs.FirstFault.{refusal_report}
use Rattle.unit_views.specs.Faults.{is_view_writer_fault}
use Rattle.unit_views.specs.declared.fault.ViewFault.{ViewFault}
use Rattle.unit_views.specs.declared.fault.ViewFault.TheVariants.{Writer, Short, UnitType}
use Rattle.unit_views.specs.declared.fault.ViewFault.TheVariants.{UnitLength, TooLong}
use Rattle.unit_views.specs.declared.fault.ViewFault.TheVariants.{EmptyProviders, UnitVersion}
use Rattle.unit_views.specs.declared.fault.ViewFault.TheVariants.{Prefix, TooMany}
use Rattle.rtr_wire.specs.Run.{Run}
use Rattle.rtr_wire.specs.Sequences.{everything}

-- the cause that a fault names; a part of the rule on prefix lengths names the report on the unit u
-- that breaks it
abbrev pub view_cause : List ℕ → ViewFault → Cause
view_cause u (Writer e) = by_writer
view_cause u Short = wrong short
view_cause u (UnitType t) = wrong (unit_type t)
view_cause u UnitLength = wrong unit_length
view_cause u TooLong = wrong too_long
view_cause u EmptyProviders = wrong empty_providers
view_cause u (UnitVersion v) = wrong (unit_version v)
view_cause u (Prefix rule) = wrong (refused (refusal_report u rule))
view_cause u TooMany = too_many

-- the answer as one of `normalise`, with each fault by its cause: the number of units alone
abbrev pub slice_answer : List ℕ → Result (ℕ × ℕ) ViewFault → Result ℕ Cause
slice_answer u (Ok (n, k)) = Ok n
slice_answer u (Err e) = Err (view_cause u e)

-- The whole promise of normalise_slice, with its limit, its result and its input: `old` and `new`
-- are what the writer has before and after it.
pub record NormalisesSlice (limit : ℕ) (result : Result (ℕ × ℕ) ViewFault) (input : List ℕ)
    (old new : WriterState) : Type 0 where
  -- the call took these bytes from the front of the input, left these, and added these to what the
  -- writer holds
  pub taken : List ℕ
  pub left : List ℕ
  pub written : List ℕ
  pub parts : input ≡ taken ++ left
  pub writes : Appends old.held new.held written
  -- That was a run. Its last bytes are the unit whose broken rule is reported.
  pub last : List ℕ
  pub run : Run everything limit (slice_answer last result) taken left written
  pub last_is : last ≡ run.last
  -- a number comes with that of the bytes taken
  pub bytes : IfOk result (λ p. p.1 ≡ length taken)
  -- the writer is blamed exactly where its count of failures rose
  pub writer_failures : new.failed ≡ count_after old.failed (not (is_view_writer_fault result))
