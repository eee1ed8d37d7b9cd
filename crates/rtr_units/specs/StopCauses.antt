-- Why a call on units stopped, apart from how the code keeps it, and what it shows of its reader
-- and
-- its writer. The causes and the counts are this library's own.
use Rattle.std.specs.Prelude.{◌≡◌, ℕ, ◌+◌, ◌-◌, ◌^◌, min, Bool, false, cond, List, Option}
use Rattle.std.specs.Prelude.{Result, Ok, Err, ⊤, ◌⊎◌}
use Rattle.std.specs.declared.io.Error.{Error}
use Rattle.std.specs.declared.io.ErrorKind.TheVariants.{WriteZero}
use Rattle.std.specs.IoError.{error_kind}
use Rattle.rtr_units.specs.declared.fault.Fault.{Fault}
use Rattle.rtr_units.specs.declared.fault.Fault.TheVariants.{Reader, Writer, Short, UnitType}
use Rattle.rtr_units.specs.declared.fault.Fault.TheVariants.{UnitLength, TooLong, EmptyProviders}
use Rattle.rtr_units.specs.declared.fault.Fault.TheVariants.{UnitVersion, Refused, TooMany, Memory}

-- what is wrong with the bytes that were there
pub data Refusal : Type 0 where
  -- they end too early
  short : Refusal
  unit_type : ℕ → Refusal
  unit_version : ℕ → Refusal
  too_long : Refusal
  unit_length : Refusal
  empty_providers : Refusal
  -- the lengths of a prefix break their rule; the bytes of the report
  refused : List ℕ → Refusal

pub data Cause : Type 0 where
  -- the reader's or the writer's error
  by_reader : Cause
  by_writer : Cause
  -- as many units as may be were read
  too_many : Cause
  -- an allocation was refused
  no_memory : Cause
  wrong : Refusal → Cause

abbrev pub cause_of : Fault → Cause
cause_of (Reader e) = by_reader
cause_of (Writer e) = by_writer
cause_of Short = wrong short
cause_of (UnitType t) = wrong (unit_type t)
cause_of UnitLength = wrong unit_length
cause_of TooLong = wrong too_long
cause_of EmptyProviders = wrong empty_providers
cause_of (UnitVersion v) = wrong (unit_version v)
cause_of (Refused report) = wrong (refused report)
cause_of TooMany = too_many
cause_of Memory = no_memory

-- the answer of a call, with each fault by its cause
abbrev pub by_cause : {T : Type 0} → Result T Fault → Result T Cause
by_cause (Ok x) = Ok x
by_cause (Err f) = Err (cause_of f)

-- ---- readers and writers

-- a count of failures, which stays at the greatest u64
abbrev pub count_after : ℕ → Bool → ℕ
count_after n well = cond well n (min (n + 1) (2 ^ 64 - 1))

-- What a reader has left to give, where that is known, and how often it has failed, up to 2^64 - 1.
pub record ReaderState : Type 0 where
  pub left : Option (List ℕ)
  pub failed : ℕ

-- What a writer holds, where that is known, and how often it has failed, up to 2^64 - 1.
pub record WriterState : Type 0 where
  pub held : Option (List ℕ)
  pub failed : ℕ

-- the reader's count of failures after a call with this answer, where it was n before
abbrev pub reader_count : {T : Type 0} → Result T Cause → ℕ → ℕ
reader_count (Err by_reader) n = count_after n false
reader_count answer n = n

-- and the writer's
abbrev pub writer_count : {T : Type 0} → Result T Cause → ℕ → ℕ
writer_count (Err by_writer) n = count_after n false
writer_count answer n = n

-- the error in a reader's fault is one that the last read may have given
abbrev pub HoldsReadError : (Error → Type 0) → Fault → Type 0
HoldsReadError fails (Reader e) = fails e
HoldsReadError fails _ = ⊤

-- the error is one that the last write may have given, or says that this write took nothing
abbrev pub IsWriteError : (Error → Type 0) → Type 0 → Error → Type 0
IsWriteError fails Stalls e = fails e ⊎ ((error_kind e ≡ WriteZero) × Stalls)

-- the error in a writer's fault is one of the last write
abbrev pub HoldsWriteError : (Error → Type 0) → Type 0 → Fault → Type 0
HoldsWriteError fails Stalls (Writer e) = IsWriteError fails Stalls e
HoldsWriteError fails Stalls _ = ⊤
