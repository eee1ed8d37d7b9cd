-- What it is to apply a sequence to data (this library's own; sequences by RFC 8210 section 8).
--
-- The input is payload units, one after the other. A call takes them from the front, and makes the
-- change of each. It ends at an end of data, and then leaves what the changes made; or at the first
-- unit that can't be read or whose change is refused, at its limit, or where the reader or memory
-- fails, and then leaves the data as it was.
use Rattle.std.specs.Prelude.{◌≡◌, ◌≢◌, ◌⊎◌, ℕ, ◌<◌, ◌≤◌, List, [], ◌++◌, map, length, ⊤, Option}
use Rattle.std.specs.Prelude.{Some, Result, Ok, Err, IfSome, IsOk}
use Rattle.std.specs.Io.KnownBytes.{Consumes}
use Rattle.std.specs.declared.io.Error.{Error}
use Rattle.rtr_units.specs.declared.end.EndOfData.{EndOfData}
use Rattle.rtr_units.specs.AnyEnd.{end_bytes, end_meaning}
use Rattle.rtr_units.specs.End.{EndMeaning, IsEnd}
use Rattle.rtr_units.specs.StopCauses.{by_writer, cause_of, reader_count, HoldsReadError}
use Rattle.rtr_units.specs.StopCauses.{ReaderState}
use Rattle.rtr_payload.specs.Payloads.{Meaning, Payload}
use Rattle.rtr_payload.specs.Units.{IsUnit}
use Rattle.rtr_wire.specs.Run.{BlamesNobody, Counts, Ends}
use Rattle.rtr_wire.specs.Sequences.{Accepts, AreUnits, everything}
use Rattle.data_memory.specs.Changes.{after_all}
use Rattle.data_memory.specs.Data.{after}
use Rattle.data_memory.specs.Sequences.{change_of}
use Rattle.data_memory.specs.declared.apply_error.ApplyCause.{ApplyCause}
use Rattle.data_memory.specs.declared.apply_error.ApplyCause.TheVariants.{Read, Change}
use Rattle.data_memory.specs.declared.apply_error.ApplyError.{ApplyError}
use Rattle.data_memory.specs.declared.change_error.ChangeError.{ChangeError}
use Rattle.data_memory.specs.declared.change_error.ChangeError.TheVariants.{Memory}

-- why the change of the last unit was not made, where the units before made this of the data: it is
-- refused; or memory ran out, before a unit was read or in a change that is allowed
abbrev pub StopsChange : ChangeError → List ℕ → List Payload → Type 0
StopsChange Memory last made =
    (last ≡ []) ⊎ ((m : Meaning) × IsUnit last m × IsOk (after (change_of m) made))
StopsChange e last made = (m : Meaning) × IsUnit last m × (after (change_of m) made ≡ Err e)

-- how many units came before it: fewer than the limit, but where too many did, as many; and none
-- where memory ran out before the first
abbrev pub CountsUnits : ApplyCause → ℕ → List Meaning → Type 0
CountsUnits (Read f) limit read = Counts everything limit (Err (cause_of f)) read
CountsUnits (Change Memory) limit read = length read ≤ limit
CountsUnits (Change e) limit read = length read < limit

-- why a call stopped at these last bytes, with this left of the input, where that is known: a run
-- that reads stops there for the same reason; or the change of the unit that they are was not made
abbrev pub StopsApplying : ApplyCause → List ℕ → Option (List ℕ) → List Payload → Type 0
StopsApplying (Read f) last left made =
    (cause_of f ≢ by_writer) × IfSome left (λ rest. Ends everything (Err (cause_of f)) last rest [])
StopsApplying (Change e) last left made = StopsChange e last made

-- how a call ended, by the answer: how many units it took, what the last bytes after them are, what
-- it left of the input, and what it left of the data
abbrev pub EndsApplying : Result EndOfData ApplyError → ℕ → List Meaning → List ℕ →
    Option (List ℕ) → (before made after : List Payload) → Type 0
-- an end of data: it is the last bytes, and all changes are made
EndsApplying (Ok d) limit read last left before made after =
    (length read < limit) × (last ≡ end_bytes d) × IsEnd last (end_meaning d) × (after ≡ made)
-- an error: it says how many units came before, and the data is as it was
EndsApplying (Err e) limit read last left before made after =
    (e.units ≡ length read) × CountsUnits e.cause limit read
    × StopsApplying e.cause last left made × (after ≡ before)

-- the reader's count of failures after a call with this answer, where it was n before
abbrev pub cause_count : ApplyCause → ℕ → ℕ
cause_count (Read f) n = reader_count {T = ℕ} (Err (cause_of f)) n
cause_count (Change e) n = n

abbrev pub applied_count : Result EndOfData ApplyError → ℕ → ℕ
applied_count (Ok d) n = n
applied_count (Err e) n = cause_count e.cause n

-- The whole promise of a call: `old` and `new` are what the reader has before and after it,
-- `before` and `after` is the data.
pub record Applies (limit : ℕ) (result : Result EndOfData ApplyError) (old new : ReaderState)
    (before after : List Payload) : Type 0 where
  -- the call took whole units, and then some last bytes
  pub units : List ℕ
  pub last : List ℕ
  pub takes : Consumes old.left new.left (units ++ last)
  -- the units have these meanings
  pub meanings : List Meaning
  pub are_units : AreUnits units meanings
  -- their changes are all allowed, one after the other, and make this
  pub made : List Payload
  pub allowed : after_all (map change_of meanings) (Ok before) ≡ Ok made
  -- so the call ended
  pub ends : EndsApplying result limit meanings last new.left before made after
  -- the reader is blamed exactly where its count of failures rose
  pub reader_failures : new.failed ≡ applied_count result old.failed

-- the error in a reader's fault is one that the last read may have given
abbrev pub HoldsCauseError : (Error → Type 0) → ApplyCause → Type 0
HoldsCauseError fails (Read f) = HoldsReadError fails f
HoldsCauseError fails (Change e) = ⊤

abbrev pub HoldsApplyError : (Error → Type 0) → ApplyError → Type 0
HoldsApplyError fails e = HoldsCauseError fails e.cause

-- ---- what follows, where the input is known

-- the answer blames neither the reader nor memory
abbrev pub BlamesNoCause : ApplyCause → Type 0
BlamesNoCause (Read f) = BlamesNobody (Err (cause_of f))
BlamesNoCause (Change Memory) = ⊥
BlamesNoCause (Change e) = ⊤

abbrev pub BlamesNone : Result EndOfData ApplyError → Type 0
BlamesNone (Ok d) = ⊤
BlamesNone (Err e) = BlamesNoCause e.cause

-- The call took b of the input, which ends with the end of data e, and answered that; `left` is
-- what the reader then has, and the data is this.
pub record Leads (result : Result EndOfData ApplyError) (input b : List ℕ) (e : EndMeaning)
    (left : Option (List ℕ)) (after this : List Payload) : Type 0 where
  pub end : EndOfData
  pub answer : result ≡ Ok end
  pub means : end_meaning end ≡ e
  pub made : after ≡ this
  pub rest : List ℕ
  pub parts : input ≡ b ++ rest
  pub leaves : left ≡ Some rest

-- a front b of the input is fewer than `limit` units and an end of data e, whose changes are all
-- allowed and lead from `before` to `this`
pub record IsApplicable (limit : ℕ) (input b : List ℕ) (e : EndMeaning)
    (before this : List Payload) : Type 0 where
  pub meanings : List Meaning
  pub accepts : Accepts input b meanings e
  pub below : length meanings < limit
  pub allowed : after_all (map change_of meanings) (Ok before) ≡ Ok this
