-- What a run reads and writes. All but the units is this program's own.
--
-- A run takes units from the front of its input and writes, before it takes more, what is to be
-- written for each. It ends where the input does, at its first fault, or where the reader, the
-- writer or memory fails.
use Rattle.std.specs.Prelude.{◌≡◌, ◌⊎◌, ℕ, ◌-◌, ◌^◌, ◌<◌, List, [], ◌++◌, length, IsTrue}
use Rattle.std.specs.Prelude.{Option, Result, Ok, Err}
use Rattle.std.specs.Io.KnownBytes.{Consumes, Appends, IsAtEnd}
use Rattle.rtr_units.specs.declared.fault.Fault.{Fault}
use Rattle.rtr_units.specs.StopCauses.{Cause, by_writer, too_many, by_cause}
use Rattle.rtr_units.specs.StopCauses.{ReaderState, WriterState, reader_count, writer_count}
use Rattle.rtr_payload.specs.declared.pdu.payload.Payload.{Payload}
use Rattle.rtr_payload.specs.UnitBytes.{unit_bytes, HasNoPayload}
use Rattle.unit_any.specs.AnyFields.{AnyFields, any_list}
use Rattle.unit_any.specs.AnyReading.{StopsInAny}
use Rattle.rtr_wire.specs.Sequences.{Output}
use Rattle.rtr_clean.specs.CleanForms.{IsPassed, ArePassed, clean_form, clean_stream}
use Rattle.rtr_clean.specs.CleanForms.{ends_answer, stream_bytes}

-- The cause why these last bytes are not passed on, where the reader then has what is left: reading
-- stopped inside a unit; or they are a payload unit whose prefix breaks the rule on its lengths, or
-- for whose report there was no memory.
abbrev pub IsKeptBack : Cause → List ℕ → Option (List ℕ) → Type 0
IsKeptBack cause last left = StopsInAny cause last left
    ⊎ ((unit : Payload) × (last ≡ unit_bytes unit) × HasNoPayload unit cause)

-- Of what is to be written for the unit some bytes are missing; or none is, and it was to be
-- flushed.
abbrev pub WritesPartOf : Output → AnyFields → List ℕ → Type 0
WritesPartOf what unit written = (missing : List ℕ)
    × (clean_form what unit ≡ written ++ missing)
    × ((0 < length missing) ⊎ IsTrue (ends_answer unit))

-- The cause why a run ends at these last bytes, and what it wrote for them: a part, where the
-- writer failed in a unit or at the flush after it; else not a byte.
abbrev pub StopsAt : Output → Cause → List ℕ → Option (List ℕ) → List ℕ → Type 0
StopsAt what by_writer last left written = (unit : AnyFields) × (last ≡ any_list unit)
    × IsPassed unit × WritesPartOf what unit written
StopsAt what cause last left written = IsKeptBack cause last left × (written ≡ [])

-- How a run of this many units ended, by the answer: the last bytes that it took after them, what
-- it left of the input, and what it wrote for the last bytes.
abbrev pub CleanEnds : Output → ℕ → Result Unit Cause → List ℕ → Option (List ℕ) → List ℕ → Type 0
-- at the end of the input, between two units
CleanEnds what count (Ok _) last left written = (last ≡ []) × IsAtEnd left × (written ≡ [])
-- at the most units that are read
CleanEnds what count (Err too_many) last left written =
    (count ≡ 2 ^ 64 - 1) × (last ≡ []) × (written ≡ [])
-- for any other cause
CleanEnds what count (Err cause) last left written = StopsAt what cause last left written

-- The whole promise of a run that writes this: `old` and `new` are what the reader has before and
-- after it, `before` and `after` what the writer has.
pub record Cleans (what : Output) (answer : Result Unit Fault) (old new : ReaderState)
    (before after : WriterState) : Type 0 where
  -- it took units, and then some last bytes
  pub units : List AnyFields
  pub last : List ℕ
  pub are_passed : ArePassed units
  pub takes : Consumes old.left new.left (stream_bytes units ++ last)
  -- it wrote what is to be written for the units, and then something for the last bytes
  pub last_written : List ℕ
  pub writes : Appends before.held after.held (clean_stream what units ++ last_written)
  pub ends : CleanEnds what (length units) (by_cause answer) last new.left last_written
  -- the reader is blamed exactly where its count of failures rose, and the writer where its count
  -- did
  pub reader_failures : new.failed ≡ reader_count (by_cause answer) old.failed
  pub writer_failures : after.failed ≡ writer_count (by_cause answer) before.failed
