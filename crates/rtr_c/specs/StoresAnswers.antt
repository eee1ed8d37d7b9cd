-- What C gets of a call on the stores of a cache (this library's own).
use Rattle.std.specs.Prelude.{ℕ, Bool, Result, Ok, Err, if◌then◌else◌}
use Rattle.data_slices.specs.declared.fault.Flaw.{Flaw}
use Rattle.data_history.specs.declared.check.CheckFault.{CheckFault}
use Rattle.data_history.specs.declared.check.CheckFault.TheVariants as checks
use Rattle.data_history.specs.declared.newer.Untaken.{Untaken}
use Rattle.data_history.specs.declared.newer.Untaken.TheVariants as untaken
use Rattle.data_history.specs.declared.next.Refused.{Refused}
use Rattle.data_history.specs.declared.next.Refused.TheVariants as refusals
use Rattle.data_history.specs.declared.room.Room.{Room}
use Rattle.data_history.specs.declared.room.Room.TheVariants.{Index, Buffer, Spare, Output}
use Rattle.data_history.specs.declared.since.SinceFault.{SinceFault}
use Rattle.data_history.specs.declared.since.SinceFault.TheVariants as since
use Rattle.rtr_c.specs.DataAnswers.{reason_detail, reason_status}
use Rattle.rtr_c.specs.Stores.{stores_flaw, stores_malformed, stores_no_room, stores_ok}
use Rattle.rtr_c.specs.Stores.{stores_old_serial, stores_other_session, stores_other_times}
use Rattle.rtr_c.specs.Stores.{stores_other_version, stores_same_data, stores_session_left}
use Rattle.rtr_c.specs.Stores.{stores_unit_version, stores_unknown_serial, stores_waits}
use Rattle.rtr_c.specs.declared.stores_answer.RtrStoresAnswer.{RtrStoresAnswer}

-- ---- buffers that are too short

abbrev pub room_index : ℕ
room_index = 1

abbrev pub room_buffer : ℕ
room_buffer = 2

abbrev pub room_spare : ℕ
room_spare = 3

abbrev pub room_output : ℕ
room_output = 4

abbrev pub room_first : ℕ
room_first = 5

abbrev pub room_second : ℕ
room_second = 6

abbrev pub room_number : Room → ℕ
room_number Index = room_index
room_number Buffer = room_buffer
room_number Spare = room_spare
room_number Output = room_output

-- ---- answers

-- this many bytes were written
abbrev pub wrote_answer : ℕ → RtrStoresAnswer
wrote_answer n = record {
  length = n;
  offset = 0;
  wanted = 0;
  status = stores_ok;
  room = 0;
  flaw = 0;
  detail = 0;
}

abbrev pub refused_answer : (status : ℕ) → RtrStoresAnswer
refused_answer s = record {
  length = 0;
  offset = 0;
  wanted = 0;
  status = s;
  room = 0;
  flaw = 0;
  detail = 0;
}

-- this buffer is too short, and has to be so long
abbrev pub no_room_answer : (room wanted : ℕ) → RtrStoresAnswer
no_room_answer room wanted =
    record (refused_answer stores_no_room) { room = room; wanted = wanted }

abbrev pub flaw_answer : Flaw → RtrStoresAnswer
flaw_answer f = record (refused_answer stores_flaw) {
  offset = f.offset;
  flaw = reason_status f.reason;
  detail = reason_detail f.reason;
}

-- why data make no history after the one before, which is written to the spare buffer
abbrev pub untaken_answer : Refused → RtrStoresAnswer
untaken_answer (refusals.Flaw f) = flaw_answer f
untaken_answer (refusals.UnitVersion v) =
    record (refused_answer stores_other_version) { detail = v }
untaken_answer refusals.Same = refused_answer stores_same_data
untaken_answer refusals.Times = refused_answer stores_other_times
untaken_answer refusals.Serial = refused_answer stores_old_serial
untaken_answer refusals.Malformed = refused_answer stores_malformed
untaken_answer (refusals.NoRoom Index wanted) = no_room_answer room_index wanted
untaken_answer (refusals.NoRoom Buffer wanted) = no_room_answer room_buffer wanted
untaken_answer (refusals.NoRoom Spare wanted) = no_room_answer room_spare wanted
untaken_answer (refusals.NoRoom Output wanted) = no_room_answer room_spare wanted

-- data were taken, or why they weren't, where the store that is served is in the second buffer or
-- not: theirs goes to the other one
abbrev pub taking_told : (second : Bool) → Result ℕ Untaken → RtrStoresAnswer
taking_told b (Ok n) = wrote_answer n
taking_told b (Err untaken.Waits) = refused_answer stores_waits
taking_told b (Err untaken.OtherSession) = refused_answer stores_other_session
taking_told b (Err untaken.SessionLeft) = refused_answer stores_session_left
taking_told b (Err (untaken.Refused r)) = untaken_answer r
taking_told b (Err untaken.Malformed) = refused_answer stores_malformed
taking_told b (Err (untaken.NoRoom wanted)) =
    no_room_answer (if b then room_first else room_second) wanted

-- changes were written, or why they weren't
abbrev pub since_told : Result ℕ SinceFault → RtrStoresAnswer
since_told (Ok n) = wrote_answer n
since_told (Err since.Unknown) = refused_answer stores_unknown_serial
since_told (Err since.UnitVersion) = refused_answer stores_unit_version
since_told (Err since.Malformed) = refused_answer stores_malformed
since_told (Err (since.NoRoom room wanted)) = no_room_answer (room_number room) wanted

-- why a store wasn't started from
abbrev pub check_told : CheckFault → RtrStoresAnswer
check_told checks.Malformed = refused_answer stores_malformed
check_told (checks.NoRoom room wanted) = no_room_answer (room_number room) wanted

-- so much was written, or why nothing was
abbrev pub checked_told : Result ℕ CheckFault → RtrStoresAnswer
checked_told (Ok n) = wrote_answer n
checked_told (Err fault) = check_told fault
