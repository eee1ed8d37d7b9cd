-- What C gets of loading a recording or a list (this library's own).
use Rattle.std.specs.Prelude.{◌≡◌, ℕ, false, List, drop, Option, Some, None, Result, Ok, Err}
use Rattle.rtr_base.specs.declared.timing.Timing.{Timing}
use Rattle.rtr_units.specs.AnyEnd.{end_meaning}
use Rattle.rtr_units.specs.End.{EndMeaning}
use Rattle.unit_views.specs.declared.fault.ViewFault.TheVariants.{Short}
use Rattle.data_memory.specs.declared.change_error.ChangeError.{ChangeError}
use Rattle.data_memory.specs.declared.change_error.ChangeError.TheVariants as changes
use Rattle.data_recordings.specs.declared.stop.Refusal.{Refusal}
use Rattle.data_recordings.specs.declared.stop.Refusal.TheVariants as refusals
use Rattle.data_loading.specs.declared.fault.LoadFault.{LoadFault}
use Rattle.data_loading.specs.declared.fault.LoadFault.TheVariants as faults
use Rattle.data_loading.specs.declared.fault.LoadReason.{LoadReason}
use Rattle.data_loading.specs.declared.fault.LoadReason.TheVariants as reasons
use Rattle.data_loading.specs.declared.recording.Loaded.{Loaded}
use Rattle.rtr_c.specs.Answers.{rtr_ok, rtr_too_long, rtr_empty_providers, rtr_no_room}
use Rattle.rtr_c.specs.Answers.{rtr_other_session, rtr_duplicate, rtr_unknown, rtr_no_index}
use Rattle.rtr_c.specs.Answers.{rtr_other_version, rtr_old_serial, rtr_reset_inside}
use Rattle.rtr_c.specs.Answers.{rtr_report_inside, rtr_failed, fault_status, fault_detail, wanted}
use Rattle.rtr_c.specs.declared.load.RtrLoaded.{RtrLoaded}

-- ---- reasons in numbers

-- why a change is refused: units that were read have the first two reasons alone
abbrev pub change_status : ChangeError → ℕ
change_status changes.Duplicate = rtr_duplicate
change_status changes.Unknown = rtr_unknown
change_status changes.KeyTooLong = rtr_too_long
change_status changes.NoProviders = rtr_empty_providers
change_status changes.Memory = rtr_failed

abbrev pub recorded_status : Refusal → ℕ
recorded_status (refusals.Change e) = change_status e
recorded_status (refusals.Session s begun) = rtr_other_session
recorded_status (refusals.Serial s last) = rtr_old_serial
recorded_status refusals.CacheReset = rtr_reset_inside
recorded_status refusals.ErrorReport = rtr_report_inside

abbrev pub load_fault_status : LoadReason → ℕ
load_fault_status (reasons.Read e) = fault_status e
load_fault_status (reasons.Refused why) = recorded_status why
load_fault_status (reasons.UnitVersion v) = rtr_other_version

-- the type or the version that is refused, or the rule that is broken
abbrev pub load_fault_detail : LoadReason → ℕ
load_fault_detail (reasons.Read e) = fault_detail e
load_fault_detail (reasons.Refused why) = 0
load_fault_detail (reasons.UnitVersion v) = v

-- how many bytes are needed at least of the unit that is cut off
abbrev pub load_fault_wanted : LoadReason → (left : List ℕ) → ℕ
load_fault_wanted (reasons.Read Short) left = wanted left
load_fault_wanted others left = 0

-- ---- the answer

-- no data
abbrev pub nothing_loaded : (status : ℕ) → RtrLoaded
nothing_loaded s = record {
  length = 0;
  offset = 0;
  wanted = 0;
  serial = 0;
  refresh = 0;
  retry = 0;
  expire = 0;
  session = 0;
  version = 0;
  has_cut = false;
  status = s;
  detail = 0;
}

-- with the times of an end of data, which version 0 lacks (RFC 6810 section 5.8)
abbrev pub times_loaded : Option Timing → RtrLoaded → RtrLoaded
times_loaded None a = a
times_loaded (Some t) a = record a { refresh = t.refresh; retry = t.retry; expire = t.expire }

abbrev pub end_loaded : EndMeaning → RtrLoaded → RtrLoaded
end_loaded e a = times_loaded e.timing (record a {
  serial = e.serial;
  session = e.session;
  version = e.version;
})

-- data of this length
abbrev pub data_loaded : Loaded → RtrLoaded
data_loaded l = end_loaded (end_meaning l.end) (record (nothing_loaded rtr_ok) {
  length = l.length;
  has_cut = l.has_cut;
})

abbrev pub load_refused : LoadFault → (input : List ℕ) → RtrLoaded
load_refused (faults.Refused offset reason) input =
    record (nothing_loaded (load_fault_status reason)) {
      offset = offset;
      wanted = load_fault_wanted reason (drop offset input);
      detail = load_fault_detail reason;
    }
load_refused (faults.NoIndex places) input =
    record (nothing_loaded rtr_no_index) { wanted = places }
load_refused faults.NoRoom input = nothing_loaded rtr_no_room

abbrev pub load_answer : Result Loaded LoadFault → (input : List ℕ) → RtrLoaded
load_answer (Ok l) input = data_loaded l
load_answer (Err f) input = load_refused f input

-- an answer, and its status as the call's
abbrev pub AnswersLoad : (expected answer : RtrLoaded) → (code : ℕ) → Type 0
AnswersLoad expected answer code = (answer ≡ expected) × (code ≡ expected.status)
