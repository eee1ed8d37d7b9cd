-- Where loading has long enough buffers and index, no answer says that they are too short.
use Rattle.std.proofs.Common.{◌≡◌, ◌≢◌, ℕ, List, Option, Some, None, Result, Ok, Err, refl, arith}
use Rattle.rtr_base.specs.declared.timing.Timing.{Timing}
use Rattle.rtr_units.specs.AnyEnd.{end_meaning}
use Rattle.unit_views.specs.declared.fault.ViewFault.{ViewFault}
use Rattle.unit_views.specs.declared.fault.ViewFault.TheVariants as views
use Rattle.data_memory.specs.declared.change_error.ChangeError.{ChangeError}
use Rattle.data_memory.specs.declared.change_error.ChangeError.TheVariants as changes
use Rattle.data_recordings.specs.declared.stop.Refusal.{Refusal}
use Rattle.data_recordings.specs.declared.stop.Refusal.TheVariants as refusals
use Rattle.data_loading.specs.declared.fault.LoadFault.{LoadFault}
use Rattle.data_loading.specs.declared.fault.LoadFault.TheVariants as faults
use Rattle.data_loading.specs.declared.fault.LoadReason.{LoadReason}
use Rattle.data_loading.specs.declared.fault.LoadReason.TheVariants as reasons
use Rattle.data_loading.specs.declared.recording.Loaded.{Loaded}
use Rattle.rtr_c.specs.Answers.{fault_status}
use Rattle.rtr_c.specs.LoadAnswers.{change_status, data_loaded, load_answer, load_fault_status}
use Rattle.rtr_c.specs.LoadAnswers.{recorded_status, times_loaded}
use Rattle.rtr_c.specs.declared.load.RtrLoaded.{RtrLoaded}

-- no unit that is refused has either status
abbrev IsOther : ℕ → Type 0
IsOther status = (status ≢ 9) × (status ≢ 17)

view_else : (e : ViewFault) → IsOther (fault_status e)
view_else (views.Writer e) = (λ i. omega (arith, i), λ i. omega (arith, i))
view_else views.Short = (λ i. omega (arith, i), λ i. omega (arith, i))
view_else (views.UnitType t) = (λ i. omega (arith, i), λ i. omega (arith, i))
view_else views.UnitLength = (λ i. omega (arith, i), λ i. omega (arith, i))
view_else views.TooLong = (λ i. omega (arith, i), λ i. omega (arith, i))
view_else views.EmptyProviders = (λ i. omega (arith, i), λ i. omega (arith, i))
view_else (views.UnitVersion v) = (λ i. omega (arith, i), λ i. omega (arith, i))
view_else (views.Prefix rule) = (λ i. omega (arith, i), λ i. omega (arith, i))
view_else views.TooMany = (λ i. omega (arith, i), λ i. omega (arith, i))

change_else : (e : ChangeError) → IsOther (change_status e)
change_else changes.Duplicate = (λ i. omega (arith, i), λ i. omega (arith, i))
change_else changes.Unknown = (λ i. omega (arith, i), λ i. omega (arith, i))
change_else changes.KeyTooLong = (λ i. omega (arith, i), λ i. omega (arith, i))
change_else changes.NoProviders = (λ i. omega (arith, i), λ i. omega (arith, i))
change_else changes.Memory = (λ i. omega (arith, i), λ i. omega (arith, i))

recorded_else : (why : Refusal) → IsOther (recorded_status why)
recorded_else (refusals.Change e) = change_else e
recorded_else (refusals.Session s begun) = (λ i. omega (arith, i), λ i. omega (arith, i))
recorded_else (refusals.Serial s last) = (λ i. omega (arith, i), λ i. omega (arith, i))
recorded_else refusals.CacheReset = (λ i. omega (arith, i), λ i. omega (arith, i))
recorded_else refusals.ErrorReport = (λ i. omega (arith, i), λ i. omega (arith, i))

reason_else : (reason : LoadReason) → IsOther (load_fault_status reason)
reason_else (reasons.Read e) = view_else e
reason_else (reasons.Refused why) = recorded_else why
reason_else (reasons.UnitVersion v) = (λ i. omega (arith, i), λ i. omega (arith, i))

times_status : (times : Option Timing) (a : RtrLoaded) → (times_loaded times a).status ≡ a.status
times_status None a = refl
times_status (Some t) a = refl

loaded_status : (l : Loaded) → (data_loaded l).status ≡ 0
loaded_status l = times_status (end_meaning l.end).timing _

pub room_to_load : (r : Result Loaded LoadFault) (input : List ℕ) → r ≢ Err faults.NoRoom →
    (load_answer r input).status ≢ 9
room_to_load (Ok l) input not = λ i. omega (arith, i, loaded_status l)
room_to_load (Err (faults.Refused offset reason)) input not = (reason_else reason).0
room_to_load (Err (faults.NoIndex wanted)) input not = λ i. omega (arith, i)
room_to_load (Err faults.NoRoom) input not = absurd (not refl)

pub index_to_load : (r : Result Loaded LoadFault) (input : List ℕ) →
    ((wanted : ℕ) → r ≢ Err (faults.NoIndex wanted)) → (load_answer r input).status ≢ 17
index_to_load (Ok l) input not = λ i. omega (arith, i, loaded_status l)
index_to_load (Err (faults.Refused offset reason)) input not = (reason_else reason).1
index_to_load (Err (faults.NoIndex wanted)) input not = absurd (not wanted refl)
index_to_load (Err faults.NoRoom) input not = λ i. omega (arith, i)
