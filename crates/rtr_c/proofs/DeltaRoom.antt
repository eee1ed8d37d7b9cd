-- Where a delta doesn't lack room, no answer says so.
use Rattle.std.proofs.Common.{◌≡◌, ◌≢◌, ◌+◌, ◌≤◌, ℕ, List, length, Result, Ok, Err, refl, sym, ap}
use Rattle.std.proofs.Common.{◌∙◌, arith}
use Rattle.unit_views.specs.declared.fault.ViewFault.{ViewFault}
use Rattle.unit_views.specs.declared.fault.ViewFault.TheVariants as faults
use Rattle.data_slices.specs.Delta.{ChangesBetween, Deltas}
use Rattle.data_slices.specs.declared.fault.DeltaFault.{DeltaFault}
use Rattle.data_slices.specs.declared.fault.DeltaFault.TheVariants.{Old, New, UnitVersion, Session}
use Rattle.data_slices.specs.declared.fault.DeltaFault.TheVariants.{NoRoom}
use Rattle.data_slices.specs.declared.fault.Reason.{Reason}
use Rattle.data_slices.specs.declared.fault.Reason.TheVariants.{Refused, NotCanonical}
use Rattle.data_slices.proofs.AnyVersions as versions
use Rattle.data_slices.proofs.DeltaRoom as deltas
use Rattle.rtr_c.specs.Answers.{fault_status}
use Rattle.rtr_c.specs.DataAnswers.{delta_told, reason_status}
use Rattle.rtr_c.specs.declared.data_answer.RtrDataAnswer.{RtrDataAnswer}

-- ---- no other refusal has the status of want of room

fault_else : (e : ViewFault) → fault_status e ≢ 9
fault_else (faults.Writer e) = λ i. omega (arith, i)
fault_else faults.Short = λ i. omega (arith, i)
fault_else (faults.UnitType t) = λ i. omega (arith, i)
fault_else faults.UnitLength = λ i. omega (arith, i)
fault_else faults.TooLong = λ i. omega (arith, i)
fault_else faults.EmptyProviders = λ i. omega (arith, i)
fault_else (faults.UnitVersion v) = λ i. omega (arith, i)
fault_else (faults.Prefix rule) = λ i. omega (arith, i)
fault_else faults.TooMany = λ i. omega (arith, i)

pub reason_else : (r : Reason) → reason_status r ≢ 9
reason_else (Refused e) = fault_else e
reason_else NotCanonical = λ i. omega (arith, i)

told_room : (r : Result ℕ DeltaFault) → r ≢ Err NoRoom → (delta_told r).status ≢ 9
told_room (Ok n) not = λ i. omega (arith, i)
told_room (Err NoRoom) not = absurd (not refl)
told_room (Err (Old f)) not = reason_else f.reason
told_room (Err (New f)) not = reason_else f.reason
told_room (Err (UnitVersion v)) not = λ i. omega (arith, i)
told_room (Err (Session s)) not = λ i. omega (arith, i)

pub enough_room : (r : Result ℕ DeltaFault) (old new before after : List ℕ) (a : RtrDataAnswer) →
    Deltas r old new before after → a ≡ delta_told r → length old + length new ≤ length before →
    a.status ≢ 9
enough_room r old new before after a w told enough =
    λ i. told_room r (deltas.enough_room r old new before after w enough)
    (sym (ap (λ (b : RtrDataAnswer). b.status) told) ∙ i)

pub enough_between : (r : Result ℕ DeltaFault) (old new before after : List ℕ)
    (a : RtrDataAnswer) → ChangesBetween r old new before after → a ≡ delta_told r →
    length old + length new ≤ length before → a.status ≢ 9
enough_between r old new before after a w told enough =
    λ i. told_room r (versions.enough_room r old new before after w enough)
    (sym (ap (λ (b : RtrDataAnswer). b.status) told) ∙ i)
