-- Where what changes make of data doesn't lack room, no answer says so.
use Rattle.std.proofs.Common.{◌≡◌, ◌≢◌, ◌+◌, ◌≤◌, ℕ, List, length, Result, Ok, Err, refl, sym, ap}
use Rattle.std.proofs.Common.{◌∙◌, arith}
use Rattle.data_slices.specs.Apply.{AppliesChanges}
use Rattle.data_slices.specs.declared.fault.ApplyFault.{ApplyFault}
use Rattle.data_slices.specs.declared.fault.ApplyFault.TheVariants as faults
use Rattle.data_slices.proofs.ApplyRoom as applied
use Rattle.rtr_c.specs.DataAnswers.{apply_told}
use Rattle.rtr_c.specs.declared.data_answer.RtrDataAnswer.{RtrDataAnswer}
use Rattle.rtr_c.proofs.DeltaRoom.{reason_else}

told_room : (r : Result ℕ ApplyFault) → r ≢ Err faults.NoRoom → (apply_told r).status ≢ 9
told_room (Ok n) not = λ i. omega (arith, i)
told_room (Err faults.NoRoom) not = absurd (not refl)
told_room (Err (faults.Data f)) not = reason_else f.reason
told_room (Err (faults.Changes f)) not = reason_else f.reason
told_room (Err (faults.UnitVersion v)) not = λ i. omega (arith, i)
told_room (Err (faults.Session s)) not = λ i. omega (arith, i)
told_room (Err (faults.Duplicate o)) not = λ i. omega (arith, i)
told_room (Err (faults.Unknown o)) not = λ i. omega (arith, i)

pub room_to_apply : (r : Result ℕ ApplyFault) (base changes before after : List ℕ)
    (a : RtrDataAnswer) → AppliesChanges r base changes before after → a ≡ apply_told r →
    length base + length changes ≤ length before → a.status ≢ 9
room_to_apply r base changes before after a w told enough =
    λ i. told_room r (applied.room_to_apply r base changes before after w enough)
    (sym (ap (λ (b : RtrDataAnswer). b.status) told) ∙ i)
