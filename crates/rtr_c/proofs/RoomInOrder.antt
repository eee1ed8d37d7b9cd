-- Where what changes make of data in their order doesn't lack room, no answer says so.
use Rattle.std.proofs.Common.{◌≡◌, ◌≢◌, ◌+◌, ◌≤◌, ℕ, List, length, Result, Ok, Err, refl, sym, ap}
use Rattle.std.proofs.Common.{◌∙◌, arith}
use Rattle.data_slices.specs.InOrder.{AppliesInOrder}
use Rattle.data_slices.specs.declared.in_order_fault.InOrderFault.{InOrderFault}
use Rattle.data_slices.specs.declared.in_order_fault.InOrderFault.TheVariants as faults
use Rattle.data_slices.proofs.RoomInOrder as in_order
use Rattle.rtr_c.specs.DataAnswers.{in_order_told}
use Rattle.rtr_c.specs.declared.data_answer.RtrDataAnswer.{RtrDataAnswer}
use Rattle.rtr_c.proofs.DeltaRoom.{reason_else}

told_room : (r : Result ℕ InOrderFault) → r ≢ Err faults.NoRoom → (in_order_told r).status ≢ 9
told_room (Ok n) not = λ i. omega (arith, i)
told_room (Err faults.NoRoom) not = absurd (not refl)
told_room (Err (faults.Data f)) not = reason_else f.reason
told_room (Err (faults.Changes f)) not = reason_else f.reason
told_room (Err (faults.UnitVersion v)) not = λ i. omega (arith, i)
told_room (Err (faults.Session s)) not = λ i. omega (arith, i)
told_room (Err faults.NoIndex) not = λ i. omega (arith, i)
told_room (Err (faults.Duplicate o)) not = λ i. omega (arith, i)
told_room (Err (faults.Unknown o)) not = λ i. omega (arith, i)

pub room_to_apply : (r : Result ℕ InOrderFault) (base changes : List ℕ) (places : ℕ)
    (before after : List ℕ) (a : RtrDataAnswer) →
    AppliesInOrder r base changes places before after → a ≡ in_order_told r →
    length base + length changes ≤ length before → a.status ≢ 9
room_to_apply r base changes places before after a w told enough =
    λ i. told_room r (in_order.room_in_order r places base changes before after w enough)
    (sym (ap (λ (b : RtrDataAnswer). b.status) told) ∙ i)
