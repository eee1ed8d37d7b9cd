-- Where changes in canonical form don't lack room, no answer says so.
use Rattle.std.proofs.Common.{◌≡◌, ◌≢◌, ◌≤◌, ℕ, List, length, Result, Ok, Err, refl, sym, ap}
use Rattle.std.proofs.Common.{◌∙◌, arith}
use Rattle.data_slices.specs.Order.{Orders}
use Rattle.data_slices.specs.declared.order_fault.OrderFault.{OrderFault}
use Rattle.data_slices.specs.declared.order_fault.OrderFault.TheVariants as faults
use Rattle.data_slices.proofs.OrderRoom as ordered
use Rattle.rtr_c.specs.DataAnswers.{order_told}
use Rattle.rtr_c.specs.declared.data_answer.RtrDataAnswer.{RtrDataAnswer}
use Rattle.rtr_c.proofs.DeltaRoom.{reason_else}

told_room : (r : Result ℕ OrderFault) → r ≢ Err faults.NoRoom → (order_told r).status ≢ 9
told_room (Ok n) not = λ i. omega (arith, i)
told_room (Err faults.NoRoom) not = absurd (not refl)
told_room (Err (faults.Flaw f)) not = reason_else f.reason
told_room (Err faults.NoIndex) not = λ i. omega (arith, i)
told_room (Err (faults.Duplicate o)) not = λ i. omega (arith, i)
told_room (Err (faults.Unknown o)) not = λ i. omega (arith, i)
told_room (Err (faults.Undecided o)) not = λ i. omega (arith, i)

pub room_to_order : (r : Result ℕ OrderFault) (input : List ℕ) (places : ℕ)
    (before after : List ℕ) (a : RtrDataAnswer) → Orders r input places before after →
    a ≡ order_told r → length input ≤ length before → a.status ≢ 9
room_to_order r input places before after a w told enough =
    λ i. told_room r (ordered.room_to_order r input places before after w enough)
    (sym (ap (λ (b : RtrDataAnswer). b.status) told) ∙ i)
