-- How much room what changes make of data takes, as they came.
use Rattle.std.proofs.Common.{◌≢◌, ◌≤◌, ℕ, ◌+◌, List, length, Result, Ok, Err}
use Rattle.std.proofs.Common.{arith}
use Rattle.data_slices.specs.InOrder.{AppliesInOrder}
use Rattle.data_slices.specs.declared.in_order_fault.InOrderFault.{InOrderFault}
use Rattle.data_slices.specs.declared.in_order_fault.InOrderFault.TheVariants as faults
use Rattle.data_slices.proofs.ApplyRoom.{made_fits}

pub room_in_order : (r : Result ℕ InOrderFault) (places : ℕ) (base changes before after : List ℕ) →
    AppliesInOrder r base changes places before after →
    length base + length changes ≤ length before → r ≢ Err faults.NoRoom
room_in_order (Ok n) places base changes before after w enough e = absurd cc
room_in_order (Err faults.NoRoom) places base changes before after
    (d, e, cs, e', h, j, (same, session, (few, (d', made, placed)))) enough is =
    absurd (omega (arith, made_fits base changes d d' cs e e' h j same made, placed.0, enough))
room_in_order (Err (faults.Data f)) places base changes before after w enough e = absurd cc
room_in_order (Err (faults.Changes f)) places base changes before after w enough e = absurd cc
room_in_order (Err (faults.UnitVersion v)) places base changes before after w enough e = absurd cc
room_in_order (Err (faults.Session s)) places base changes before after w enough e = absurd cc
room_in_order (Err faults.NoIndex) places base changes before after w enough e = absurd cc
room_in_order (Err (faults.Duplicate o)) places base changes before after w enough e = absurd cc
room_in_order (Err (faults.Unknown o)) places base changes before after w enough e = absurd cc
