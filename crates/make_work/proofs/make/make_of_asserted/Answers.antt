use Rattle.std.proofs.Common.{inl, inr, refl}
use Rattle.make_work.proofs.Takings.{for_after}
use Rattle.make_work.proofs.make.make_of_asserted.Goals as goal

pub returns-in-Ok : goal.returns-in-Ok
returns-in-Ok g c now items h asked =
    let added = c.in-Ok.ensures in
    inl (
      added.items,
      added.are,
      c.make_of_taken.ensures now _ (added.kept.taken items h)
          (for_after _ _ _ _ _ asked added.kept.settings),
    )

pub returns-in-Err : goal.returns-in-Err
returns-in-Err g c now items h asked = inr (refl, c.tell_memory.ensures)
