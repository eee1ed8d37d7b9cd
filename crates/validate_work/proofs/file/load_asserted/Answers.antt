use Rattle.std.proofs.Common.{inl, inr, refl}
use Rattle.make_work.proofs.Takings.{for_after}
use Rattle.validate_work.proofs.file.load_asserted.Goals as goal

pub returns-in-Ok : goal.returns-in-Ok
returns-in-Ok c at items h for =
    let added = c.in-Ok.ensures in
    inl (
      added.items,
      added.are,
      c.load_taken.ensures at _ (added.kept.taken items h)
          (for_after _ _ _ _ _ for added.kept.settings),
    )

pub returns : goal.returns
returns c at items h for = inr refl
