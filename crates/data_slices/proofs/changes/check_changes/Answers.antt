use Rattle.rtr_units.specs.AnyEnd.{end_meaning}
use Rattle.data_slices.proofs.Making.{both}
use Rattle.data_slices.proofs.Parting.{of_parts}
use Rattle.data_slices.proofs.changes.check_changes.Goals as goal

pub returns-in-Ok-clause-changes : goal.returns-in-Ok-clause-changes
returns-in-Ok-clause-changes c =
    let p = c.in-Ok.parts in
    let h = c.in-Ok.ensures.parts in (
      both h.announced h.withdrawn,
      of_parts c.args.input.now p.middle p.stop (end_meaning p.end) h,
    )
