use Rattle.std.proofs.Common.{subst}
use Rattle.unit_views.specs.Placing.{Places}
use Rattle.data_slices.proofs.Sequences.{announced_in}
use Rattle.data_slices.proofs.placing.place_change.Goals as goal

pub returns-in-Announce : goal.returns-in-Announce
returns-in-Announce c =
    rw c.in-Announce.is
    (subst
    (λ l. Places c.place_unit_in.result l c.args.output.now
    c.place_unit_in.new.output)
    (announced_in c.args.version c.args.view.now c.requires.announces)
    c.place_unit_in.ensures)
