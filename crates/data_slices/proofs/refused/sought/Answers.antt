use Rattle.data_slices.specs.Items.{meant}
use Rattle.data_slices.proofs.Seeking.{joins}
use Rattle.data_slices.proofs.refused.sought.Goals as goal

pub sought_in_rest-requires : goal.sought_in_rest-requires
sought_in_rest-requires c =
    joins (meant c.args.first.now).payload c.pass_below-after_v6.result.now
    c.pass_below-after_v4.result.now c.args.those.now c.pass_below-after_v4.ensures
    c.pass_below-after_v6.ensures
