use Rattle.std.proofs.Common.{arith}
use Rattle.data_validation.proofs.Narrowing.{start_is}
use Rattle.data_validation.proofs.tables.start_of.Goals as goal

pub returns : goal.returns
returns c =
    start_is c.args.units.now c.args.count c.args.byte c.bound_between.result _
    (omega arith) (omega arith) c.bound_between.ensures
