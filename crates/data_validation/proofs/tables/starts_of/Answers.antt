use Rattle.std.proofs.Common.{arith}
use Rattle.std.proofs.lemmas.Grind.{common_steps}
use Rattle.data_validation.proofs.Narrowing.{starts_more}
use Rattle.data_validation.proofs.tables.starts_of.Goals as goal

pub bytes-preserved : goal.bytes-preserved
bytes-preserved c = record {
  long = grind (arith, common_steps);
  starts = starts_more c.args.units.now c.args.count c.bytes.byte c.start_of.result c.bytes.starts
      (omega arith) c.bytes.invariant.starts c.start_of.ensures;
}
