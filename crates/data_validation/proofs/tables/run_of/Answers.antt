use Rattle.std.proofs.Common.{arith, refl}
use Rattle.std.proofs.lemmas.Grind.{common_steps}
use Rattle.rtr_base.specs.Addresses.{family_of}
use Rattle.data_validation.proofs.Walking.{least_more, lengths_more, types_more}
use Rattle.data_validation.proofs.tables.run_of.Goals as goal

pub units-preserved : goal.units-preserved
units-preserved c =
    let f = family_of c.args.is_v4 in
    let len = c.front_at-front.ensures.len in
    record {
      at = grind (arith, common_steps);
      room = grind (arith, common_steps);
      few = grind (arith, common_steps);
      least = least_more f c.args.units.now c.units.count c.units.shortest
          c.at_most-shortest.result c.front_at-front.result.len c.units.invariant.least len
          c.at_most-shortest.ensures.left c.at_most-shortest.ensures.right;
      lengths = lengths_more f c.args.units.now c.units.count c.front_at-front.result.byte
          c.front_at-front.result.len c.units.lengths _ c.units.invariant.lengths
          c.lower.ensures.all c.front_at-front.ensures.byte len c.lower.ensures.here;
      each = types_more f c.args.units.now c.units.rest.now c.units.count c.units.invariant.at
          c.units.invariant.each (c.units-test.ensures.0 refl).1;
    }
