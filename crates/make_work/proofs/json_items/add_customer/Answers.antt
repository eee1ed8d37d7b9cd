use Rattle.std.proofs.Common.{refl}
use Rattle.json.specs.Value.{value_view}
use Rattle.make_work.specs.JsonPayloads.{IsDatedCustomer}
use Rattle.make_work.specs.JsonRefusals.{RefusesCustomer}
use Rattle.make_work.specs.declared.item.Expiry.TheVariants.{Never}
use Rattle.make_work.proofs.JsonSoFar.{pushed}
use Rattle.make_work.proofs.json_items.add_customer.Goals as goal

pub returns-in-Ok : goal.returns-in-Ok
returns-in-Ok c =
    let j = value_view c.args.value.now in
    pushed c.take.result c.in-Ok.payload Never (IsDatedCustomer c.args.name.now j)
    (RefusesCustomer (c.args.name.now, j)) _ _ (c.in-Ok.ensures, refl) c.take.ensures
