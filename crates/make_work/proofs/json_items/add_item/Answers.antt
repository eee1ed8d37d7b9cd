use Rattle.json.specs.Value.{value_view}
use Rattle.make_work.specs.JsonPayloads.{IsDatedItem}
use Rattle.make_work.specs.JsonRefusals.{RefusesArrayItem}
use Rattle.make_work.proofs.JsonSoFar.{pushed}
use Rattle.make_work.proofs.json_items.add_item.Goals as goal

pub returns-in-Ok : goal.returns-in-Ok
returns-in-Ok c =
    let j = value_view c.args.item.now in
    pushed c.take.result c.in-Ok.payload c.expiry_of.result (IsDatedItem c.args.kind j)
    (RefusesArrayItem c.args.kind j) _ _ (c.in-Ok.ensures, c.expiry_of.ensures) c.take.ensures
