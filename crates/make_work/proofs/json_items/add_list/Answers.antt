use Rattle.make_work.proofs.JsonSoFar.{nothing, list_step, list_all}
use Rattle.make_work.proofs.JsonRefused.{list_refused}
use Rattle.make_work.proofs.json_items.add_list.Goals as goal

pub loop-item-init : goal.loop-item-init
loop-item-init c = nothing _ _ tt

pub loop-item-preserved : goal.loop-item-preserved
loop-item-preserved c =
    list_step c.args.kind c.args.list.now c.loop-item.item-index c.item-item.result _ _ _
    c.loop-item-test.true c.item-item.is c.loop-item.invariant c.in-Ok.ensures

pub returns : goal.returns
returns c =
    list_all c.args.kind c.args.list.now c.loop-item.item-index _ _ c.loop-item-test.false
    c.loop-item.invariant

pub returns-in-Err : goal.returns-in-Err
returns-in-Err c =
    list_refused c.args.kind c.args.list.now c.loop-item.item-index c.item-item.result _ _ _
    c.loop-item-test.true c.item-item.is c.loop-item.invariant c.in-Err.ensures
