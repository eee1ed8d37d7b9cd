use Rattle.std.proofs.Common.{[], inr, subst, sym}
use Rattle.make_work.specs.JsonValues.{AreAsnValues}
use Rattle.make_work.proofs.JsonSoFar.{asns_all, asns_step}
use Rattle.make_work.proofs.json_values.asns_of.Goals as goal
use Rattle.make_work.proofs.JsonRefused.{asns_refused}

pub loop-item-init : goal.loop-item-init
loop-item-init c = subst (AreAsnValues []) (sym c.new-asns.ensures.items) tt

pub loop-item-preserved : goal.loop-item-preserved
loop-item-preserved c =
    asns_step c.args.list.now c.loop-item.item-index c.item-item.result c.loop-item.asns.items _
    c.in-Ok.asn c.loop-item-test.true c.item-item.is c.in-Ok.ensures c.in-Ok-push.ensures.items
    c.loop-item.invariant

pub returns : goal.returns
returns c =
    asns_all c.args.list.now c.loop-item.item-index _ c.loop-item-test.false c.loop-item.invariant

pub returns-in-Err : goal.returns-in-Err
returns-in-Err c =
    inr (asns_refused c.args.list.now c.loop-item.item-index c.item-item.result
    c.loop-item.asns.items _ c.loop-item-test.true c.item-item.is c.loop-item.invariant
    c.in-Err.ensures)
