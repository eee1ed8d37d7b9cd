use Rattle.make_work.proofs.JsonSoFar.{nothing, customer_step, customer_all}
use Rattle.make_work.proofs.JsonRefused.{customer_refused}
use Rattle.make_work.proofs.json_items.add_customers.Goals as goal

pub loop-member-init : goal.loop-member-init
loop-member-init c = nothing _ _ tt

pub loop-member-preserved : goal.loop-member-preserved
loop-member-preserved c =
    customer_step c.args.members.now c.loop-member.member-index c.member-item.result _ _ _
    c.loop-member-test.true c.member-item.is c.loop-member.invariant c.in-Ok.ensures

pub returns : goal.returns
returns c =
    customer_all c.args.members.now c.loop-member.member-index _ _ c.loop-member-test.false
    c.loop-member.invariant

pub returns-in-Err : goal.returns-in-Err
returns-in-Err c =
    customer_refused c.args.members.now c.loop-member.member-index c.member-item.result _ _ _
    c.loop-member-test.true c.member-item.is c.loop-member.invariant c.in-Err.ensures
