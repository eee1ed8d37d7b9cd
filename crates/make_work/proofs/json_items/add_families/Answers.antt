use Rattle.std.proofs.Common.{refl}
use Rattle.make_work.specs.JsonPayloads.{AreFamilyPayloads}
use Rattle.make_work.proofs.JsonSoFar.{nothing, each_step, each_all}
use Rattle.make_work.specs.JsonRefusals.{RefusesFamily}
use Rattle.make_work.proofs.JsonRefused.{each_refused}
use Rattle.make_work.proofs.json_items.add_families.Goals as goal

pub loop-member-init : goal.loop-member-init
loop-member-init c = nothing _ _ refl

pub loop-member-preserved : goal.loop-member-preserved
loop-member-preserved c =
    each_step AreFamilyPayloads c.args.members.now c.loop-member.member-index
    c.member-item.result _ _ _
    c.loop-member-test.true c.member-item.is c.loop-member.invariant c.in-Ok.ensures

pub returns : goal.returns
returns c =
    each_all AreFamilyPayloads c.args.members.now c.loop-member.member-index _ _
    c.loop-member-test.false
    c.loop-member.invariant

pub returns-in-Err : goal.returns-in-Err
returns-in-Err c =
    each_refused AreFamilyPayloads RefusesFamily c.args.members.now c.loop-member.member-index
    c.member-item.result _ _ _ c.loop-member-test.true c.member-item.is c.loop-member.invariant
    c.in-Err.ensures
