use Rattle.std.proofs.Common.{take}
use Rattle.json.specs.Value.{members_view}
use Rattle.make_work.specs.JsonPayloads.{AreCustomerAspas}
use Rattle.make_work.specs.JsonValues.{members_list}
use Rattle.make_work.specs.PrivateJson.{AddsPayloads}
use Rattle.make_work.proofs.json_items.add_customers.Given as goal

abbrev pub invariant-loop-member : goal.invariant-loop-member
invariant-loop-member l =
    AddsPayloads
    (AreCustomerAspas (members_list (members_view (take l.member-index l.members))))
    l.initial.gathering l.gathering
