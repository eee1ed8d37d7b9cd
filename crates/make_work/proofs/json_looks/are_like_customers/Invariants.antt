use Rattle.std.specs.List.{AllByRecursion}
use Rattle.json.specs.Value.{members_view}
use Rattle.make_work.specs.JsonPayloads.{IsLikeCustomer}
use Rattle.make_work.specs.JsonValues.{members_list}
use Rattle.make_work.proofs.SeenSoFar.{SeenSoFar}
use Rattle.make_work.proofs.json_looks.are_like_customers.Given as goal

abbrev pub invariant-loop-member : goal.invariant-loop-member
invariant-loop-member l =
    SeenSoFar (λ ms. AllByRecursion IsLikeCustomer (members_list (members_view ms)))
    l.members l.member-index
