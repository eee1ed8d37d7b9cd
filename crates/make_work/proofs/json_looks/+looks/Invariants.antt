use Rattle.json.specs.Value.{items_view, members_view}
use Rattle.make_work.specs.JsonPayloads.{SomeItemHas, SomeMemberHas}
use Rattle.make_work.proofs.SeenSoFar.{SeenSoFar}
use Rattle.make_work.proofs.json_looks.+looks.Given as goal

abbrev pub invariant-some_have_payloads-loop-item : goal.invariant-some_have_payloads-loop-item
invariant-some_have_payloads-loop-item l =
    SeenSoFar (λ vs. SomeItemHas (items_view vs)) l.list l.item-index

abbrev pub invariant-members_have_payloads-loop-member :
    goal.invariant-members_have_payloads-loop-member
invariant-members_have_payloads-loop-member l =
    SeenSoFar (λ ms. SomeMemberHas (members_view ms)) l.members l.member-index
