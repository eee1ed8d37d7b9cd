use Rattle.std.specs.List.{AllByRecursion}
use Rattle.json.specs.Value.{items_view}
use Rattle.make_work.specs.JsonValues.{IsLikeAsn, items_list}
use Rattle.make_work.proofs.SeenSoFar.{SeenSoFar}
use Rattle.make_work.proofs.json_looks.are_asns.Given as goal

abbrev pub invariant-loop-item : goal.invariant-loop-item
invariant-loop-item l =
    SeenSoFar (λ vs. AllByRecursion IsLikeAsn (items_list (items_view vs))) l.list l.item-index
