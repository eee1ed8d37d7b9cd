use Rattle.json.specs.Value.{items_view}
use Rattle.make_work.specs.JsonValues.{IsLikeAsn, SomeIs, items_list}
use Rattle.make_work.proofs.SeenSoFar.{SeenSoFar}
use Rattle.make_work.proofs.json_looks.has_asn.Given as goal

abbrev pub invariant-loop-item : goal.invariant-loop-item
invariant-loop-item l =
    SeenSoFar (λ vs. SomeIs IsLikeAsn (items_list (items_view vs))) l.list l.item-index
