use Rattle.std.proofs.Common.{take}
use Rattle.json.specs.Value.{items_view}
use Rattle.make_work.specs.JsonPayloads.{AreItemPayloads}
use Rattle.make_work.specs.JsonValues.{items_list}
use Rattle.make_work.specs.PrivateJson.{AddsPayloads}
use Rattle.make_work.proofs.json_items.add_list.Given as goal

abbrev pub invariant-loop-item : goal.invariant-loop-item
invariant-loop-item l =
    AddsPayloads
    (AreItemPayloads l.kind (items_list (items_view (take l.item-index l.list))))
    l.initial.gathering l.gathering
