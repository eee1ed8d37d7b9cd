use Rattle.std.proofs.Common.{take}
use Rattle.json.specs.Value.{items_view}
use Rattle.make_work.specs.JsonValues.{AreAsnValues, items_list}
use Rattle.make_work.proofs.json_values.asns_of.Given as goal

abbrev pub invariant-loop-item : goal.invariant-loop-item
invariant-loop-item l =
    AreAsnValues (items_list (items_view (take l.item-index l.list))) l.asns.items
