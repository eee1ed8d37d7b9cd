use Rattle.std.proofs.Common.{ap, sym, ◌∙◌}
use Rattle.make_work.specs.JsonPayloads.{item_expiry}
use Rattle.make_work.proofs.JsonSoFar.{object_seen}
use Rattle.make_work.proofs.json_items.expiry_of.Goals as goal

pub returns-in-Object : goal.returns-in-Object
returns-in-Object c =
    c.expiry.ensures ∙ ap item_expiry (sym (object_seen c.args.item.now c.in-Object.members
    c.deref.result.now c.in-Object.is c.deref.ensures.value))
