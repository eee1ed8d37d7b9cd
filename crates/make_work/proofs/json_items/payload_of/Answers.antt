use Rattle.std.proofs.Common.{sym, subst, MatchResult}
use Rattle.make_work.specs.JsonRefusals.{OrMemory, RefusesArrayItem}
use Rattle.make_work.specs.JsonPayloads.{IsItemPayload}
use Rattle.make_work.proofs.JsonSoFar.{object_seen}
use Rattle.make_work.proofs.json_items.payload_of.Goals as goal

pub returns-in-Object : goal.returns-in-Object
returns-in-Object c =
    subst (λ j. MatchResult c.payload.result (IsItemPayload c.args.kind j)
    (λ r. OrMemory (RefusesArrayItem c.args.kind j) r.reason))
    (sym (object_seen c.args.item.now c.in-Object.members c.deref.result.now c.in-Object.is
    c.deref.ensures.value)) c.payload.ensures
