use Rattle.std.proofs.Common.{sym, subst}
use Rattle.std.specs.Bool.{Decides}
use Rattle.make_work.specs.JsonPayloads.{HasPayloads}
use Rattle.make_work.proofs.JsonSoFar.{object_seen}
use Rattle.make_work.proofs.json_looks.+looks.Goals as goal

pub has_payloads-returns-in-Object : goal.has_payloads-returns-in-Object
has_payloads-returns-in-Object t c =
    subst (λ j. Decides c.object_has_payloads.result (HasPayloads j))
    (sym (object_seen c.args.value.now c.in-Object.members c.deref-in-Object.result.now
    c.in-Object.is c.deref-in-Object.ensures.value)) c.object_has_payloads.ensures
