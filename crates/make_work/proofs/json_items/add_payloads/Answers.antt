use Rattle.std.proofs.Common.{MatchResult, subst, sym}
use Rattle.json.specs.Value.{value_view}
use Rattle.make_work.specs.JsonPayloads.{ArePayloadsIn}
use Rattle.make_work.specs.JsonRefusals.{OrMemory, RefusesPayloads}
use Rattle.make_work.specs.PrivateJson.{AddsPayloads}
use Rattle.make_work.specs.declared.json_names.Kind.TheVariants.{Aspas}
use Rattle.make_work.proofs.JsonReading.{null_seen}
use Rattle.make_work.proofs.JsonSoFar.{nothing, object_seen}
use Rattle.make_work.proofs.json_items.add_payloads.Goals as goal

pub returns-in-Aspas-Object : goal.returns-in-Aspas-Object
returns-in-Aspas-Object c =
    let new = c.add_customers.new.gathering in
    let old = c.args.gathering.now in
    rw c.in-Aspas-Object.is-0
    (subst
    (λ j. MatchResult c.add_customers.result
    (λ _. AddsPayloads (ArePayloadsIn Aspas j) old new)
    (λ r. OrMemory (RefusesPayloads Aspas j) r.reason))
    (sym (object_seen c.args.value.now c.in-Aspas-Object.members c.deref-in-Aspas-Object.result.now
    c.in-Aspas-Object.is-1 c.deref-in-Aspas-Object.ensures.value)) c.add_customers.ensures)

pub returns-in_default-Null : goal.returns-in_default-Null
returns-in_default-Null c =
    nothing (ArePayloadsIn c.args.kind (value_view c.args.value.now)) _
    (null_seen c.args.kind c.args.value.now c.in_default-Null.is-1)
