use Rattle.std.proofs.Common.{MatchResult, subst, sym}
use Rattle.make_work.specs.JsonPayloads.{AreAuthorizations}
use Rattle.make_work.specs.JsonRefusals.{OrMemory, RefusesAuthorizations}
use Rattle.make_work.specs.PrivateJson.{AddsPayloads}
use Rattle.make_work.proofs.JsonSoFar.{object_seen}
use Rattle.make_work.proofs.json_items.add_authorizations.Goals as goal

pub returns-in-Object : goal.returns-in-Object
returns-in-Object c =
    let new = c.add_families.new.gathering in
    let old = c.args.gathering.now in
    subst
    (λ j. MatchResult c.add_families.result
    (λ _. AddsPayloads (AreAuthorizations j) old new)
    (λ r. OrMemory (RefusesAuthorizations j) r.reason))
    (sym (object_seen c.args.value.now c.in-Object.members c.deref.result.now c.in-Object.is
    c.deref.ensures.value)) c.add_families.ensures
