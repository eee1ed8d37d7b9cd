use Rattle.std.proofs.Common.{rules, map, subst, sym}
use Rattle.std.specs.Map.Iter.{deref}
use Rattle.rtr_payload.specs.Meanings.{key_of}
use Rattle.data_memory.proofs.Fronts.{turn, turned_all}
use Rattle.validate_work.specs.PrivateFiles.{TakesPayloads}
use Rattle.validate_work.proofs.TakenPayloads.{payloads_more, payloads_none}
use Rattle.validate_work.proofs.recorded.take_keys.Goals as goal

pub loop-key-init : goal.loop-key-init
loop-key-init c = record { turned = search rules; taken = payloads_none _ }

pub loop-key-preserved : goal.loop-key-preserved
loop-key-preserved c =
    let ys = c.loop-key.yielded in
    let i = c.loop-key.invariant in
    record {
      turned = turn deref ys c.in-Some.key _ _ _ i.turned c.in-Some.ensures.steps;
      taken = payloads_more deref key_of ys c.in-Some.key _ _ _ i.taken c.in-Ok.ensures;
    }

pub returns : goal.returns
returns c =
    let i = c.loop-key.invariant in
    let all = turned_all deref c.loop-key.yielded _ _ i.turned c.in-None.ensures.steps.0 in
    subst (λ xs. TakesPayloads (map key_of xs) c.args.gathering.now c.loop-key.gathering)
    (sym all) i.taken
