use Rattle.std.proofs.Common.{rules, map, subst, sym}
use Rattle.std.specs.Map.Iter.{deref}
use Rattle.rtr_payload.specs.Meanings.{origin_of}
use Rattle.data_memory.proofs.Fronts.{turn, turned_all}
use Rattle.validate_work.specs.PrivateFiles.{TakesPayloads}
use Rattle.validate_work.proofs.TakenPayloads.{payloads_more, payloads_none}
use Rattle.validate_work.proofs.recorded.take_origins.Goals as goal

pub loop-origin-init : goal.loop-origin-init
loop-origin-init c = record { turned = search rules; taken = payloads_none _ }

pub loop-origin-preserved : goal.loop-origin-preserved
loop-origin-preserved c =
    let ys = c.loop-origin.yielded in
    let i = c.loop-origin.invariant in
    record {
      turned = turn deref ys c.in-Some.origin _ _ _ i.turned c.in-Some.ensures.steps;
      taken = payloads_more deref origin_of ys c.in-Some.origin _ _ _ i.taken
          (rw c.get.ensures at c.in-Ok.ensures);
    }

pub returns : goal.returns
returns c =
    let i = c.loop-origin.invariant in
    let all = turned_all deref c.loop-origin.yielded _ _ i.turned c.in-None.ensures.steps.0 in
    subst (λ xs. TakesPayloads (map origin_of xs) c.args.gathering.now c.loop-origin.gathering)
    (sym all) i.taken
