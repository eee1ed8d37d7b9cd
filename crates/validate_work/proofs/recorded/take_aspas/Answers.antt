use Rattle.std.proofs.Common.{rules, ℕ, Bor, List, map, subst, sym}
use Rattle.std.specs.Map.Iter.{deref_pair}
use Rattle.data_memory.specs.Contents.{entry_of}
use Rattle.data_memory.proofs.Fronts.{turn, turned_all}
use Rattle.validate_work.specs.PrivateFiles.{TakesPayloads}
use Rattle.validate_work.proofs.TakenPayloads.{payloads_more, payloads_none}
use Rattle.validate_work.proofs.recorded.take_aspas.Goals as goal

pub loop-customer-init : goal.loop-customer-init
loop-customer-init c = record { turned = search rules; taken = payloads_none _ }

pub loop-customer-preserved : goal.loop-customer-preserved
loop-customer-preserved c =
    let ys = c.loop-customer.yielded in
    let i = c.loop-customer.invariant in
    let x : Bor ℕ × Bor (List ℕ) = (c.in-Some.customer, c.in-Some.providers) in
    record {
      turned = turn deref_pair ys x _ _ _ i.turned c.in-Some.ensures.steps;
      taken = payloads_more deref_pair entry_of ys x _ _ _ i.taken c.in-Ok.ensures;
    }

pub returns : goal.returns
returns c =
    let i = c.loop-customer.invariant in
    let all = turned_all deref_pair c.loop-customer.yielded _ _ i.turned
    c.in-None.ensures.steps.0 in
    subst (λ xs. TakesPayloads (map entry_of xs) c.args.gathering.now c.loop-customer.gathering)
    (sym all) i.taken
