use Rattle.std.proofs.Common.{ℕ, Bor, List, map, subst, sym}
use Rattle.std.specs.List.{AllByRecursion}
use Rattle.std.specs.Map.Iter.{deref_pair}
use Rattle.data_memory.specs.Contents.{entry_of}
use Rattle.data_memory.specs.Sequences.{IsInRange}
use Rattle.data_memory.proofs.Fronts.{turn, turned_all}
use Rattle.data_memory.proofs.Sendable.{range_more}
use Rattle.validate_work.proofs.ranges.aspas_in_range.Goals as goal

pub loop-customer-preserved : goal.loop-customer-preserved
loop-customer-preserved c =
    let ys = c.loop-customer.yielded in
    let i = c.loop-customer.invariant in
    let x : Bor ℕ × Bor (List ℕ) = (c.in-Some.customer, c.in-Some.providers) in
    record {
      turned = turn deref_pair ys x _ _ _ i.turned c.in-Some.ensures.steps;
      ranges = range_more deref_pair entry_of ys x i.ranges c.aspa_in_range.ensures;
    }

pub returns : goal.returns
returns c =
    let i = c.loop-customer.invariant in
    let all = turned_all deref_pair c.loop-customer.yielded _ _ i.turned
    c.in-None.ensures.steps.0 in
    subst (λ (es : List (ℕ × List ℕ)). AllByRecursion (λ p. IsInRange p) (map entry_of es))
    (sym all) i.ranges
