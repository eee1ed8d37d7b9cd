use Rattle.std.proofs.Common.{ℕ, Bor, List, subst, sym}
use Rattle.std.specs.Map.Iter.{deref_pair}
use Rattle.data_memory.proofs.Fronts.{turn, turned_all}
use Rattle.validate_work.specs.RouteOrigins.{IsNextRow}
use Rattle.validate_work.specs.declared.states.States.{States}
use Rattle.validate_work.proofs.NextRows.{turned_too}
use Rattle.validate_work.proofs.origins.next_row.Goals as goal

pub loop-asn-preserved : goal.loop-asn-preserved
loop-asn-preserved c =
    let ys = c.loop-asn.yielded in
    let i = c.loop-asn.invariant in
    let x : Bor ℕ × Bor States = (c.in-Some.asn, c.in-Some.states) in
    record {
      turned = turn deref_pair ys x _ _ _ i.turned c.in-Some.ensures.steps;
      next = turned_too deref_pair ys x c.args.after.now c.loop-asn.next _ i.next
          c.nearer-next.ensures;
    }

pub returns : goal.returns
returns c =
    let i = c.loop-asn.invariant in
    let all = turned_all deref_pair c.loop-asn.yielded _ _ i.turned c.in-None.ensures.steps.0 in
    subst (λ es. IsNextRow es c.args.after.now c.loop-asn.next) (sym all) i.next
