use Rattle.std.proofs.Common.{◌≡◌, ℕ, Bor, arith}
use Rattle.std.specs.Map.Iter.{deref_pair}
use Rattle.list_summary.proofs.Rankings.{passes_more, ranks_all, ranks_more}
use Rattle.list_summary.proofs.as_counts.largest.Goals as goal

pub loop-asn-preserved-in-Continue-1 : goal.loop-asn-preserved-in-Continue-1
loop-asn-preserved-in-Continue-1 c =
    let item : Bor ℕ × Bor ℕ = (c.in-Some.asn, c.in-Some.count) in
    ranks_more deref_pair _ _ _ _ c.loop-asn.yielded item c.loop-asn.invariant
    c.in-Some.ensures.steps c.into_u32-number.ensures.range _ c.if-count-gt0.true
    (rw c.into_u32-number.ensures.number at c.in_ok-rank.ensures)

pub loop-asn-preserved : goal.loop-asn-preserved
loop-asn-preserved c =
    let item : Bor ℕ × Bor ℕ = (c.in-Some.asn, c.in-Some.count) in
    let none : c.in-Some.count.now ≡ 0 = omega (arith, c.if-count-gt0.false) in
    passes_more deref_pair _ _ _ _ c.loop-asn.yielded item c.loop-asn.invariant
    c.in-Some.ensures.steps c.into_u32-number.ensures.range none

pub returns : goal.returns
returns c =
    ranks_all deref_pair _ _ _ c.loop-asn.yielded c.loop-asn.invariant c.in-None.ensures.steps.0
    c.iter-asn-items.ensures.ordered
