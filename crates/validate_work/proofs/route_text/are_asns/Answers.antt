use Rattle.std.proofs.Common.{rules}
use Rattle.validate_work.proofs.AsSets.{all_left, cut_here, decides_last, goes_on, no_member}
use Rattle.validate_work.proofs.route_text.are_asns.Goals as goal

pub returns-then-not-is_asn : goal.returns-then-not-is_asn
returns-then-not-is_asn c =
    no_member c.args.text.now c.members.rest.now c.in-Some.first.now c.in-Some.others.now
    c.members.invariant.1
    (cut_here c.members.rest.now c.in-Some.first c.in-Some.others c.in-Some.ensures.cases)
    (rw c.if-not-is_asn.true at c.is_asn.ensures)

pub members-preserved : goal.members-preserved
members-preserved c = (
  search rules,
  goes_on c.args.text.now c.members.rest.now c.in-Some.first.now c.in-Some.others.now
      c.members.invariant.1
      (cut_here c.members.rest.now c.in-Some.first c.in-Some.others c.in-Some.ensures.cases)
      (rw c.if-not-is_asn.false at c.is_asn.ensures),
)

pub returns : goal.returns
returns c =
    decides_last c.args.text.now c.members.rest.now c.is_asn-2.result c.members.invariant.1
    c.in_default.ensures.cases c.is_asn-2.ensures
