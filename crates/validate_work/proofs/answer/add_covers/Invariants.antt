use Rattle.std.proofs.Common.{◌-◌, length}
use Rattle.validate_work.proofs.Covering.{CoversSoFar}
use Rattle.validate_work.proofs.answer.add_covers.Given as goal

abbrev pub invariant-covers : goal.invariant-covers
invariant-covers l =
    CoversSoFar l.form l.vrps l.route.prefix l.route.asn l.from l.between l.initial.line l.line

abbrev pub decreases-covers : goal.decreases-covers
decreases-covers l = length l.vrps - l.from
