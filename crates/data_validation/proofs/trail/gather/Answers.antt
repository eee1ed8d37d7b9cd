use Rattle.std.proofs.Common.{ℕ, arith, subst}
use Rattle.std.proofs.lemmas.Grind.{common_steps}
use Rattle.rtr_base.specs.Addresses.{family_of}
use Rattle.data_validation.specs.PrivateTable.{IsCoveringUnit, IsTable, NoneBetween, route}
use Rattle.data_validation.specs.PrivateTrail.{host}
use Rattle.data_validation.proofs.Following.{gather_more}
use Rattle.data_validation.proofs.trail.gather.Goals as goal

pub units-preserved : goal.units-preserved
units-preserved c =
    let f = family_of c.args.is_v4 in
    let b = c.args.units.now in
    let x = c.in-Some.found in
    let end = c.args.end in
    let address = c.args.address in
    let most = c.units.invariant.so_far.most in
    gather_more f b c.args.from c.units.at end
    (IsTable f b end c.args.least 0 end (host f address)) address c.args.kept.now c.args.count
    c.units.kept c.units.more x (omega (arith, most)) c.units.invariant
    (subst (λ (l : ℕ). IsCoveringUnit f b end c.units.at (route f address l) x)
    c.width_of-len.ensures c.in-Some.ensures.found)
    (subst (λ (l : ℕ). IsTable f b end c.args.least 0 end (route f address l)
    → NoneBetween f b c.units.at x (route f address l)) c.width_of-len.ensures
    c.in-Some.ensures.first)
    (grind (arith, common_steps))
