use native.Mathlib.Omega.{arith}
use Rattle.std.proofs.Common.{◌≡◌, true, drop, take, subst, sym}
use Rattle.session_router.specs.declared.event.Action.TheVariants as actions
use Rattle.rtr_payload.specs.FirstFault.{BeginsUnit}
use Rattle.session_bytes.specs.PrivateReading.{Comes, begins_payload}
use Rattle.session_bytes.specs.Reading.{KeepsAll}
use Rattle.session_bytes.proofs.Units.{acts_on, keeps_on, within}
use Rattle.session_bytes.proofs.telling.tell_on.Goals as goal

pub returns-in_default : goal.returns-in_default
returns-in_default c =
    let comes = subst
    (λ b. Comes c.units.router c.args.now b c.in-Some.action c.in-Some.size c.heard.new.router)
    c.split_at.ensures.back c.in-Some.ensures.unit in
    λ before ended kept.
    acts_on c.args.now before c.units.router c.heard.new.router c.args.input.now c.in-Some.action
    c.units.kept c.in-Some.size c.units.invariant.some c.units.invariant.within
    (c.units.invariant.keeps before kept)
    (subst (λ rest. begins_payload rest ≡ true) c.split_at.ensures.back
    (sym c.if-not-begins_payload.ensures))
    comes c.in_default.not-Keep

pub returns-in-None : goal.returns-in-None
returns-in-None c =
    let (same, refused) = c.heard.ensures.none c.in-None.is in
    λ before ended kept. record {
      some = c.units.invariant.some;
      within = c.units.invariant.within;
      kept = subst (KeepsAll c.args.now before (take c.units.kept c.args.input.now)) (sym same)
          (c.units.invariant.keeps before kept);
      no_more = subst (λ rest. BeginsUnit rest → ⊥) c.split_at.ensures.back refused;
    }

pub units-preserved : goal.units-preserved
units-preserved c =
    let at = subst
    (λ b. Comes c.units.router c.args.now b c.in-Some.action c.in-Some.size c.heard.new.router)
    c.split_at.ensures.back c.in-Some.ensures.unit in
    let comes = subst
    (λ a. Comes c.units.router c.args.now (drop c.units.kept c.args.input.now) a c.in-Some.size
    c.heard.new.router)
    c.in-Keep.is at in
    record {
      some = omega (arith, c.units.invariant.some);
      within = within c.units.router c.heard.new.router c.args.now c.args.input.now actions.Keep
          c.units.kept c.in-Some.size c.units.invariant.within comes;
      keeps = λ before kept.
          keeps_on c.args.now before c.units.router c.heard.new.router c.args.input.now
          c.units.kept c.in-Some.size (c.units.invariant.keeps before kept) comes;
    }
