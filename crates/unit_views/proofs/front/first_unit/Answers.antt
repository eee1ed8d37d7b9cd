use Rattle.std.proofs.Common.{◌≡◌, sym, ap, ◌∙◌, arith, take, subst}
use Rattle.rtr_payload.specs.FaultSteps.{first_unit}
use Rattle.rtr_payload.proofs.Rests.{eight_said}
use Rattle.unit_views.proofs.Fronts.{at_front}
use Rattle.unit_views.specs.PrivateFirst.{IsFirstUnit}
use Rattle.unit_views.proofs.front.first_unit.Goals as goal

pub returns-clause-unit : goal.returns-clause-unit
returns-clause-unit c =
    let r = c.args.input.now in
    let is : c.split_at.result.0.now ≡ first_unit r =
    c.split_at.ensures.front ∙ ap (λ n. take n r) (sym c.requires.size) in
    subst (IsFirstUnit r) (sym is)
    (at_front r c.requires.header (eight_said _ _ _ _ c.requires.in_order)
    (omega (arith, c.requires.size, c.if-size-input.false)))
