use Rattle.std.proofs.Common.{arith, refl}
use Rattle.unit_views.proofs.Fronts.{typed_shows, other_type, key_viewed, aspa_viewed}
use Rattle.unit_views.proofs.view.UnitView.first.Goals as goal

pub returns-in-Ok-first-2-clause-view : goal.returns-in-Ok-first-2-clause-view
returns-in-Ok-first-2-clause-view c =
    key_viewed c.args.input.now c.in-Ok-first-2.view.unit.now c.unit.result.now
    c.in-Ok-first-2.ensures.view c.in-Ok-first-2.view.whole c.unit.ensures

pub returns-in-Ok-first-3-clause-view : goal.returns-in-Ok-first-3-clause-view
returns-in-Ok-first-3-clause-view c =
    aspa_viewed c.args.input.now c.in-Ok-first-3.view.unit.now c.unit-in-Ok-first-3.result.now
    c.in-Ok-first-3.ensures.view c.in-Ok-first-3.view.whole c.unit-in-Ok-first-3.ensures

pub returns-in_default-clause-fault : goal.returns-in_default-clause-fault
returns-in_default-clause-fault c =
    typed_shows c.args.input.now _ _ c.if-input-lt8.false refl
    (other_type _ _ _ _ (omega arith) (omega arith) (omega arith) (omega arith) (omega arith))
