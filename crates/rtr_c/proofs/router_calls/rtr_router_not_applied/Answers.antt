use Rattle.std.proofs.Common.{refl, subst}
use Rattle.session_router.specs.declared.event.Event.TheVariants as events
use Rattle.rtr_c.specs.RouterActions.{IsRouterStep}
use Rattle.rtr_c.specs.Routers.{clock}
use Rattle.rtr_c.proofs.router_calls.rtr_router_not_applied.Goals as goal

pub returns : goal.returns
returns c = (
  c.step.result,
  refl,
  subst
      (λ code. IsRouterStep c.args.router.now (clock c.args.now) (events.NotApplied code)
      c.step.result
      c.step.new.router)
      c.code_of.ensures.code c.step.ensures,
)
