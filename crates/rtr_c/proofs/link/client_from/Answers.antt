use native.Mathlib.Omega.{arith}
use Rattle.std.proofs.Common.{sym, subst, ap, ◌∙◌}
use Rattle.session_router.specs.declared.router.Phase.{Phase}
use Rattle.session_router.specs.declared.router.Router.{Router}
use Rattle.session_client.specs.Holding.{due_size}
use Rattle.session_client.specs.Turning.{InPhase}
use Rattle.session_client.specs.declared.client.Holding.{Holding}
use Rattle.rtr_c.specs.Routers.{phase_of, router_of}
use Rattle.rtr_c.proofs.Links.{begun_suits, begun_within, due_within, in_phase}
use Rattle.rtr_c.proofs.link.client_from.Goals as goal

pub returns-clause-step : goal.returns-clause-step
returns-clause-step c = λ e.
    let l = c.args.link.now in
    let phase =
    ap (λ (r : Router). r.phase) (c.router_from.ensures ∙ ap router_of c.router_in.ensures) in
    let suits = in_phase l.phase l.holding l.end_size c.flag_from.result (begun_suits l e) in
    subst (λ (p : Phase). InPhase p c.holding_from.result) (sym phase)
    (subst (λ (m : Holding). InPhase (phase_of l.phase) m) (sym c.holding_from.ensures) suits)

pub returns-clause-within : goal.returns-clause-within
returns-clause-within c = λ e.
    let l = c.args.link.now in
    let within = begun_within l e in
    let due = due_within l.holding l.end_size c.flag_from.result in
    let same = ap due_size c.holding_from.ensures in
    omega (arith, within, due, same)
