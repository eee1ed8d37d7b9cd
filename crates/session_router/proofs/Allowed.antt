-- Each run of a router is one that is allowed.
use Rattle.std.proofs.Common.{◌≡◌, ℕ, List, ◌∙◌}
use Rattle.session_router.specs.declared.router.Router.{Router}
use Rattle.session_router.specs.declared.event.Event.{Event}
use Rattle.session_router.specs.declared.event.Action.{Action}
use Rattle.session_router.specs.Histories.{Caller, Host, IsHistory, Moment}
use Rattle.session_router.specs.Histories.IsHistory.{run_begins, run_goes_on}
use Rattle.session_router.specs.Safety.{IsAllowed, MayStep}
use Rattle.session_router.specs.Safety.IsAllowed.{allowed_begins, allowed_on}
use Rattle.session_router.specs.Step.{IsStep}
use Rattle.session_router.proofs.Settled.{same_settings}

pub may_step : (r : Router) (n : ℕ) (e : Event) (a : Action) (r' : Router) → IsStep r n e a r'
    → MayStep r n e a r'
may_step r n e a r' w =
    record { rule = w.rule; fresh = w.fresh; settings = same_settings r r' n e a w.paces }

pub allowed :
    {B D : Type 0} (c : Caller B D) (ms : List (Moment B)) (r : Router) (h : Host B D)
    → IsHistory c ms r h → IsAllowed c ms r h
allowed c ms r h (run_begins r₀ new) = allowed_begins r₀ new
allowed c ms r h (run_goes_on n b e a r' ms₀ r₀ h₀ run said went) =
    allowed_on n b e a r' ms₀ r₀ h₀ (allowed c ms₀ r₀ h₀ run) said (may_step r₀ n e a r' went)

pub settled_allowed :
    {B D : Type 0} (c : Caller B D) (ms : List (Moment B)) (r : Router) (h : Host B D)
    → IsAllowed c ms r h → r.settings ≡ c.settings
settled_allowed c ms r h (allowed_begins r₀ new) = new.settings
settled_allowed c ms r h (allowed_on n b e a r' ms₀ r₀ h₀ run said went) =
    went.settings ∙ settled_allowed c ms₀ r₀ h₀ run
