-- What a step leaves as it is.
use Rattle.std.proofs.Common.{◌≡◌, ℕ, List, ◌∙◌}
use Rattle.session_router.specs.declared.router.Router.{Router}
use Rattle.session_router.specs.declared.event.Event.{Event}
use Rattle.session_router.specs.declared.event.Action.{Action}
use Rattle.session_router.specs.declared.event.Action.TheVariants as actions
use Rattle.session_router.specs.declared.event.Ending.{Ending}
use Rattle.session_router.specs.declared.event.Cause.{Cause}
use Rattle.session_router.specs.declared.event.Cause.TheVariants as causes
use Rattle.session_router.specs.Pace.{Paces, PacesEnd}
use Rattle.session_router.specs.Histories.{Caller, Host, IsHistory, Moment}
use Rattle.session_router.specs.Histories.IsHistory.{run_begins, run_goes_on}

-- what holds of each way to end a connection
pub record Stays (r r' : Router) : Type 0 where
  pub settings : r'.settings ≡ r.settings
  pub asked : r'.asked ≡ r.asked

pub ends_settled : (y : Cause) (x : Ending) (r r' : Router) (n : ℕ) → PacesEnd y r n x r'
    → Stays r r'
ends_settled causes.Lower x r r' n d = record { settings = d.settings; asked = d.asked }
ends_settled causes.Slow x r r' n d = record { settings = d.settings; asked = d.asked }
ends_settled _ x r r' n d = record { settings = d.settings; asked = d.asked }

-- nothing changes what a caller set
pub same_settings :
    (r r' : Router) (n : ℕ) (e : Event) (a : Action) → Paces r n e a r'
    → r'.settings ≡ r.settings
same_settings r r' n e actions.Wait d = d.same.settings
same_settings r r' n e actions.Drop d = d.settings
same_settings r r' n e actions.Connect d = d.settings
same_settings r r' n e (actions.Ask q) d = d.settings
same_settings r r' n e actions.Begin d = d.same.settings
same_settings r r' n e actions.Keep d = d.same.settings
same_settings r r' n e (actions.Apply on) d = d.same.settings
same_settings r r' n e actions.Show d = d.settings
same_settings r r' n e actions.NoData d = d.same.settings
same_settings r r' n e (actions.End x) d = (ends_settled x.cause x r r' n d).settings

pub settled :
    {B D : Type 0} (c : Caller B D) (ms : List (Moment B)) (r : Router) (h : Host B D)
    → IsHistory c ms r h
    → r.settings ≡ c.settings
settled c ms r h (run_begins r₀ new) = new.settings
settled c ms r h (run_goes_on n b e a r' ms₀ r₀ h₀ run said went) =
    same_settings r₀ r' n e a went.paces ∙ settled c ms₀ r₀ h₀ run
