-- What a router may do at most, in any run: the laws about what is shown and sent need no more of a
-- step than that a rule allows it, and that no data are shown that have expired.
use Rattle.std.specs.Prelude.{◌≡◌, ℕ, List, [], ◌∷◌}
use Rattle.session_router.specs.declared.router.Router.{Router}
use Rattle.session_router.specs.declared.event.Event.{Event}
use Rattle.session_router.specs.declared.event.Action.{Action}
use Rattle.session_router.specs.Rules.{Fresh, Rule}
use Rattle.session_router.specs.Histories.{Caller, Host, IsNew, MaySay, Moment, at, empty_host}
use Rattle.session_router.specs.Histories.{host_after}

pub record MayStep (r : Router) (n : ℕ) (e : Event) (a : Action) (r' : Router) : Type 0 where
  pub rule : Rule r n e a r'
  pub fresh : Fresh r' n
  pub settings : r'.settings ≡ r.settings

-- any run of such steps; each run of a router is one
pub data IsAllowed {Body Data : Type 0} (c : Caller Body Data) :
    List (Moment Body) → Router → Host Body Data → Type 0 where
  allowed_begins : (r : Router) → IsNew c.settings r → IsAllowed c [] r empty_host
  allowed_on :
      (n : ℕ) (b : Body) (e : Event) (a : Action) (r' : Router) (ms : List (Moment Body))
      (r : Router) (h : Host Body Data)
      → IsAllowed c ms r h → MaySay r h e → MayStep r n e a r'
      → IsAllowed c (at n e b a ∷ ms) r' (host_after c h b a)
