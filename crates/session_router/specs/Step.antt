-- A step of a router: what it may do, what it has to do, and when.
use Rattle.std.specs.Prelude.{◌≡◌, ◌≢◌, ℕ, true, ◌+◌, ◌<◌, ◌≤◌}
use Rattle.session_router.specs.declared.router.Router.{Router}
use Rattle.session_router.specs.declared.router.Phase.TheVariants as phases
use Rattle.session_router.specs.declared.event.Event.{Event}
use Rattle.session_router.specs.declared.event.Event.TheVariants as events
use Rattle.session_router.specs.declared.event.Action.{Action}
use Rattle.session_router.specs.declared.event.Action.TheVariants as actions
use Rattle.session_router.specs.declared.event.Cause.TheVariants as causes
use Rattle.session_router.specs.Rules.{Fresh, Rule}
use Rattle.session_router.specs.Heeding.{Heeds, HeedsExpiry, IsIdle, ends_for}
use Rattle.session_router.specs.Pace.{IsLimited, Paces, wakes_at}
use Rattle.session_router.specs.After.{router_after}
use Rattle.session_router.specs.Times.{expire_ms}

-- until when the changes of an answer have to be made: what they make has expired then
abbrev pub made_until : Router → ℕ
made_until r = r.came + expire_ms r.settings r.answer

-- the time for what is under way isn't over
abbrev pub IsInTime : Router → ℕ → Type 0
IsInTime r n =
    (IsLimited r.phase → n < r.due) × (r.phase ≡ phases.Applying → n < made_until r)

pub record IsStep (r : Router) (n : ℕ) (e : Event) (a : Action) (r' : Router) : Type 0 where
  -- what it may do
  pub rule : Rule r n e a r'
  -- data are shown until they expire
  pub fresh : Fresh r' n
  -- when it acts next
  pub paces : Paces r n e a r'
  -- what it is then
  pub becomes : r' ≡ router_after r n e a
  -- what it has to do
  pub heeds : Fresh r n → IsInTime r n → Heeds r n e a r'
  -- what may be passed over, is
  pub idles : Fresh r n → IsInTime r n → IsIdle e r → a ≡ actions.Wait
  -- an event that comes too late is passed over: the data have expired, a limit of time is over, or
  -- what the changes make has expired
  pub expires : r.has_data ≡ true → r.expires ≤ n → HeedsExpiry r a
  pub late : Fresh r n → IsLimited r.phase → r.due ≤ n → a ≡ ends_for causes.Slow
  pub stale : Fresh r n → r.phase ≡ phases.Applying → made_until r ≤ n → a ≡ ends_for causes.Expired
  -- it acts when it said so, but while its caller owes it what the changes made
  pub acts : e ≡ events.Tick → wakes_at r ≤ n → r.phase ≢ phases.Applying → a ≢ actions.Wait
