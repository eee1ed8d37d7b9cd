-- A group whose members are routers' ends: what becomes of a member is what its router does.
use Rattle.std.specs.Prelude.{◌≡◌, ℕ, Bool, true, false, ◌==◌, Option, Some, None, List, []}
use Rattle.std.specs.Prelude.{◌∷◌, if◌then◌else◌}
use Rattle.session_router.specs.declared.router.Router.{Router}
use Rattle.session_router.specs.declared.event.Event as router_event
use Rattle.session_router.specs.declared.event.Action.{Action}
use Rattle.session_router.specs.declared.event.Action.TheVariants as actions
use Rattle.session_router.specs.declared.event.Cause.{Cause}
use Rattle.session_router.specs.declared.event.Cause.TheVariants as causes
use Rattle.session_router.specs.Histories as histories
use Rattle.session_router.specs.Histories.{Host, IsAnswered, MaySay, at, empty_host}
use Rattle.session_router.specs.Histories.{host_after}
use Rattle.session_router.specs.Step.{IsStep}
use Rattle.session_group.specs.declared.event.Event.{Event}
use Rattle.session_group.specs.declared.event.Event.TheVariants as events
use Rattle.session_group.specs.declared.group.Group.{Group}
use Rattle.session_group.specs.declared.settings.Settings.{Settings}
use Rattle.session_group.specs.Groups.{answer, counts, group_after, group_ticked, tick_answer}
use Rattle.session_group.specs.Runs.{Listener, IsBest, IsNewGroup, GroupMoment, caller_after}
use Rattle.session_group.specs.Runs.{caller_ticked, first_caller}
use Rattle.session_group.specs.Runs.Happened.{time_passed, to_member}

-- ---- what a group is told

-- A connection that ends since the cache may have a lower version is no failure: the next one
-- begins at once.
abbrev pub tells_at_end : (drop : Bool) → Cause → Option Event
tells_at_end true cause = Some events.Drops
tells_at_end false causes.Lower = None
tells_at_end false causes.Higher = None
tells_at_end false cause = Some events.Fails

-- What it is told of a member whose router does this: at most one event. The number is that of the
-- payloads of the data that are shown then. A failure that is told after the loss of data which it
-- caused changes nothing (law `failure_counts_once`).
abbrev pub tells : (payloads : ℕ) → Action → Option Event
tells p actions.Show = Some (events.Shows p)
tells p actions.Drop = Some events.Drops
tells p actions.NoData = Some events.Fails
tells p (actions.End x) = tells_at_end x.drop x.cause
tells p action = None

-- the data that count as data
abbrev pub counted : {Data : Type 0} → Settings → (payloads : Data → ℕ) → Option Data → Option Data
counted s payloads None = None
counted s payloads (Some d) = if counts s (payloads d) then Some d else None

-- ---- the ends

-- a router's end since it was started: its history, its router, and what its caller has of it
pub record End (Body Data : Type 0) : Type 0 where
  pub history : List (histories.Moment Body)
  pub router : Router
  pub host : Host Body Data

-- one that is to be started
pub record IsFresh {Body Data : Type 0} (c : histories.Caller Body Data) (x : End Body Data) :
    Type 0 where
  pub history : x.history ≡ []
  pub router : histories.IsNew c.settings x.router
  pub host : x.host ≡ empty_host

-- the end of a member after a step
abbrev pub end_after : {Body Data : Type 0} → histories.Caller Body Data → End Body Data
    → (now : ℕ) → router_event.Event → Body → Action → Router → End Body Data
end_after c x n e b a r' = record {
  history = at n e b a ∷ x.history;
  router = r';
  host = host_after c x.host b a;
}

abbrev pub with_end : {Body Data : Type 0} → (ℕ → End Body Data) → ℕ → End Body Data
    → ℕ → End Body Data
with_end ends m x i = if i == m then x else ends i

-- the member that is started, if there is one, begins afresh
abbrev pub with_fresh : {Body Data : Type 0} → (ℕ → End Body Data) → Option ℕ → End Body Data
    → ℕ → End Body Data
with_fresh ends None x i = ends i
with_fresh ends (Some k) x i = if i == k then x else ends i

-- ---- runs

-- Any run of a group of this many routers' ends, whatever comes to each, and whenever: with the
-- history of the group, its caller, and the ends.
pub data IsGroup {Body Data : Type 0} (c : ℕ → histories.Caller Body Data) (count : ℕ)
    (s : Settings) (payloads : Data → ℕ) :
    List (GroupMoment Data) → Group → Listener Data → (ℕ → End Body Data) → Type 0 where
  group_begins :
      (n : ℕ) (g : Group) (ends : ℕ → End Body Data)
      → IsNewGroup count s n g → ((i : ℕ) → IsFresh (c i) (ends i))
      → IsGroup c count s payloads [] g (first_caller count s n) ends
  -- a router's step that the group isn't told of
  goes_on_silently :
      (m n : ℕ) (e : router_event.Event) (b : Body) (a : Action) (r' : Router)
      (ms : List (GroupMoment Data)) (g : Group) (k : Listener Data) (ends : ℕ → End Body Data)
      → IsGroup c count s payloads ms g k ends
      → (k.members m).runs ≡ true
      → MaySay (ends m).router (ends m).host e → IsStep (ends m).router n e a r'
      → tells 0 a ≡ None
      → IsGroup c count s payloads ms g k (with_end ends m (end_after (c m) (ends m) n e b a r'))
  -- one that it is told of: the data that come with it are those that the router's caller shows
  goes_on :
      (m n : ℕ) (e : router_event.Event) (b : Body) (a : Action) (r' : Router) (told : Event)
      (d : Data) (fresh : End Body Data)
      (ms : List (GroupMoment Data)) (g : Group) (k : Listener Data) (ends : ℕ → End Body Data)
      → IsGroup c count s payloads ms g k ends
      → (k.members m).runs ≡ true
      → MaySay (ends m).router (ends m).host e → IsStep (ends m).router n e a r'
      → tells (payloads d) a ≡ Some told
      → (a ≡ actions.Show → (host_after (c m) (ends m).host b a).shown ≡ Some d)
      → ((i : ℕ) → (answer g n m told).starts ≡ Some i → IsFresh (c i) fresh)
      → IsGroup c count s payloads
      (record { now = n; happened = to_member m told d; answer = answer g n m told } ∷ ms)
      (group_after g n m told)
      (caller_after k n m told d (answer g n m told))
      (with_fresh
      (with_end ends m (end_after (c m) (ends m) n e b a r')) (answer g n m told).starts fresh)
  -- the patience may be over
  waits :
      (n : ℕ) (fresh : End Body Data)
      (ms : List (GroupMoment Data)) (g : Group) (k : Listener Data) (ends : ℕ → End Body Data)
      → IsGroup c count s payloads ms g k ends
      → ((i : ℕ) → (tick_answer g n).starts ≡ Some i → IsFresh (c i) fresh)
      → IsGroup c count s payloads
      (record { now = n; happened = time_passed; answer = tick_answer g n } ∷ ms)
      (group_ticked g n)
      (caller_ticked k n (tick_answer g n))
      (with_fresh ends (tick_answer g n).starts fresh)

-- A member that runs has the data that its router's end shows, if they count.
abbrev pub HaveShown : {Body Data : Type 0} → Settings → (Data → ℕ) → Listener Data
    → (ℕ → End Body Data) → Type 0
HaveShown s payloads k ends =
    (i : ℕ) → (k.members i).runs ≡ true
    → (k.members i).has ≡ counted s payloads (ends i).host.shown

-- What is shown is nothing if no end that runs shows data that count; else the data that one end
-- shows, the best (`IsBest`), and one whole answer of its cache made them, of no data or of that
-- end's data before it. They haven't expired.
pub data ShowsWhole {Body Data : Type 0} (c : ℕ → histories.Caller Body Data) (s : Settings)
    (payloads : Data → ℕ) (k : Listener Data) (ends : ℕ → End Body Data) : Type 0 where
  none_shows :
      k.shown ≡ None → HaveShown s payloads k ends
      → ((i : ℕ) → (k.members i).has ≡ None)
      → ShowsWhole c s payloads k ends
  of_one :
      (m : ℕ) (d : Data) → (k.members m).runs ≡ true → HaveShown s payloads k ends
      → k.shown ≡ Some d → IsBest k m d
      → (ends m).host.shown ≡ Some d
      → IsAnswered (c m) (ends m).history (ends m).router.known (Some d)
      → ShowsWhole c s payloads k ends
