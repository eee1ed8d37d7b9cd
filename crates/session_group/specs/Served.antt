-- A group of routers' ends beside a cache that keeps the rules: what its member says is told by
-- messages, and how long the group needs then.
use Rattle.std.specs.Prelude.{◌≡◌, ℕ, true, ◌+◌, ◌*◌, ◌≤◌, ◌==◌, max, if◌then◌else◌}
use Rattle.std.specs.Prelude.{Option, Some, None, List}
use Rattle.session_router.specs.declared.event.Event as router_event
use Rattle.session_router.specs.declared.event.Action.{Action}
use Rattle.session_router.specs.declared.event.Action.TheVariants as actions
use Rattle.session_router.specs.declared.router.Router.{Router}
use Rattle.session_router.specs.declared.settings.Settings as routers
use Rattle.session_router.specs.Histories as histories
use Rattle.session_router.specs.Histories.{MaySay, host_after}
use Rattle.session_router.specs.Step.{IsStep}
use Rattle.session_router.specs.Pace.{wakes_at}
use Rattle.session_router.specs.Exchange.{Exchange, exchange_after, none_yet}
use Rattle.session_router.specs.Recovery.{ClosesAbove, ComesInTime, IsServedBy, connection_time}
use Rattle.session_group.specs.declared.event.Event.{Event}
use Rattle.session_group.specs.declared.event.Event.TheVariants as events
use Rattle.session_group.specs.declared.group.Group.{Group}
use Rattle.session_group.specs.declared.settings.Settings.{Settings}
use Rattle.session_group.specs.Groups.{answer, counts, group_after, group_ticked, group_wakes}
use Rattle.session_group.specs.Groups.{tick_answer}
use Rattle.session_group.specs.Runs.{GroupMoment, Listener, caller_after, caller_ticked}
use Rattle.session_group.specs.Ends.{End, IsFresh, IsGroup, end_after, tells, with_end, with_fresh}
use Rattle.session_group.specs.Recovery.{NoneUpTo}

-- ---- a step

-- what a member's end did at an event, and what the group is told of it
pub record Deed : Type 0 where
  pub member : ℕ
  pub event : router_event.Event
  pub action : Action
  pub told : Option Event

-- an end that is to be started, whose cache has answered in no version yet
pub record IsStarted {Body Data : Type 0} (c : histories.Caller Body Data) (x : End Body Data) :
    Type 0 where
  pub fresh : IsFresh c x
  pub floor : x.router.floor ≡ 0

-- What happens in a group once, as in `IsGroup`: what an end did, if it wasn't time that passed,
-- and the member that is started, if there is one.
pub data GroupStep {Body Data : Type 0} (c : ℕ → histories.Caller Body Data)
    (payloads : Data → ℕ) (n : ℕ) (g : Group) (k : Listener Data) (ends : ℕ → End Body Data) :
    Option Deed → Option ℕ → Group → Listener Data → (ℕ → End Body Data) → Type 0 where
  not_told :
      (m : ℕ) (e : router_event.Event) (b : Body) (a : Action) (r' : Router)
      → (k.members m).runs ≡ true
      → MaySay (ends m).router (ends m).host e → IsStep (ends m).router n e a r'
      → tells 0 a ≡ None
      → GroupStep c payloads n g k ends
      (Some (record { member = m; event = e; action = a; told = None })) None g k
      (with_end ends m (end_after (c m) (ends m) n e b a r'))
  is_told :
      (m : ℕ) (e : router_event.Event) (b : Body) (a : Action) (r' : Router) (told : Event)
      (d : Data) (fresh : End Body Data)
      → (k.members m).runs ≡ true
      → MaySay (ends m).router (ends m).host e → IsStep (ends m).router n e a r'
      → tells (payloads d) a ≡ Some told
      → (a ≡ actions.Show → (host_after (c m) (ends m).host b a).shown ≡ Some d)
      → ((j : ℕ) → (answer g n m told).starts ≡ Some j → IsStarted (c j) fresh)
      → GroupStep c payloads n g k ends
      (Some (record { member = m; event = e; action = a; told = Some told }))
      (answer g n m told).starts
      (group_after g n m told)
      (caller_after k n m told d (answer g n m told))
      (with_fresh
      (with_end ends m (end_after (c m) (ends m) n e b a r')) (answer g n m told).starts fresh)
  time_passes :
      (fresh : End Body Data)
      → ((j : ℕ) → (tick_answer g n).starts ≡ Some j → IsStarted (c j) fresh)
      → GroupStep c payloads n g k ends None (tick_answer g n).starts (group_ticked g n)
      (caller_ticked k n (tick_answer g n))
      (with_fresh ends (tick_answer g n).starts fresh)

-- a group, its caller and its ends that a run comes to
pub record GroupReaches {Body Data : Type 0} (c : ℕ → histories.Caller Body Data) (count : ℕ)
    (s : Settings) (payloads : Data → ℕ) (g : Group) (k : Listener Data)
    (ends : ℕ → End Body Data) : Type 0 where
  pub history : List (GroupMoment Data)
  pub run : IsGroup c count s payloads history g k ends

-- ---- what a member's cache does

-- what was exchanged with the cache of member i, after what an end did
abbrev pub after_deed : (i : ℕ) → routers.Settings → (now : ℕ) → Option Deed → Exchange → Exchange
after_deed i s n None x = x
after_deed i s n (Some d) x =
    if d.member == i then exchange_after s n d.event d.action x else x

-- and nothing yet, where that member is started
abbrev pub after_start : (i : ℕ) → Option ℕ → Exchange → Exchange
after_start i None x = x
after_start i (Some j) x = if j == i then none_yet else x

-- a whole answer of its cache has data that count
abbrev pub EndHasData : Settings → Option Event → Type 0
EndHasData s (Some (events.Shows p)) = counts s p ≡ true
EndHasData s _ = Unit {0}

-- What the end of member i was told is what a cache may send that has data and keeps the rules
-- (`Recovery` of `session_router`).
abbrev pub KeepsRules : (i most : ℕ) → routers.Settings → Settings → Exchange → Option Deed → Type 0
KeepsRules i most r s x None = Unit {0}
KeepsRules i most r s x (Some d) =
    d.member ≡ i
    → IsServedBy most r x d.event × ClosesAbove x d.event × EndHasData s d.told

-- Something happens when the group wakes, at the latest; and while member i runs, when its router
-- wakes, and before what is awaited of its cache is late.
pub record IsSoon {Body Data : Type 0} (i : ℕ) (g : Group) (k : Listener Data)
    (ends : ℕ → End Body Data) (x : Exchange) (n n' : ℕ) : Type 0 where
  pub later : n ≤ n'
  pub group : n' ≤ max n (group_wakes g)
  pub router : (k.members i).runs ≡ true → n' ≤ max n (wakes_at (ends i).router)
  pub in_time : (k.members i).runs ≡ true → ComesInTime x n'

-- ---- runs

-- A group and its ends at a time from `start` on, with what was exchanged with the cache of member
-- i, while neither member i is current nor a better one, although that cache has data, and every
-- version up to `most`, and keeps the rules.
pub data IsServedIn {Body Data : Type 0} (c : ℕ → histories.Caller Body Data)
    (payloads : Data → ℕ) (i most start : ℕ) (g₀ : Group) (k₀ : Listener Data)
    (ends₀ : ℕ → End Body Data) (x₀ : Exchange) :
    Group → Listener Data → (ℕ → End Body Data) → Exchange → (now : ℕ) → Type 0 where
  served_from :
      NoneUpTo i k₀ → IsServedIn c payloads i most start g₀ k₀ ends₀ x₀ g₀ k₀ ends₀ x₀ start
  served_on :
      (n n' : ℕ) (did : Option Deed) (starts : Option ℕ) (g g' : Group) (k k' : Listener Data)
      (ends ends' : ℕ → End Body Data) (x : Exchange)
      → IsServedIn c payloads i most start g₀ k₀ ends₀ x₀ g k ends x n
      → IsSoon i g k ends x n n'
      → GroupStep c payloads n' g k ends did starts g' k' ends'
      → KeepsRules i most (ends i).router.settings k.settings x did
      → NoneUpTo i k'
      → IsServedIn c payloads i most start g₀ k₀ ends₀ x₀ g' k' ends'
      (after_start i starts (after_deed i (ends i).router.settings n' did x)) n'

-- ---- the time

-- A member that is started shows data by then: a connection for each version.
abbrev pub first_time : routers.Settings → ℕ
first_time s = (s.highest + 1) * connection_time s

-- Member i is started after a patience for each member before it.
abbrev pub served_by : {Data : Type 0} → Listener Data → routers.Settings → (i start : ℕ) → ℕ
served_by k s i start = start + i * k.settings.patience + first_time s
