-- A cache that keeps the rules of RFC 8210, and how long a router needs until it has its data.
use Rattle.std.specs.Prelude.{◌≡◌, ◌≢◌, ◌⊎◌, ℕ, true, false, ◌+◌, ◌*◌, ◌<◌, ◌≤◌, max}
use Rattle.std.specs.Prelude.{Option, Some, if◌then◌else◌}
use Rattle.std.specs.declared.cmp.Ordering.TheVariants.{Less}
use Rattle.rtr_base.specs.declared.error_code.ErrorCode.{ErrorCode}
use Rattle.rtr_base.specs.Serial.{serial_cmp}
use Rattle.session_router.specs.declared.head.Head.{Head}
use Rattle.session_router.specs.declared.head.Kind.{Kind}
use Rattle.session_router.specs.declared.head.Kind.TheVariants as kinds
use Rattle.session_router.specs.declared.settings.Settings.{Settings}
use Rattle.session_router.specs.declared.router.Router.{Router}
use Rattle.session_router.specs.declared.router.Phase.{Phase}
use Rattle.session_router.specs.declared.router.Phase.TheVariants as phases
use Rattle.session_router.specs.declared.event.Event.{Event}
use Rattle.session_router.specs.declared.event.Event.TheVariants as events
use Rattle.session_router.specs.declared.event.Action.{Action}
use Rattle.session_router.specs.declared.event.Action.TheVariants as actions
use Rattle.session_router.specs.Rules.{IsPayloadOf, opening_version}
use Rattle.session_router.specs.Exchange.{Exchange, exchange_after}
use Rattle.session_router.specs.Pace.{IsLimited, due_in, wakes_at}
use Rattle.session_router.specs.Step.{IsStep}

-- ---- the cache

-- What a cache that has data, and every version up to `most`, may send where a query awaits its
-- answer (sections 5.1, 7 and 8): notifies; in the version of the query a cache response, or a
-- cache reset to a serial query; to a serial query, of whose session it may know nothing, also a
-- report that doesn't say that it has no data or not the version, or a close; and to a query of a
-- higher version a report of code 4 or of a lower version, an answer in its own, or a close.
pub data AnswersWell (most : ℕ) (x : Exchange) : Event → Type 0 where
  notifies :
      (u : Head) → u.kind ≡ kinds.SerialNotify → (x.answered ≡ true → u.version ≡ x.version)
      → AnswersWell most x (events.Came u)
  responds :
      (u : Head) → u.kind ≡ kinds.CacheResponse → u.version ≡ x.version
      → AnswersWell most x (events.Came u)
  resets_well :
      (u : Head) → u.kind ≡ kinds.CacheReset → u.version ≡ x.version → x.query.changes ≡ true
      → AnswersWell most x (events.Came u)
  refuses_session :
      (u : Head) → u.kind ≡ kinds.ErrorReport → x.query.changes ≡ true
      → (u.code.0 ≢ 2) ⊎ (u.version ≢ x.version)
      → (x.answered ≡ true) ⊎ (x.version ≡ 0) ⊎ ((u.code.0 ≢ 4) × (x.version ≤ u.version))
      → AnswersWell most x (events.Came u)
  refuses_version :
      (u : Head) → u.kind ≡ kinds.ErrorReport → most < x.version → x.answered ≡ false
      → (u.code.0 ≡ 4) ⊎ (u.version < x.version)
      → AnswersWell most x (events.Came u)
  answers_lower :
      (u : Head) → u.version ≡ most → most < x.version → x.answered ≡ false
      → (u.kind ≡ kinds.CacheResponse) ⊎ ((u.kind ≡ kinds.CacheReset) × (x.query.changes ≡ true))
      → AnswersWell most x (events.Came u)
  closes :
      (x.query.changes ≡ true) ⊎ ((most < x.version) × (x.answered ≡ false))
      → AnswersWell most x events.Lost

-- a unit of this kind, of the version and the session of the answer
pub record IsOfAnswer (x : Exchange) (u : Head) (wanted : Kind) : Type 0 where
  pub kind : u.kind ≡ wanted
  pub version : u.version ≡ x.version
  pub session : u.session ≡ x.session

-- What it may send in an answer: notifies of its session, payload units of the version within the
-- limits, and an end of data, whose serial number isn't before that of a serial query, and is that
-- of the query only where nothing changed.
pub data GoesOnWell (s : Settings) (x : Exchange) : Event → Type 0 where
  notifies_inside : (u : Head) → IsOfAnswer x u kinds.SerialNotify → GoesOnWell s x (events.Came u)
  sends_payload :
      (u : Head) → IsPayloadOf x.version u.kind → u.version ≡ x.version
      → x.units + 1 ≤ s.most_units → x.bytes + u.size ≤ s.most_bytes
      → GoesOnWell s x (events.Came u)
  ends_data :
      (u : Head) → IsOfAnswer x u kinds.EndOfData
      → (x.query.changes ≡ true → serial_cmp u.serial x.query.serial ≢ Some Less)
      → (x.query.changes ≡ true → u.serial ≡ x.query.serial → x.units ≡ 0)
      → GoesOnWell s x (events.Came u)

-- The changes are made; they may be refused only where they were to be made of data, which need not
-- be this cache's.
pub data IsMadeWell (x : Exchange) : Event → Type 0 where
  are_made : IsMadeWell x events.Applied
  are_refused :
      (code : Option ErrorCode) → x.query.changes ≡ true → IsMadeWell x (events.NotApplied code)

-- while nothing is asked such a cache may send notifies
pub data LeavesWell (x : Exchange) : Event → Type 0 where
  notifies_then :
      (u : Head) → u.kind ≡ kinds.SerialNotify → u.version ≡ x.version
      → LeavesWell x (events.Came u)

-- what such a cache may do, which accepts connections
abbrev pub DoesWell : (most : ℕ) → Settings → Exchange → Phase → Event → Type 0
DoesWell most s x phases.Offline e = ⊥
DoesWell most s x phases.Connecting e = e ≡ events.Connected
DoesWell most s x phases.Asked e = AnswersWell most x e
DoesWell most s x phases.Reading e = GoesOnWell s x e
DoesWell most s x phases.Applying e = IsMadeWell x e
DoesWell most s x phases.Waiting e = LeavesWell x e

-- time passes, or its caller wants data, or the cache does something
abbrev pub IsServedBy : (most : ℕ) → Settings → Exchange → Event → Type 0
IsServedBy most s x e = (e ≡ events.Tick) ⊎ (e ≡ events.Asked) ⊎ DoesWell most s x x.phase e

-- what is awaited comes in time
abbrev pub ComesInTime : Exchange → (now : ℕ) → Type 0
ComesInTime x n = IsLimited x.phase ⊎ (x.phase ≡ phases.Applying) → n < x.until

-- The router at a time, and what was exchanged by then, while such a cache serves it from `start`,
-- `r₀` and `x₀` on, and each step is one of these. Something happens when the router wakes, at the
-- latest, and what is awaited comes in time.
pub data IsBeside (Only : Exchange → Event → Action → Type 0) (most : ℕ) (r₀ : Router)
    (x₀ : Exchange) (start : ℕ) : Router → Exchange → ℕ → Type 0 where
  beside_from : IsBeside Only most r₀ x₀ start r₀ x₀ start
  beside_on :
      (r : Router) (x : Exchange) (n : ℕ) (n' : ℕ) (e : Event) (a : Action) (r' : Router)
      → IsBeside Only most r₀ x₀ start r x n
      → n ≤ n' → n' ≤ max n (wakes_at r) → ComesInTime x n'
      → IsServedBy most r.settings x e → IsStep r n' e a r' → Only x e a
      → IsBeside Only most r₀ x₀ start r' (exchange_after r.settings n' e a x) n'

abbrev pub AnyStep : Exchange → Event → Action → Type 0
AnyStep x e a = Unit {0}

-- a close at a query for all data comes only above the versions in which the cache answered
abbrev pub ClosesAbove : Exchange → Event → Type 0
ClosesAbove x events.Lost = (x.query.changes ≡ true) ⊎ (x.spoken < x.version)
ClosesAbove x _ = Unit {0}

-- no data are shown
abbrev pub Unshown : Exchange → Event → Action → Type 0
Unshown x e a = (a ≢ actions.Show) × ClosesAbove x e

-- ---- the time

-- A connection is made, a query is answered by a cache reset, another one by data; or it ends, and
-- a pause passes.
abbrev pub connection_time : Settings → ℕ
connection_time s = s.connect_limit + s.response_limit + s.response_limit + s.pause

-- how often a router that has data may have to begin anew: where a serial query, or the changes
-- that answer it, are refused, and where the data are dropped
abbrev pub restarts : Router → ℕ
restarts r = if r.has_data then (if r.resync then 1 else 2) else 0

-- A connection for each version from that in which it begins to 0, and again for each time that it
-- begins anew.
abbrev pub connections : Router → ℕ
connections r = opening_version r + 1 + restarts r * (r.settings.highest + 1)

-- the connections that come after the one that is there, or being made
abbrev pub connections_after : Router → ℕ
connections_after r = r.version + restarts r * (r.settings.highest + 1)

-- and those that come after one on which the router waits: it may try the highest version again
abbrev pub connections_waiting : Router → ℕ
connections_waiting r =
    connections_after r + (if r.silent then r.settings.highest + 1 else 0)

-- How long it takes from when the router connects or asks by itself, or what is under way is over
-- by its limit: two answers where it is still to ask, one more where a serial query is out, a pause
-- where the connection ends, and the connections that come then.
abbrev pub time_needed : Phase → Router → ℕ
time_needed phases.Offline r = connections r * connection_time r.settings
time_needed phases.Connecting r =
    r.settings.response_limit + r.settings.response_limit + r.settings.pause
    + connections_after r * connection_time r.settings
time_needed phases.Asked r =
    (if r.changes then r.settings.response_limit else 0) + r.settings.pause
    + connections_after r * connection_time r.settings
time_needed phases.Reading r =
    r.settings.pause + connections_after r * connection_time r.settings
time_needed phases.Applying r =
    r.settings.pause + connections_after r * connection_time r.settings
time_needed phases.Waiting r =
    r.settings.response_limit + r.settings.response_limit + r.settings.pause
    + connections_waiting r * connection_time r.settings

-- when it has data at the latest
abbrev pub served_until : Router → ℕ → ℕ
served_until r n = max n (due_in r.phase r) + time_needed r.phase r

-- and where the cache may be one of a lower version than that of the data, which closes without a
-- word: once the data have expired, after a pause and a connection for each version
abbrev pub expired_until : Router → ℕ → ℕ
expired_until r n =
    max n r.expires + r.settings.pause
    + (max r.version r.settings.highest + 1) * connection_time r.settings

-- From here the run goes on to a step at which data are shown, by this time.
pub record IsShownBy (most : ℕ) (r : Router) (x : Exchange) (now limit : ℕ) : Type 0 where
  pub last : Router
  pub exchange : Exchange
  pub shown_at : ℕ
  pub after : Router
  pub run : IsBeside Unshown most r x now last exchange shown_at
  pub in_time : ComesInTime exchange shown_at
  pub made : IsServedBy most last.settings exchange events.Applied
  pub shows : IsStep last shown_at events.Applied actions.Show after
  pub by : shown_at ≤ limit

-- ---- in numbers

-- the usual limits, and versions 0 and 1
pub record HasUsualLimits (r : Router) : Type 0 where
  pub pause : r.settings.pause ≡ 1000
  pub connect_limit : r.settings.connect_limit ≡ 30000
  pub response_limit : r.settings.response_limit ≡ 120000
  pub highest : r.settings.highest ≡ 1
