-- The runs of specs/Recovery in terms of the router: what a cache that keeps the rules may send to
-- a router in this state. The laws are proved of these first; proofs/Exchanges says that what was
-- exchanged is what the router has of it.
use Rattle.std.proofs.Common.{◌≡◌, ◌≢◌, ◌⊎◌, ℕ, true, false, ◌<◌, ◌≤◌, max, Option, Some}
use Rattle.std.specs.declared.cmp.Ordering.TheVariants.{Less}
use Rattle.rtr_base.specs.declared.error_code.ErrorCode.{ErrorCode}
use Rattle.rtr_base.specs.Serial.{serial_cmp}
use Rattle.session_router.specs.declared.head.Head.{Head}
use Rattle.session_router.specs.declared.head.Kind.TheVariants as kinds
use Rattle.session_router.specs.declared.router.Router.{Router}
use Rattle.session_router.specs.declared.router.Phase.{Phase}
use Rattle.session_router.specs.declared.router.Phase.TheVariants as phases
use Rattle.session_router.specs.declared.event.Event.{Event}
use Rattle.session_router.specs.declared.event.Event.TheVariants as events
use Rattle.session_router.specs.declared.event.Action.{Action}
use Rattle.session_router.specs.declared.event.Action.TheVariants as actions
use Rattle.session_router.specs.Rules.{IsPayloadOf}
use Rattle.session_router.specs.Heeding.{HasRoom, IsComplaint, IsOfResponse, StandsStill}
use Rattle.session_router.specs.Pace.{wakes_at}
use Rattle.session_router.specs.Step.{IsInTime, IsStep}

-- a close without a word makes a router fall only above the version in which the cache answered
abbrev pub IsAboveFloor : Router → Type 0
IsAboveFloor r = r.floor < r.version

abbrev pub AnyRouter : Router → Type 0
AnyRouter r = Unit {0}

-- What a cache that has data, and no version above `most`, may send where an answer is awaited
-- (sections 5.1, 7 and 8): notifies; in the version of the query, where it has that one, a cache
-- response, or a cache reset to a serial query; to a serial query of a session that it doesn't know
-- also a cache response of its own session, a report, or a close; for a higher version a report of
-- code 4 or of a lower version, an answer in its own, or a close without a word, if that is news to
-- the router (`Silent`).
pub data AnswersWell (Silent : Router → Type 0) (most : ℕ) (r : Router) : Event → Type 0 where
  not_yet : AnswersWell Silent most r events.Tick
  wished : AnswersWell Silent most r events.Asked
  notifies :
      (u : Head) → u.kind ≡ kinds.SerialNotify → (r.agreed ≡ true → u.version ≡ r.version)
      → AnswersWell Silent most r (events.Came u)
  responds :
      (u : Head) → u.kind ≡ kinds.CacheResponse → u.version ≡ r.version
      → (r.changes ≡ true → u.session ≡ r.known.session)
      → AnswersWell Silent most r (events.Came u)
  resets_well :
      (u : Head) → u.kind ≡ kinds.CacheReset → u.version ≡ r.version → r.changes ≡ true
      → AnswersWell Silent most r (events.Came u)
  answers_anew :
      (u : Head) → u.kind ≡ kinds.CacheResponse → u.version ≡ r.version → r.changes ≡ true
      → u.session ≢ r.known.session
      → AnswersWell Silent most r (events.Came u)
  refuses_session :
      (u : Head) → u.kind ≡ kinds.ErrorReport → r.changes ≡ true
      → IsComplaint r u → StandsStill r u
      → AnswersWell Silent most r (events.Came u)
  closes_session : r.changes ≡ true → AnswersWell Silent most r events.Lost
  refuses_version :
      (u : Head) → most < r.version → r.agreed ≡ false
      → u.kind ≡ kinds.ErrorReport → (u.code.0 ≡ 4) ⊎ (u.version < r.version)
      → AnswersWell Silent most r (events.Came u)
  answers_lower :
      (u : Head) → u.version ≡ most → most < r.version → r.agreed ≡ false
      → (u.kind ≡ kinds.CacheResponse) ⊎ ((u.kind ≡ kinds.CacheReset) × (r.changes ≡ true))
      → AnswersWell Silent most r (events.Came u)
  closes_silently :
      most < r.version → r.agreed ≡ false → Silent r
      → AnswersWell Silent most r events.Lost

-- What it may send in a response: notifies of its session, payload units of the version within the
-- limits, and an end of data, whose serial number isn't before that of a serial query, and is that
-- of the query only where nothing changed.
pub data GoesOnWell (r : Router) : Event → Type 0 where
  not_more_yet : GoesOnWell r events.Tick
  wished_inside : GoesOnWell r events.Asked
  notifies_inside :
      (u : Head) → IsOfResponse r u kinds.SerialNotify → GoesOnWell r (events.Came u)
  sends_payload :
      (u : Head) → IsPayloadOf r.version u.kind → u.version ≡ r.version → HasRoom r u.size
      → GoesOnWell r (events.Came u)
  ends_data :
      (u : Head) → IsOfResponse r u kinds.EndOfData
      → (r.changes ≡ true → serial_cmp u.serial r.known.serial ≢ Some Less)
      → (r.changes ≡ true → u.serial ≡ r.known.serial → r.units ≡ 0)
      → GoesOnWell r (events.Came u)

-- The changes are made; they may be refused only where they were to be made of data, which need not
-- be this cache's.
pub data IsMadeWell (r : Router) : Event → Type 0 where
  not_made_yet : IsMadeWell r events.Tick
  wished_meanwhile : IsMadeWell r events.Asked
  are_made : IsMadeWell r events.Applied
  are_refused : (code : Option ErrorCode) → r.changes ≡ true → IsMadeWell r (events.NotApplied code)

-- While the router waits such a cache may send notifies.
pub data LeavesWell (r : Router) : Event → Type 0 where
  not_asked_yet : LeavesWell r events.Tick
  wished_then : LeavesWell r events.Asked
  notifies_then : (u : Head) → u.kind ≡ kinds.SerialNotify → u.version ≡ r.version
      → LeavesWell r (events.Came u)

-- what may happen to a router whose cache keeps the rules and accepts its connections
abbrev pub IsServedBy : (Router → Type 0) → ℕ → Phase → Router → Event → Type 0
IsServedBy Silent most phases.Offline r e = (e ≡ events.Tick) ⊎ (e ≡ events.Asked)
IsServedBy Silent most phases.Connecting r e =
    (e ≡ events.Tick) ⊎ (e ≡ events.Asked) ⊎ (e ≡ events.Connected)
IsServedBy Silent most phases.Asked r e = AnswersWell Silent most r e
IsServedBy Silent most phases.Reading r e = GoesOnWell r e
IsServedBy Silent most phases.Applying r e = IsMadeWell r e
IsServedBy Silent most phases.Waiting r e = LeavesWell r e

-- The router at a time, while such a cache serves it from `start` and `r₀` on, and no data were
-- shown yet. Something happens when the router wakes, at the latest, and each answer comes in time.
pub data IsServed (most : ℕ) (r₀ : Router) (start : ℕ) : Router → ℕ → Type 0 where
  served_from : IsServed most r₀ start r₀ start
  served_on :
      (r : Router) (n : ℕ) (n' : ℕ) (e : Event) (a : Action) (r' : Router)
      → IsServed most r₀ start r n
      → n ≤ n' → n' ≤ max n (wakes_at r) → IsInTime r n'
      → IsServedBy IsAboveFloor most r.phase r e → IsStep r n' e a r' → a ≢ actions.Show
      → IsServed most r₀ start r' n'

-- The router at a time, while a cache that has data and no version above `most` serves it by the
-- rules from `start` and `r₀` on.
pub data IsBeside (most : ℕ) (r₀ : Router) (start : ℕ) : Router → ℕ → Type 0 where
  beside_from : IsBeside most r₀ start r₀ start
  beside_on :
      (r : Router) (n : ℕ) (n' : ℕ) (e : Event) (a : Action) (r' : Router)
      → IsBeside most r₀ start r n
      → n ≤ n' → n' ≤ max n (wakes_at r) → IsInTime r n'
      → IsServedBy AnyRouter most r.phase r e → IsStep r n' e a r'
      → IsBeside most r₀ start r' n'
