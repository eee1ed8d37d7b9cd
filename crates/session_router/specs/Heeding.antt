-- What a router has to do at what it is told in time, while its data haven't expired (RFC 8210
-- sections 5 to 8, 12).
use Rattle.std.specs.Prelude.{◌≡◌, ◌≢◌, ◌⊎◌, ℕ, Bool, true, false, ◌+◌, ◌-◌, ◌<◌, ◌≤◌, Option, Some}
use Rattle.std.specs.Prelude.{None, min}
use Rattle.std.specs.declared.cmp.Ordering.TheVariants.{Less}
use Rattle.rtr_base.specs.declared.error_code.ErrorCode.{ErrorCode}
use Rattle.rtr_base.specs.Serial.{serial_cmp}
use Rattle.session_router.specs.declared.head.Head.{Head}
use Rattle.session_router.specs.declared.head.Fault.{Fault}
use Rattle.session_router.specs.declared.head.Kind.{Kind}
use Rattle.session_router.specs.declared.head.Kind.TheVariants as kinds
use Rattle.session_router.specs.declared.router.Router.{Router}
use Rattle.session_router.specs.declared.router.Phase.TheVariants as phases
use Rattle.session_router.specs.declared.event.Event.{Event}
use Rattle.session_router.specs.declared.event.Event.TheVariants as events
use Rattle.session_router.specs.declared.event.Action.{Action}
use Rattle.session_router.specs.declared.event.Action.TheVariants as actions
use Rattle.session_router.specs.declared.event.Cause.{Cause}
use Rattle.session_router.specs.declared.event.Cause.TheVariants as causes
use Rattle.session_router.specs.Rules.{IsPayloadOf, MayAnswer, query}

-- ---- how a connection ends

abbrev pub ends_with : Bool → Option ErrorCode → Cause → Action
ends_with drop report cause = actions.End (record { drop = drop; report = report; cause = cause })

-- with a report of this code (section 12)
abbrev pub breaks : ℕ → Cause → Action
breaks code cause = ends_with false (Some (record { 0 = code })) cause

-- without a report, since a report is never answered, the cache did nothing wrong, or it can't hear
abbrev pub ends_for : Cause → Action
ends_for cause = ends_with false None cause

-- another session: all data of this cache go (section 5.1)
abbrev pub flushes : Router → Action
flushes r = ends_with r.has_data (Some (record { 0 = 0 })) causes.OtherSession

-- a query for all data
abbrev pub asks_for_all : Router → Action
asks_for_all r =
    actions.Ask (record { changes = false; version = r.version; session = 0; serial = 0 })

-- ---- while the first unit of an answer is awaited

-- no unit that answers a query, or a cache reset that answers a reset query
abbrev pub IsNoAnswer : Router → Kind → Type 0
IsNoAnswer r kinds.SerialNotify = ⊥
IsNoAnswer r kinds.CacheResponse = ⊥
IsNoAnswer r kinds.CacheReset = r.changes ≡ false
IsNoAnswer r kinds.ErrorReport = ⊥
IsNoAnswer r _ = Unit {0}

-- a report that doesn't say that the cache has no data
abbrev pub IsComplaint : Router → Head → Type 0
IsComplaint r u = (u.code.0 ≢ 2) ⊎ (u.version ≢ r.version)

-- nor that it may have a lower version, before one was agreed on (section 7)
pub data StandsStill (r : Router) (u : Head) : Type 0 where
  agreed_on : r.agreed ≡ true → StandsStill r u
  lowest : r.version ≡ 0 → StandsStill r u
  other_code : u.code.0 ≢ 4 → r.version ≤ u.version → StandsStill r u

pub record HeedsAsked (r : Router) (u : Head) (a : Action) : Type 0 where
  -- a cache response, to a serial query of the session of the data (section 5.5)
  pub begins :
      u.kind ≡ kinds.CacheResponse → MayAnswer r u
      → (r.changes ≡ true → u.session ≡ r.known.session)
      → a ≡ actions.Begin
  -- of another session (section 5.1)
  pub other_session :
      u.kind ≡ kinds.CacheResponse → u.version ≡ r.version → r.changes ≡ true
      → u.session ≢ r.known.session
      → a ≡ flushes r
  -- a cache reset, at a serial query: all data are asked for (section 8.3)
  pub resets :
      u.kind ≡ kinds.CacheReset → u.version ≡ r.version → r.changes ≡ true
      → a ≡ asks_for_all r
  -- an answer to a serial query in a lower version (section 7)
  pub falls_to :
      (u.kind ≡ kinds.CacheResponse) ⊎ (u.kind ≡ kinds.CacheReset) → u.version < r.version
      → r.changes ≡ true → r.agreed ≡ false
      → a ≡ ends_for causes.Lower
  -- no data available (section 8.4)
  pub has_none :
      u.kind ≡ kinds.ErrorReport → u.version ≡ r.version → u.code.0 ≡ 2
      → a ≡ actions.NoData
  -- a report of code 4, or in a lower version (section 7)
  pub falls :
      u.kind ≡ kinds.ErrorReport → (u.code.0 ≡ 4) ⊎ (u.version < r.version)
      → r.agreed ≡ false → 1 ≤ r.version
      → a ≡ ends_for causes.Lower
  -- another report
  pub reported :
      u.kind ≡ kinds.ErrorReport → IsComplaint r u → StandsStill r u
      → a ≡ ends_for causes.Reported
  -- a notify, whatever it says before a version is agreed on (section 7)
  pub ignores : u.kind ≡ kinds.SerialNotify → r.agreed ≡ false → a ≡ actions.Wait
  -- one of the version: `Notes` says what is kept of it (section 5.2)
  pub notes : u.kind ≡ kinds.SerialNotify → u.version ≡ r.version → a ≡ actions.Wait
  -- a unit of another version than that which was agreed on (section 7)
  pub other_version :
      u.kind ≢ kinds.ErrorReport → u.version ≢ r.version → r.agreed ≡ true
      → a ≡ breaks 8 causes.OtherVersion
  -- one of a higher version than the query (section 7)
  pub higher_version :
      u.kind ≢ kinds.ErrorReport → u.kind ≢ kinds.SerialNotify → r.version < u.version
      → r.agreed ≡ false
      → a ≡ breaks 4 causes.HigherVersion
  -- no answer
  pub out_of_place :
      IsNoAnswer r u.kind → u.version ≤ r.version → (r.agreed ≡ true → u.version ≡ r.version)
      → a ≡ breaks 5 causes.OutOfPlace

-- ---- in a response

-- one more unit, of this size, is within the limits of an answer
pub record HasRoom (r : Router) (size : ℕ) : Type 0 where
  pub units : r.units + 1 ≤ r.settings.most_units
  pub bytes : r.bytes + size ≤ r.settings.most_bytes

abbrev pub IsBeyondLimits : Router → ℕ → Type 0
IsBeyondLimits r size =
    (r.settings.most_units < r.units + 1) ⊎ (r.settings.most_bytes < r.bytes + size)

-- payloads that a version lacks
abbrev pub IsPayloadAbove : ℕ → Kind → Type 0
IsPayloadAbove v kinds.RouterKey = v < 1
IsPayloadAbove v kinds.Aspa = v < 2
IsPayloadAbove v _ = ⊥

-- no unit of a response
abbrev pub IsNoPart : Kind → Type 0
IsNoPart kinds.SerialQuery = Unit {0}
IsNoPart kinds.ResetQuery = Unit {0}
IsNoPart kinds.CacheResponse = Unit {0}
IsNoPart kinds.CacheReset = Unit {0}
IsNoPart _ = ⊥

-- a unit of this kind, of the version and the session of the response
pub record IsOfResponse (r : Router) (u : Head) (wanted : Kind) : Type 0 where
  pub kind : u.kind ≡ wanted
  pub version : u.version ≡ r.version
  pub session : u.session ≡ r.session

pub record HeedsReading (r : Router) (u : Head) (a : Action) : Type 0 where
  -- a payload unit of the version (sections 5.6, 5.7, 5.10)
  pub keeps :
      IsPayloadOf r.version u.kind → u.version ≡ r.version → HasRoom r u.size
      → a ≡ actions.Keep
  -- one too many
  pub too_long :
      IsPayloadOf r.version u.kind → u.version ≡ r.version → IsBeyondLimits r u.size
      → a ≡ ends_for causes.TooLong
  -- one that the version lacks
  pub no_such_payload :
      IsPayloadAbove r.version u.kind → u.version ≡ r.version
      → a ≡ breaks 5 causes.NoSuchPayload
  -- an end of data (section 5.8)
  pub applies :
      IsOfResponse r u kinds.EndOfData
      → (r.changes ≡ true → serial_cmp u.serial r.known.serial ≢ Some Less)
      → (r.changes ≡ true → u.serial ≡ r.known.serial → r.units ≡ 0)
      → a ≡ actions.Apply r.changes
  -- whose serial number comes before that of the query (RFC 1982)
  pub old_serial :
      IsOfResponse r u kinds.EndOfData → r.changes ≡ true
      → serial_cmp u.serial r.known.serial ≡ Some Less
      → a ≡ breaks 0 causes.OldSerial
  -- or is that of the query, after changes
  pub other_data :
      IsOfResponse r u kinds.EndOfData → r.changes ≡ true → u.serial ≡ r.known.serial → 1 ≤ r.units
      → a ≡ breaks 0 causes.OtherData
  -- a notify (section 5.2)
  pub notes : IsOfResponse r u kinds.SerialNotify → a ≡ actions.Wait
  -- another session (section 5.1)
  pub other_session :
      (u.kind ≡ kinds.EndOfData) ⊎ (u.kind ≡ kinds.SerialNotify) → u.version ≡ r.version
      → u.session ≢ r.session
      → a ≡ flushes r
  -- no data available after all (section 8.4)
  pub has_none :
      u.kind ≡ kinds.ErrorReport → u.version ≡ r.version → u.code.0 ≡ 2
      → a ≡ actions.NoData
  -- another report
  pub reported : u.kind ≡ kinds.ErrorReport → IsComplaint r u → a ≡ ends_for causes.Reported
  -- another version (section 7)
  pub other_version :
      u.kind ≢ kinds.ErrorReport → u.version ≢ r.version
      → a ≡ breaks 8 causes.OtherVersion
  -- no unit of a response
  pub out_of_place : IsNoPart u.kind → u.version ≡ r.version → a ≡ breaks 5 causes.OutOfPlace

-- ---- while nothing is asked

-- a notify of the version, and of the session of the data if there are any
pub record IsNews (r : Router) (u : Head) : Type 0 where
  pub kind : u.kind ≡ kinds.SerialNotify
  pub version : u.version ≡ r.version
  pub session : r.has_data ≡ true → u.session ≡ r.known.session

pub record HeedsWaiting (r : Router) (n : ℕ) (u : Head) (a : Action) (r' : Router) : Type 0 where
  -- a notify of a serial number that the router hasn't makes it ask (section 8.2)
  pub notified : IsNews r u → a ≡ actions.Wait
  pub asks :
      IsNews r u → (r.has_data ≡ false) ⊎ (u.serial ≢ r.known.serial)
      → r'.due ≡ min r.due n
  pub knows : IsNews r u → r.has_data ≡ true → u.serial ≡ r.known.serial → r'.due ≡ r.due
  -- another session (section 5.1)
  pub other_session :
      u.kind ≡ kinds.SerialNotify → u.version ≡ r.version → r.has_data ≡ true
      → u.session ≢ r.known.session
      → a ≡ flushes r
  -- a report
  pub reported : u.kind ≡ kinds.ErrorReport → a ≡ ends_for causes.Reported
  -- another version (section 7)
  pub other_version :
      u.kind ≢ kinds.ErrorReport → u.version ≢ r.version
      → a ≡ breaks 8 causes.OtherVersion
  -- any other unit
  pub out_of_place :
      u.kind ≢ kinds.ErrorReport → u.kind ≢ kinds.SerialNotify → u.version ≡ r.version
      → a ≡ breaks 5 causes.OutOfPlace

pub record HeedsUnit (r : Router) (n : ℕ) (u : Head) (a : Action) (r' : Router) : Type 0 where
  pub asked : r.phase ≡ phases.Asked → HeedsAsked r u a
  pub reading : r.phase ≡ phases.Reading → HeedsReading r u a
  pub waiting : r.phase ≡ phases.Waiting → HeedsWaiting r n u a r'
  -- a caller that owes what the changes made
  pub applying : r.phase ≡ phases.Applying → a ≡ ends_for causes.NotApplied

-- ---- units that are refused, and connections that are lost

-- a version is being agreed on (section 7)
abbrev pub IsNegotiating : Router → Type 0
IsNegotiating r = (r.phase ≡ phases.Asked) × (r.agreed ≡ false)

abbrev pub IsTalking : Router → Type 0
IsTalking r = (r.phase ≢ phases.Offline) × (r.phase ≢ phases.Connecting)

-- Its version comes first where one is agreed on (section 7), then what is owed about it; nothing
-- is about an error report (section 5.11).
pub record HeedsFault (r : Router) (f : Fault) (a : Action) : Type 0 where
  pub unowed : IsTalking r → f.code ≡ None → a ≡ ends_for causes.Faulty
  pub other_version :
      IsTalking r → (r.phase ≢ phases.Asked) ⊎ (r.agreed ≡ true) → f.version ≢ r.version
      → (code : ErrorCode) → f.code ≡ Some code
      → a ≡ breaks 8 causes.OtherVersion
  pub higher_version :
      IsNegotiating r → r.version < f.version
      → (code : ErrorCode) → f.code ≡ Some code
      → a ≡ breaks 4 causes.HigherVersion
  pub owed : IsTalking r → f.version ≡ r.version → a ≡ ends_with false f.code causes.Faulty
  pub lower : IsNegotiating r → f.version ≤ r.version → a ≡ ends_with false f.code causes.Faulty

pub record HeedsLoss (r : Router) (a : Action) : Type 0 where
  -- before a version was agreed on, above the one in which the cache answered before (section 7)
  pub falls : IsNegotiating r → r.floor < r.version → a ≡ ends_for causes.Lower
  pub answered : IsNegotiating r → r.version ≤ r.floor → a ≡ ends_for causes.Lost
  pub ends :
      r.phase ≢ phases.Offline → (r.phase ≢ phases.Asked) ⊎ (r.agreed ≡ true)
      → a ≡ ends_for causes.Lost

-- ---- time

pub record HeedsTick (r : Router) (n : ℕ) (a : Action) (r' : Router) : Type 0 where
  pub connects : r.phase ≡ phases.Offline → r.due ≤ n → a ≡ actions.Connect
  pub rests : r.phase ≡ phases.Offline → n < r.due → a ≡ actions.Wait
  -- a query comes a pause after the one before it
  pub asks :
      r.phase ≡ phases.Waiting → r.due ≤ n → r.settings.pause ≤ n - r.asked
      → (r.silent ≡ true → n < r.rises)
      → a ≡ actions.Ask (query r')
  -- or the highest version is tried again, where the router fell from it in silence
  pub rises :
      r.phase ≡ phases.Waiting → r.due ≤ n → r.settings.pause ≤ n - r.asked
      → r.silent ≡ true → r.rises ≤ n
      → a ≡ ends_for causes.Higher
  pub pauses : r.phase ≡ phases.Waiting → n - r.asked < r.settings.pause → a ≡ actions.Wait
  pub waits : r.phase ≡ phases.Waiting → n < r.due → a ≡ actions.Wait

-- the data have expired (section 6)
pub record HeedsExpiry (r : Router) (a : Action) : Type 0 where
  pub offline : r.phase ≡ phases.Offline → a ≡ actions.Drop
  pub online : r.phase ≢ phases.Offline → a ≡ ends_with true None causes.Expired

-- ---- all events

-- what says nothing to a router that is where it is
abbrev pub IsIdle : Event → Router → Type 0
IsIdle events.Tick r = (r.phase ≢ phases.Offline) × (r.phase ≢ phases.Waiting)
IsIdle events.Asked r = Unit {0}
IsIdle events.Connected r = r.phase ≢ phases.Connecting
IsIdle events.Lost r = r.phase ≡ phases.Offline
IsIdle (events.Came u) r = (r.phase ≡ phases.Offline) ⊎ (r.phase ≡ phases.Connecting)
IsIdle (events.Faulty f) r = (r.phase ≡ phases.Offline) ⊎ (r.phase ≡ phases.Connecting)
IsIdle events.Applied r = r.phase ≢ phases.Applying
IsIdle (events.NotApplied code) r = (r.phase ≢ phases.Reading) × (r.phase ≢ phases.Applying)

abbrev pub Heeds : Router → ℕ → Event → Action → Router → Type 0
Heeds r n (events.Came u) a r' = HeedsUnit r n u a r'
Heeds r n (events.Faulty f) a r' = HeedsFault r f a
Heeds r n events.Lost a r' = HeedsLoss r a
Heeds r n events.Connected a r' = r.phase ≡ phases.Connecting → a ≡ actions.Ask (query r')
Heeds r n events.Applied a r' = r.phase ≡ phases.Applying → a ≡ actions.Show
Heeds r n (events.NotApplied code) a r' =
    (r.phase ≡ phases.Reading) ⊎ (r.phase ≡ phases.Applying)
    → a ≡ ends_with false code causes.NotApplied
Heeds r n events.Tick a r' = HeedsTick r n a r'
Heeds r n events.Asked a r' = a ≡ actions.Wait
