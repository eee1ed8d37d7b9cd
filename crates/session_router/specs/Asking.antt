-- How often a router asks, in which versions, and what it sends when, in a whole history.
use Rattle.std.specs.Prelude.{◌≡◌, ◌⊎◌, ℕ, Bool, true, false, ◌+◌, ◌-◌, ◌*◌, ◌^◌, ◌<◌, ◌≤◌}
use Rattle.std.specs.Prelude.{Option, Some, None, List, [], ◌∷◌, ◌||◌, if◌then◌else◌}
use Rattle.session_router.specs.declared.head.Kind.{Kind}
use Rattle.session_router.specs.declared.head.Kind.TheVariants as kinds
use Rattle.session_router.specs.declared.head.Query.{Query}
use Rattle.session_router.specs.declared.settings.Settings.{Settings}
use Rattle.session_router.specs.declared.event.Event.{Event}
use Rattle.session_router.specs.declared.event.Event.TheVariants as events
use Rattle.session_router.specs.declared.event.Action.{Action}
use Rattle.session_router.specs.declared.event.Action.TheVariants as actions
use Rattle.session_router.specs.declared.event.Cause.{Cause}
use Rattle.session_router.specs.declared.event.Cause.TheVariants as causes
use Rattle.session_router.specs.Rules.{NoneAboutReports, known_of}
use Rattle.session_router.specs.Times.{refresh_ms}
use Rattle.session_router.specs.Histories.{Moment}

-- ---- times

abbrev pub latest : {Body : Type 0} → List (Moment Body) → ℕ
latest [] = 0
latest (m ∷ ms) = m.now

-- times that don't go back, each below 2^63
abbrev pub IsTimed : {Body : Type 0} → List (Moment Body) → Type 0
IsTimed [] = Unit {0}
IsTimed (m ∷ ms) = (latest ms ≤ m.now) × (m.now < 2 ^ 63) × IsTimed ms

-- the longest that a router waits for anything: a day, if its caller sets no times
abbrev pub longest : Settings → ℕ
longest s =
    s.pause + s.connect_limit + s.response_limit + s.refresh + s.retry + s.expire + 86400000

-- ---- queries

-- a query, and when it was sent
pub record Asking : Type 0 where
  pub query : Query
  pub at : ℕ

abbrev pub asked_last : Action → ℕ → Option Asking → Option Asking
asked_last (actions.Ask q) n before = Some (record { query = q; at = n })
asked_last _ n before = before

-- the last query of a history
abbrev pub last_query : {Body : Type 0} → List (Moment Body) → Option Asking
last_query [] = None
last_query (m ∷ ms) = asked_last m.action m.now (last_query ms)

-- what a query weighs: one of a lower version weighs less, and so does a reset query
abbrev pub weight : Query → ℕ
weight q = 2 * q.version + (if q.changes then 1 else 0)

-- a query comes a pause after the one before it, or weighs less: so at most six come in one pause
abbrev pub PacedHere : ℕ → Action → ℕ → Option Asking → Type 0
PacedHere pause (actions.Ask q) n (Some x) = (pause ≤ n - x.at) ⊎ (weight q < weight x.query)
PacedHere pause _ n _ = Unit {0}

abbrev pub IsPaced : {Body : Type 0} → ℕ → List (Moment Body) → Type 0
IsPaced pause [] = Unit {0}
IsPaced pause (m ∷ ms) = PacedHere pause m.action m.now (last_query ms) × IsPaced pause ms

-- ---- reasons to ask

abbrev pub is_notify : Kind → Bool
is_notify kinds.SerialNotify = true
is_notify _ = false

-- what may make a router ask before the refresh time is over: a failure, the answer that there are
-- no data, a notify, and its caller's wish
abbrev pub is_reason : Event → Action → Bool
is_reason e (actions.End x) = true
is_reason e actions.NoData = true
is_reason (events.Came u) a = is_notify u.kind
is_reason events.Asked a = true
is_reason _ a = false

-- whether any of these came since the last query, or there was no query yet
abbrev pub reason_after : Action → Event → Bool → Bool
reason_after (actions.Ask q) e before = false
reason_after a e before = is_reason e a || before

abbrev pub has_reason : {Body : Type 0} → List (Moment Body) → Bool
has_reason [] = true
has_reason (m ∷ ms) = reason_after m.action m.event (has_reason ms)

-- when the refresh time of the last whole answer is over: it runs from the receipt of its end of
-- data (RFC 8210 section 6)
abbrev pub refresh_after : Action → Event → Settings → (now : ℕ) → ℕ → ℕ
refresh_after (actions.Apply changes) (events.Came u) s n before = n + refresh_ms s (known_of u)
refresh_after _ e s n before = before

abbrev pub refresh_at : {Body : Type 0} → Settings → List (Moment Body) → ℕ
refresh_at s [] = 0
refresh_at s (m ∷ ms) = refresh_after m.action m.event s m.now (refresh_at s ms)

-- a query follows a cache reset, or has a reason, or comes when the refresh time is over
abbrev pub QuietHere : Action → Event → (refresh now : ℕ) → Bool → Type 0
QuietHere (actions.Ask q) (events.Came u) refresh n reason = u.kind ≡ kinds.CacheReset
QuietHere (actions.Ask q) e refresh n reason = (reason ≡ true) ⊎ (refresh ≤ n)
QuietHere _ e refresh n reason = Unit {0}

abbrev pub IsQuiet : {Body : Type 0} → Settings → List (Moment Body) → Type 0
IsQuiet s [] = Unit {0}
IsQuiet s (m ∷ ms) =
    QuietHere m.action m.event (refresh_at s ms) m.now (has_reason ms) × IsQuiet s ms

-- ---- connections

-- whether a connection is there, or being made
abbrev pub connection_after : Action → Bool → Bool
connection_after actions.Connect before = true
connection_after (actions.End x) before = false
connection_after _ before = before

abbrev pub has_connection : {Body : Type 0} → List (Moment Body) → Bool
has_connection [] = false
has_connection (m ∷ ms) = connection_after m.action (has_connection ms)

-- queries and reports go out on a connection that hasn't ended, and no report is about a report
-- (RFC 8210 section 5.11); a report ends the connection, so there is one on each at most
abbrev pub TidyHere : Event → Action → Bool → Type 0
TidyHere e (actions.Ask q) before = before ≡ true
TidyHere e (actions.End x) before = (before ≡ true) × NoneAboutReports e x.report
TidyHere e actions.Connect before = before ≡ false
TidyHere e _ before = Unit {0}

abbrev pub IsTidy : {Body : Type 0} → List (Moment Body) → Type 0
IsTidy [] = Unit {0}
IsTidy (m ∷ ms) = TidyHere m.event m.action (has_connection ms) × IsTidy ms

-- ---- versions

-- the version of the first answer on a connection
abbrev pub answered_in : Event → Action → Option ℕ → Option ℕ
answered_in (events.Came u) actions.Begin before = Some u.version
answered_in e actions.Connect before = None
answered_in e _ before = before

abbrev pub agreed_version : {Body : Type 0} → List (Moment Body) → Option ℕ
agreed_version [] = None
agreed_version (m ∷ ms) = answered_in m.event m.action (agreed_version ms)

-- all answers on a connection are of one version (RFC 8210 section 7)
abbrev pub AgreesHere : Event → Action → Option ℕ → Type 0
AgreesHere (events.Came u) actions.Begin (Some v) = u.version ≡ v
AgreesHere e _ before = Unit {0}

abbrev pub IsOfOneVersion : {Body : Type 0} → List (Moment Body) → Type 0
IsOfOneVersion [] = Unit {0}
IsOfOneVersion (m ∷ ms) = AgreesHere m.event m.action (agreed_version ms) × IsOfOneVersion ms

-- why the last connection ended
abbrev pub cause_after : Action → Option Cause → Option Cause
cause_after (actions.End x) before = Some x.cause
cause_after _ before = before

abbrev pub last_cause : {Body : Type 0} → List (Moment Body) → Option Cause
last_cause [] = None
last_cause (m ∷ ms) = cause_after m.action (last_cause ms)

-- the first query on a connection is in the highest version, unless the connection before ended
-- because the cache may have a lower one
abbrev pub HighestHere : ℕ → Event → Action → Option Cause → Type 0
HighestHere highest events.Connected (actions.Ask q) before =
    (q.version ≡ highest) ⊎ (before ≡ Some causes.Lower)
HighestHere highest e _ before = Unit {0}

abbrev pub TriesHighest : {Body : Type 0} → ℕ → List (Moment Body) → Type 0
TriesHighest highest [] = Unit {0}
TriesHighest highest (m ∷ ms) =
    HighestHere highest m.event m.action (last_cause ms) × TriesHighest highest ms
