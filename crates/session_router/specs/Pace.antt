-- When a router acts: what it waits for at most, and how long it rests after a failure.
use Rattle.std.specs.Prelude.{◌≡◌, ℕ, Bool, true, false, ◌+◌, ◌-◌, ◌*◌, ◌^◌, ◌&&◌, ◌||◌, ◌==◌}
use Rattle.std.specs.Prelude.{◌≤◌, nat_le, not, min, max, if◌then◌else◌}
use Rattle.session_router.specs.declared.head.Head.{Head}
use Rattle.session_router.specs.declared.router.Router.{Router}
use Rattle.session_router.specs.declared.router.Phase.{Phase}
use Rattle.session_router.specs.declared.router.Phase.TheVariants as phases
use Rattle.session_router.specs.declared.event.Event.{Event}
use Rattle.session_router.specs.declared.event.Event.TheVariants as events
use Rattle.session_router.specs.declared.event.Action.{Action}
use Rattle.session_router.specs.declared.event.Action.TheVariants as actions
use Rattle.session_router.specs.declared.event.Ending.{Ending}
use Rattle.session_router.specs.declared.event.Cause.{Cause}
use Rattle.session_router.specs.declared.event.Cause.TheVariants as causes
use Rattle.session_router.specs.Rules.{awaits_changes, is_answering}
use Rattle.session_router.specs.Times.{expires_at_show, received, refresh_ms, retry_ms, shortened}

-- when it acts by itself: while it waits not before it may ask again, and always when data expire
abbrev pub due_in : Phase → Router → ℕ
due_in phases.Waiting r = max r.due (min (r.asked + r.settings.pause) (2 ^ 64 - 1))
due_in _ r = r.due

abbrev pub wakes_at : Router → ℕ
wakes_at r = if r.has_data then min (due_in r.phase r) r.expires else due_in r.phase r

-- what is done has to be done by `due`
abbrev pub IsLimited : Phase → Type 0
IsLimited phases.Connecting = Unit {0}
IsLimited phases.Asked = Unit {0}
IsLimited phases.Reading = Unit {0}
IsLimited _ = ⊥

-- what stays but where a connection begins, a query goes out, data come or a failure ends it
pub record SamePace (r r' : Router) : Type 0 where
  pub settings : r'.settings ≡ r.settings
  pub asked : r'.asked ≡ r.asked
  pub fell : r'.fell ≡ r.fell
  pub wait : r'.wait ≡ r.wait
  pub answered : r'.answered ≡ r.answered

pub record SameDue (r r' : Router) : Type 0 where
  pub same : SamePace r r'
  pub due : r'.due ≡ r.due

-- when it asks after a notify: as soon as it may, if it hasn't the data of that serial number
abbrev pub due_at_notify : Router → Head → (now : ℕ) → ℕ
due_at_notify r u n =
    if r.has_data && (u.serial == r.known.serial) then r.due else min r.due n

-- a pause after the last query and the last connection, or a pause from now
abbrev pub soonest : Router → (now : ℕ) → ℕ
soonest r n =
    if nat_le r.settings.pause (n - max r.asked r.tried) then n else n + r.settings.pause

-- when a router that does nothing acts: as before, but where a notify or its caller's wish makes it
-- ask or connect sooner
abbrev pub due_waiting : Phase → Router → (now : ℕ) → Event → ℕ
due_waiting phases.Waiting r n (events.Came u) = due_at_notify r u n
due_waiting phases.Waiting r n events.Asked = min r.due n
due_waiting phases.Offline r n events.Asked = min r.due (soonest r n)
due_waiting _ r n _ = r.due

pub record PacesWait (r : Router) (n : ℕ) (e : Event) (r' : Router) : Type 0 where
  pub same : SamePace r r'
  pub due : r'.due ≡ due_waiting r.phase r n e

pub record PacesConnect (r : Router) (n : ℕ) (r' : Router) : Type 0 where
  pub settings : r'.settings ≡ r.settings
  pub asked : r'.asked ≡ r.asked
  pub fell : r'.fell ≡ false
  pub wait : r'.wait ≡ r.wait
  pub answered : r'.answered ≡ r.answered
  pub due : r'.due ≡ n + r.settings.connect_limit

-- a connection that was just made has brought nothing
abbrev pub answered_after : Event → Bool → Bool
answered_after events.Connected before = false
answered_after _ before = before

-- each query gives its answer the whole time, also that which follows a cache reset
pub record PacesAsk (r : Router) (n : ℕ) (e : Event) (r' : Router) : Type 0 where
  pub settings : r'.settings ≡ r.settings
  pub asked : r'.asked ≡ n
  pub fell : r'.fell ≡ r.fell
  pub wait : r'.wait ≡ r.wait
  pub answered : r'.answered ≡ answered_after e r.answered
  pub due : r'.due ≡ n + r.settings.response_limit

-- a notify came while the answer was awaited or read, of another serial number than that of the
-- data that came
abbrev pub has_more : Router → Bool
has_more r = r.noted && not (r.note == r.answer.serial)

-- Data came: they are asked for again at the refresh time, or soon if there are more. Both times
-- run from the receipt of the end of data (RFC 8210 section 6).
abbrev pub due_at_show : Router → (now : ℕ) → ℕ
due_at_show r n = if has_more r then n else received r n + refresh_ms r.settings r.answer

-- whether the answer has other data than those that are there
abbrev pub is_news : Router → Bool
is_news r =
    not r.has_data || not (r.known.session == r.answer.session)
    || not (r.known.serial == r.answer.serial)
    || not (r.known.version == r.answer.version)

-- the wait that grows is a second again once the data change: a cache that closes after each answer
-- isn't asked much more often than the refresh time says
abbrev pub wait_at_show : Router → ℕ
wait_at_show r = if is_news r then 1000 else r.wait

pub record PacesShow (r : Router) (n : ℕ) (r' : Router) : Type 0 where
  pub settings : r'.settings ≡ r.settings
  pub asked : r'.asked ≡ r.asked
  pub fell : r'.fell ≡ r.fell
  pub wait : r'.wait ≡ wait_at_show r
  pub answered : r'.answered ≡ true
  pub due : r'.due ≡ due_at_show r n
  pub expires : r'.expires ≡ expires_at_show r n

pub record PacesNoData (r : Router) (n : ℕ) (r' : Router) : Type 0 where
  pub same : SamePace r r'
  pub due : r'.due ≡ n + retry_ms r.settings r.known

-- data expired while there is no connection: the next one is made soon
pub record PacesDrop (r : Router) (n : ℕ) (r' : Router) : Type 0 where
  pub settings : r'.settings ≡ r.settings
  pub asked : r'.asked ≡ r.asked
  pub fell : r'.fell ≡ r.fell
  pub wait : r'.wait ≡ 1000
  pub answered : r'.answered ≡ r.answered
  pub due : r'.due ≡ min r.due (n + r.settings.pause)

-- it fell: the next connection is made at once (RFC 8210 section 6)
pub record PacesFall (r : Router) (n : ℕ) (r' : Router) : Type 0 where
  pub settings : r'.settings ≡ r.settings
  pub asked : r'.asked ≡ r.asked
  pub fell : r'.fell ≡ true
  pub wait : r'.wait ≡ r.wait
  pub answered : r'.answered ≡ r.answered
  pub due : r'.due ≡ n

-- A silent close may have cut off an answer in a version that the cache has: so the highest version
-- is tried again, at a refresh time; and each time that it ends so again after twice as long, up to
-- a day.
abbrev pub next_rise : Router → ℕ
next_rise r = max (refresh_ms r.settings r.known) (min (2 * r.rise_wait) 86400000)

-- the wait is still a refresh time: the highest version hasn't ended in silence again
abbrev pub is_first_rise : Router → Bool
is_first_rise r = r.silent && nat_le r.rise_wait (refresh_ms r.settings r.known)

-- Data come after the fall: their refresh time counts where it is shorter than the one that was
-- known at the fall. A wait that has grown stays.
abbrev pub rises_at_show : Router → (now : ℕ) → ℕ
rises_at_show r n =
    if is_first_rise r
    then min r.rises (received r n + refresh_ms r.settings r.answer)
    else r.rises

-- data on a connection that didn't fall begin the waits anew
abbrev pub rise_wait_at_show : Router → ℕ
rise_wait_at_show r =
    if is_first_rise r then min r.rise_wait (refresh_ms r.settings r.answer)
    else if r.silent then r.rise_wait
    else 0

-- it rises: the next connection is made at once
pub record PacesRise (r : Router) (n : ℕ) (r' : Router) : Type 0 where
  pub settings : r'.settings ≡ r.settings
  pub asked : r'.asked ≡ r.asked
  pub fell : r'.fell ≡ r.fell
  pub wait : r'.wait ≡ r.wait
  pub answered : r'.answered ≡ r.answered
  pub pause : r.settings.pause ≤ n - r.asked
  pub due : r'.due ≡ n

-- Waits that grow come while there are no data, and after a cache was alive a moment ago: where it
-- answered on this connection, or this connection or the last one brought data. Else the retry time
-- is that of a query that failed, for a router that has data (RFC 8210 section 6).
abbrev pub grows : Router → Bool
grows r = not r.has_data || r.answered || r.agreed

-- An answer that is too slow comes on a connection that the cache made: the wait grows too.
abbrev pub grows_slow : Router → Bool
grows_slow r = is_answering r.phase || grows r

-- a router that waits, and has data
abbrev pub is_waiting : Phase → Bool
is_waiting phases.Waiting = true
is_waiting _ = false

-- The longest wait: the retry time; after the end of a connection on which nothing is asked the
-- refresh time, if that is longer.
abbrev pub longest_rest : Router → ℕ
longest_rest r =
    if r.has_data && is_waiting r.phase
    then max (retry_ms r.settings r.known) (refresh_ms r.settings r.known)
    else retry_ms r.settings r.known

-- longer each time, up to that time, or the retry time
abbrev pub rest : (grows : Bool) → Router → ℕ
rest g r =
    max r.settings.pause
    (if g
    then shortened r.settings.chance (min (longest_rest r) r.wait)
    else retry_ms r.settings r.known)

-- the next wait that grows is twice this one
abbrev pub next_wait : (grows : Bool) → Router → ℕ
next_wait g r = if g then min (2 * r.wait) (2 ^ 32 - 1) else r.wait

-- the time for something is over
pub record PacesGivingUp (r : Router) (n : ℕ) (r' : Router) : Type 0 where
  pub settings : r'.settings ≡ r.settings
  pub asked : r'.asked ≡ r.asked
  pub fell : r'.fell ≡ r.fell
  pub answered : r'.answered ≡ r.answered
  pub wait : r'.wait ≡ next_wait (grows_slow r) r
  pub due : r'.due ≡ n + rest (grows_slow r) r

-- Another failure: where a serial query failed or data are dropped, a reset query follows soon.
-- Where data are dropped the wait that grows is a second again.
pub record PacesFailure (r : Router) (n : ℕ) (drop : Bool) (r' : Router) : Type 0 where
  pub settings : r'.settings ≡ r.settings
  pub asked : r'.asked ≡ r.asked
  pub fell : r'.fell ≡ r.fell
  pub answered : r'.answered ≡ r.answered
  pub wait :
      r'.wait ≡ (if drop then 1000 else if awaits_changes r then r.wait else next_wait (grows r) r)
  pub due : r'.due ≡ n + (if drop || awaits_changes r then r.settings.pause else rest (grows r) r)

abbrev pub PacesEnd : Cause → Router → ℕ → Ending → Router → Type 0
PacesEnd causes.Lower r n x r' = PacesFall r n r'
PacesEnd causes.Higher r n x r' = PacesRise r n r'
PacesEnd causes.Slow r n x r' = PacesGivingUp r n r'
PacesEnd _ r n x r' = PacesFailure r n x.drop r'

abbrev pub Paces : Router → ℕ → Event → Action → Router → Type 0
Paces r n e actions.Wait r' = PacesWait r n e r'
Paces r n e actions.Drop r' = PacesDrop r n r'
Paces r n e actions.Connect r' = PacesConnect r n r'
Paces r n e (actions.Ask q) r' = PacesAsk r n e r'
Paces r n e actions.Show r' = PacesShow r n r'
Paces r n e actions.NoData r' = PacesNoData r n r'
Paces r n e (actions.End x) r' = PacesEnd x.cause r n x r'
Paces r n e _ r' = SameDue r r'
