-- Whole connections: what a cache was told and what it answered, the newest first.
use Rattle.std.specs.Prelude.{◌≡◌, ◌≢◌, ℕ, Bool, true, false, ◌+◌, ◌≤◌, Option, Some, None}
use Rattle.std.specs.Prelude.{List, [], ◌∷◌}
use Rattle.session_cache.specs.declared.settings.CacheSettings.{CacheSettings}
use Rattle.session_cache.specs.declared.cache.Cache.{Cache}
use Rattle.session_cache.specs.declared.event.Present.{Present}
use Rattle.session_cache.specs.declared.event.CacheEvent.{CacheEvent}
use Rattle.session_cache.specs.declared.event.CacheEvent.TheVariants as events
use Rattle.session_cache.specs.declared.event.Answer.{Answer}
use Rattle.session_cache.specs.declared.event.Answer.TheVariants as answers
use Rattle.session_cache.specs.CacheRules.{CacheRule}
use Rattle.session_cache.specs.CacheSteps.{CacheMoves, IsCacheStep}

-- what happened once: the time, the newest data, what the cache was told, and its answer
pub record CacheMoment : Type 0 where
  pub now : ℕ
  pub present : Present
  pub event : CacheEvent
  pub answer : Answer

-- a connection as `new` makes it
pub record IsNewConnection (s : CacheSettings) (c : Cache) : Type 0 where
  pub settings : c.settings ≡ s
  pub asked : c.asked ≡ false
  pub told : c.told ≡ false
  pub notify_from : c.notify_from ≡ 0

-- any run of a connection that answers so, whatever it is told, with whichever data
pub data IsConnectionBy (Answers : CacheMoves) (s : CacheSettings) : List CacheMoment → Cache →
    Type 0 where
  connection_begins : (c : Cache) → IsNewConnection s c → IsConnectionBy Answers s [] c
  connection_goes_on :
      (m : CacheMoment) (ms : List CacheMoment) (c c' : Cache) → IsConnectionBy Answers s ms c
      → Answers c m.now m.present m.event m.answer c' → IsConnectionBy Answers s (m ∷ ms) c'

-- one that takes its steps
abbrev pub IsConnection : CacheSettings → List CacheMoment → Cache → Type 0
IsConnection s ms c = IsConnectionBy IsCacheStep s ms c

-- one that does whatever its rules let it do, even where it has to do something else
abbrev pub IsAllowedConnection : CacheSettings → List CacheMoment → Cache → Type 0
IsAllowedConnection s ms c = IsConnectionBy CacheRule s ms c

-- when the last notify was sent
abbrev pub notified_at : Answer → ℕ → Option ℕ → Option ℕ
notified_at answers.Notify n before = Some n
notified_at _ n before = before

abbrev pub last_notify : List CacheMoment → Option ℕ
last_notify [] = None
last_notify (m ∷ ms) = notified_at m.answer m.now (last_notify ms)

-- the version of the last query that was answered
abbrev pub version_of_query : CacheEvent → Option ℕ → Option ℕ
version_of_query (events.Came u kept) before = Some u.version
version_of_query _ before = before

abbrev pub version_after : Answer → CacheEvent → Option ℕ → Option ℕ
version_after answers.All e before = version_of_query e before
version_after (answers.Changes since) e before = version_of_query e before
version_after answers.Reset e before = version_of_query e before
version_after answers.NoData e before = version_of_query e before
version_after _ e before = before

abbrev pub answered_version : List CacheMoment → Option ℕ
answered_version [] = None
answered_version (m ∷ ms) = version_after m.answer m.event (answered_version ms)

-- the session of the last data that the router was told of
abbrev pub session_after : Answer → Present → Option ℕ → Option ℕ
session_after answers.All p before = Some p.session
session_after (answers.Changes since) p before = Some p.session
session_after answers.Notify p before = Some p.session
session_after _ p before = before

abbrev pub told_session : List CacheMoment → Option ℕ
told_session [] = None
told_session (m ∷ ms) = session_after m.answer m.present (told_session ms)

abbrev pub ended_by : Answer → Bool → Bool
ended_by (answers.End x) before = true
ended_by _ before = before

abbrev pub has_ended : List CacheMoment → Bool
has_ended [] = false
has_ended (m ∷ ms) = ended_by m.answer (has_ended ms)

-- Notifies come a pause after each other, and none before a query was answered (RFC 8210 section
-- 8.2).
abbrev pub NotifiesHere : (pause : ℕ) → Answer → (now : ℕ) → (last version : Option ℕ) → Type 0
NotifiesHere pause answers.Notify n (Some at) version = (at + pause ≤ n) × (version ≢ None)
NotifiesHere pause answers.Notify n None version = version ≢ None
NotifiesHere pause _ n last version = Unit {0}

-- what was there stays
abbrev pub StaysThere : Option ℕ → Option ℕ → Type 0
StaysThere None next = Unit {0}
StaysThere (Some v) next = next ≡ Some v

pub record IsOrderlyHere (pause : ℕ) (m : CacheMoment) (ms : List CacheMoment) : Type 0 where
  pub notifies : NotifiesHere pause m.answer m.now (last_notify ms) (answered_version ms)
  -- all queries that are answered are of one version (RFC 8210 section 7)
  pub version : StaysThere (answered_version ms) (answered_version (m ∷ ms))
  -- all data are of one session (RFC 8210 section 5.1)
  pub session : StaysThere (told_session ms) (told_session (m ∷ ms))
  -- nothing comes after the end
  pub silent : has_ended ms ≡ true → m.answer ≡ answers.Wait

abbrev pub IsOrderly : (pause : ℕ) → List CacheMoment → Type 0
IsOrderly pause [] = Unit {0}
IsOrderly pause (m ∷ ms) = IsOrderlyHere pause m ms × IsOrderly pause ms
