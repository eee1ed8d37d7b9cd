-- What a cache may do at each event of a connection, and where it is then (RFC 8210 sections 5 to
-- 8).
use Rattle.std.specs.Prelude.{◌≡◌, ◌≢◌, ◌⊎◌, ℕ, Bool, true, false, ◌+◌, ◌≤◌, Some}
use Rattle.std.specs.Prelude.{None, if◌then◌else◌, min, ◌||◌}
use Rattle.session_router.specs.declared.head.Head.{Head}
use Rattle.session_router.specs.declared.head.Kind.{Kind}
use Rattle.session_router.specs.declared.head.Kind.TheVariants as kinds
use Rattle.session_cache.specs.declared.cache.Cache.{Cache}
use Rattle.session_cache.specs.declared.event.Present.{Present}
use Rattle.session_cache.specs.declared.event.CacheEvent.{CacheEvent}
use Rattle.session_cache.specs.declared.event.CacheEvent.TheVariants as events
use Rattle.session_cache.specs.declared.event.Answer.{Answer}
use Rattle.session_cache.specs.declared.event.Answer.TheVariants as answers
use Rattle.session_cache.specs.declared.event.Closing.{Closing}
use Rattle.session_cache.specs.declared.event.OwedReport.{OwedReport}

-- ---- where it is after a query, after it told of data, and after the end

-- a query came: the connection is of its version, and the next one has its whole time
abbrev pub heard : Cache → (now version : ℕ) → Cache
heard c n v = record c { asked = true; version = v; due = n + c.settings.idle_limit }

-- the router is told of the present data
abbrev pub informed : Cache → Present → Cache
informed c p = record c { told = true; reset = false; session = p.session; serial = p.serial }

-- the router is told to ask for all data
abbrev pub sent_back : Cache → Present → Cache
sent_back c p = record c { reset = true; session = p.session; serial = p.serial }

-- it was told of data, or to ask for all data
abbrev pub is_advised : Cache → Bool
is_advised c = c.told || c.reset

abbrev pub once_closed : Cache → Cache
once_closed c = record c { live = false }

-- ---- what it may do

-- The first query says what version the connection has, at most 2, and all others are of it (RFC
-- 8210 section 7).
pub record HasVersion (c : Cache) (u : Head) : Type 0 where
  pub most : u.version ≤ 2
  pub same : c.asked ≡ true → u.version ≡ c.version

-- A query, on a connection that hasn't ended, while the cache has data, and of no other session
-- than those that the router was told of: within a connection all are of one (RFC 8210 section
-- 5.1).
pub record IsAnswerable (c : Cache) (p : Present) (u : Head) (wanted : Kind) : Type 0 where
  pub kind : u.kind ≡ wanted
  pub version : HasVersion c u
  pub has : p.has ≡ true
  pub session : c.told ≡ true → c.session ≡ p.session

-- all data, for a reset query (RFC 8210 section 8.1)
pub record GivesAll (c : Cache) (n : ℕ) (p : Present) (u : Head) (c' : Cache) : Type 0 where
  pub query : IsAnswerable c p u kinds.ResetQuery
  pub after : c' ≡ informed (heard c n u.version) p

-- the query is of the present session, and the changes from its serial number can be told: at the
-- present one there are none
pub record CanTell (p : Present) (u : Head) (kept : Bool) : Type 0 where
  pub session : u.session ≡ p.session
  pub serial : (kept ≡ true) ⊎ (u.serial ≡ p.serial)

-- the changes, for a serial query of such a serial number (RFC 8210 section 8.2)
pub record GivesChanges (c : Cache) (n : ℕ) (p : Present) (u : Head) (kept : Bool) (since : ℕ)
    (c' : Cache) : Type 0 where
  pub query : IsAnswerable c p u kinds.SerialQuery
  pub known : CanTell p u kept
  pub since_is : since ≡ u.serial
  pub after : c' ≡ informed (heard c n u.version) p

abbrev pub CannotTell : Present → Head → Bool → Type 0
CannotTell p u kept = (u.session ≢ p.session) ⊎ ((kept ≡ false) × (u.serial ≢ p.serial))

-- A cache reset, for another one (RFC 8210 section 8.3). It tells of no data: the router may be
-- given those of another session next.
pub record GivesReset (c : Cache) (n : ℕ) (p : Present) (u : Head) (kept : Bool) (c' : Cache)
    : Type 0 where
  pub query : IsAnswerable c p u kinds.SerialQuery
  pub unknown : CannotTell p u kept
  pub chosen : c.settings.refuses ≡ false
  pub after : c' ≡ sent_back (heard c n u.version) p

abbrev pub IsQuery : Kind → Type 0
IsQuery kinds.SerialQuery = Unit {0}
IsQuery kinds.ResetQuery = Unit {0}
IsQuery _ = ⊥

-- a report that there are no data yet, for any query; the connection stays (RFC 8210 section 8.4)
pub record GivesNone (c : Cache) (n : ℕ) (p : Present) (u : Head) (c' : Cache) : Type 0 where
  pub kind : IsQuery u.kind
  pub version : HasVersion c u
  pub has : p.has ≡ false
  pub after : c' ≡ heard c n u.version

-- A notify of data that the router wasn't told of, to a router that asked once, a pause after the
-- last notify (RFC 8210 section 8.2). They are of the session of those that it was told of, or that
-- there were when it was told to ask for all.
pub record Notifies (c : Cache) (n : ℕ) (p : Present) (c' : Cache) : Type 0 where
  pub asked : c.asked ≡ true
  pub has : p.has ≡ true
  pub session : is_advised c ≡ true → c.session ≡ p.session
  pub serial : is_advised c ≡ true → c.serial ≢ p.serial
  pub pause : c.notify_from ≤ n
  pub after : c' ≡ record (informed c p) { notify_from = n + c.settings.pause }

-- nothing: time passed, or the connection has ended
abbrev pub MayRest : Cache → CacheEvent → Type 0
MayRest c events.Tick = Unit {0}
MayRest c _ = c.live ≡ false

pub record Rests (c : Cache) (e : CacheEvent) (c' : Cache) : Type 0 where
  pub after : c' ≡ c
  pub may : MayRest c e

-- no report is about a report (RFC 8210 section 5.11), nor said where there is nothing to report
abbrev pub IsUnreported : CacheEvent → Type 0
IsUnreported (events.Came u kept) = u.kind ≡ kinds.ErrorReport
IsUnreported (events.Faulty f) = f.code ≡ None
IsUnreported events.Full = ⊥
IsUnreported _ = Unit {0}

-- The version that a report is sent in: that of the connection, or else that of the unit that it is
-- about if there is such a version, and else the highest.
abbrev pub report_version : Cache → ℕ → ℕ
report_version c v = if c.asked then c.version else min v 2

abbrev pub event_version : CacheEvent → ℕ
event_version (events.Came u kept) = u.version
event_version (events.Faulty f) = f.version
event_version _ = 2

-- the end, with or without a report
pub record EndsTalk (c : Cache) (e : CacheEvent) (x : Closing) (c' : Cache) : Type 0 where
  pub silent : IsUnreported e → x.report ≡ None
  pub version :
      (r : OwedReport) → x.report ≡ Some r → r.version ≡ report_version c (event_version e)
  pub after : c' ≡ once_closed c

-- on a connection that hasn't ended
abbrev pub InTalk : Cache → Type 0 → Type 0
InTalk c rule = (c.live ≡ true) × rule

-- from c, at the time n and the event e, with these newest data, a cache may give this answer and
-- be c'
abbrev pub CacheRule : Cache → ℕ → Present → CacheEvent → Answer → Cache → Type 0
CacheRule c n p e answers.Wait c' = Rests c e c'
CacheRule c n p (events.Came u kept) answers.All c' = InTalk c (GivesAll c n p u c')
CacheRule c n p (events.Came u kept) (answers.Changes since) c' =
    InTalk c (GivesChanges c n p u kept since c')
CacheRule c n p (events.Came u kept) answers.Reset c' = InTalk c (GivesReset c n p u kept c')
CacheRule c n p (events.Came u kept) answers.NoData c' = InTalk c (GivesNone c n p u c')
CacheRule c n p events.Tick answers.Notify c' = InTalk c (Notifies c n p c')
CacheRule c n p e (answers.End x) c' = InTalk c (EndsTalk c e x c')
CacheRule c n p _ _ c' = ⊥
