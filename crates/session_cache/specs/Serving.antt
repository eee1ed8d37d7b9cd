-- What a cache has to do at what it is told in time, on a connection that hasn't ended (RFC 8210
-- sections 5 to 8, 12).
use Rattle.std.specs.Prelude.{◌≡◌, ◌≢◌, ℕ, Bool, true, false, ◌<◌, ◌≤◌, Option, Some, None}
use Rattle.rtr_base.specs.declared.error_code.ErrorCode.{ErrorCode}
use Rattle.session_router.specs.declared.head.Head.{Head}
use Rattle.session_router.specs.declared.head.Fault.{Fault}
use Rattle.session_router.specs.declared.head.Kind.{Kind}
use Rattle.session_router.specs.declared.head.Kind.TheVariants as kinds
use Rattle.session_cache.specs.declared.cache.Cache.{Cache}
use Rattle.session_cache.specs.declared.event.Present.{Present}
use Rattle.session_cache.specs.declared.event.CacheEvent.{CacheEvent}
use Rattle.session_cache.specs.declared.event.CacheEvent.TheVariants as events
use Rattle.session_cache.specs.declared.event.Answer.{Answer}
use Rattle.session_cache.specs.declared.event.Answer.TheVariants as answers
use Rattle.session_cache.specs.declared.event.OwedReport.{OwedReport}
use Rattle.session_cache.specs.declared.event.Reason.{Reason}
use Rattle.session_cache.specs.declared.event.Reason.TheVariants as reasons
use Rattle.session_cache.specs.CacheRules.{CanTell, CannotTell, HasVersion, IsAnswerable, IsQuery}
use Rattle.session_cache.specs.CacheRules.{is_advised, report_version}

-- ---- how a connection ends

abbrev pub closes_with : Option OwedReport → Reason → Answer
closes_with report reason = answers.End (record { report = report; reason = reason })

-- with a report of this version and code (section 12)
abbrev pub reports : (version code : ℕ) → Reason → Answer
reports version code reason =
    closes_with (Some (record { version = version; code = record { 0 = code } })) reason

-- without one
abbrev pub closes_for : Reason → Answer
closes_for reason = closes_with None reason

-- ---- units

-- a unit that is neither a query nor a report
abbrev pub IsNoQuery : Kind → Type 0
IsNoQuery kinds.SerialQuery = ⊥
IsNoQuery kinds.ResetQuery = ⊥
IsNoQuery kinds.ErrorReport = ⊥
IsNoQuery _ = Unit {0}

-- there are data, but the router was told of some of another session
pub record HasOtherSession (c : Cache) (p : Present) : Type 0 where
  pub has : p.has ≡ true
  pub told : c.told ≡ true
  pub session : c.session ≢ p.session

pub record ServesUnit (c : Cache) (p : Present) (u : Head) (kept : Bool) (a : Answer) : Type 0 where
  -- a reset query (section 8.1)
  pub all : IsAnswerable c p u kinds.ResetQuery → a ≡ answers.All
  -- a serial query whose changes can be told (section 8.2)
  pub changes :
      IsAnswerable c p u kinds.SerialQuery → CanTell p u kept → a ≡ answers.Changes u.serial
  -- another one (section 8.3)
  pub resets :
      IsAnswerable c p u kinds.SerialQuery → CannotTell p u kept → c.settings.refuses ≡ false
      → a ≡ answers.Reset
  -- or, where a caller chose so, by the report that section 5.1 has for another session
  pub refuses :
      IsAnswerable c p u kinds.SerialQuery → CannotTell p u kept → c.settings.refuses ≡ true
      → a ≡ reports u.version 0 reasons.Unknown
  -- a query before the first data (section 8.4)
  pub none : IsQuery u.kind → HasVersion c u → p.has ≡ false → a ≡ answers.NoData
  -- a query of a router that was told of data of another session (section 5.1)
  pub other_session :
      IsQuery u.kind → HasVersion c u → HasOtherSession c p → a ≡ closes_for reasons.NewSession
  -- no query
  pub no_query : IsNoQuery u.kind → HasVersion c u
      → a ≡ reports (report_version c u.version) 3 reasons.NoQuery
  -- another version than that of the connection (section 7)
  pub other_version :
      u.kind ≢ kinds.ErrorReport → c.asked ≡ true → u.version ≢ c.version
      → a ≡ reports c.version 8 reasons.OtherVersion
  -- a version that there isn't (section 7)
  pub no_version :
      u.kind ≢ kinds.ErrorReport → c.asked ≡ false → 2 < u.version
      → a ≡ reports 2 4 reasons.NoVersion
  -- a report (section 5.11)
  pub reported : u.kind ≡ kinds.ErrorReport → a ≡ closes_for reasons.Reported

-- A unit that is refused: its version comes first (section 7), then what is owed about it; nothing
-- is about an error report (section 5.11).
pub record ServesFault (c : Cache) (f : Fault) (a : Answer) : Type 0 where
  pub unowed : f.code ≡ None → a ≡ closes_for reasons.Faulty
  pub other_version :
      (code : ErrorCode) → f.code ≡ Some code → c.asked ≡ true → f.version ≢ c.version
      → a ≡ reports c.version 8 reasons.OtherVersion
  pub no_version :
      (code : ErrorCode) → f.code ≡ Some code → c.asked ≡ false → 2 < f.version
      → a ≡ reports 2 4 reasons.NoVersion
  pub owed :
      (code : ErrorCode) → f.code ≡ Some code → c.asked ≡ true → f.version ≡ c.version
      → a ≡ reports c.version code.0 reasons.Faulty
  pub first :
      (code : ErrorCode) → f.code ≡ Some code → c.asked ≡ false → f.version ≤ 2
      → a ≡ reports f.version code.0 reasons.Faulty

-- ---- time, and new data

-- the router asked once, and wasn't told of the newest data, which are of the session of those that
-- it was told of, or that there were when it was told to ask for all
pub record HasNews (c : Cache) (p : Present) : Type 0 where
  pub asked : c.asked ≡ true
  pub has : p.has ≡ true
  pub session : is_advised c ≡ true → c.session ≡ p.session
  pub serial : is_advised c ≡ true → c.serial ≢ p.serial

-- It was told of them; or of none, but to ask for all, of whatever session they are then; or there
-- are no data; or it didn't ask.
pub data HasNoNews (c : Cache) (p : Present) : Type 0 where
  knows_newest :
      is_advised c ≡ true → c.session ≡ p.session → c.serial ≡ p.serial → HasNoNews c p
  was_reset :
      c.told ≡ false → c.reset ≡ true → c.session ≢ p.session → HasNoNews c p
  none_there : p.has ≡ false → HasNoNews c p
  never_asked : c.asked ≡ false → c.told ≡ false → HasNoNews c p

pub record ServesTick (c : Cache) (n : ℕ) (p : Present) (a : Answer) : Type 0 where
  -- new data, a pause after the last notify (section 8.2)
  pub notifies : HasNews c p → c.notify_from ≤ n → a ≡ answers.Notify
  -- before that
  pub pauses : HasNews c p → n < c.notify_from → a ≡ answers.Wait
  -- of another session (section 5.1)
  pub other_session : HasOtherSession c p → a ≡ closes_for reasons.NewSession
  -- none
  pub rests : HasNoNews c p → a ≡ answers.Wait

-- ---- all events

abbrev pub Serves : Cache → ℕ → Present → CacheEvent → Answer → Type 0
Serves c n p events.Tick a = ServesTick c n p a
Serves c n p events.Full a = a ≡ reports (report_version c 2) 1 reasons.Full
Serves c n p (events.Came u kept) a = ServesUnit c p u kept a
Serves c n p (events.Faulty f) a = ServesFault c f a
Serves c n p events.Lost a = a ≡ closes_for reasons.Lost
