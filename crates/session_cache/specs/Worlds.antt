-- A router and a cache of ours, joined by a pipe that loses nothing while it is there.
use Rattle.std.specs.Prelude.{◌≡◌, ◌≢◌, ◌⊎◌, ℕ, Bool, true, false, if◌then◌else◌, map, ◌<◌}
use Rattle.std.specs.Prelude.{Option, Some, None, List, [], ◌∷◌, ◌++◌, ◌==◌, ◌&&◌, ◌||◌, flat_map}
use Rattle.std.specs.List.{AllByRecursion}
use Rattle.std.specs.declared.cmp.Ordering.TheVariants.{Less}
use Rattle.rtr_base.specs.Serial.{serial_cmp}
use Rattle.session_router.specs.declared.head.Head.{Head}
use Rattle.session_router.specs.declared.head.Query.{Query}
use Rattle.session_router.specs.declared.head.Kind.{Kind}
use Rattle.session_router.specs.declared.head.Kind.TheVariants as kinds
use Rattle.session_router.specs.declared.router.Router.{Router}
use Rattle.session_router.specs.declared.router.Phase.{Phase}
use Rattle.session_router.specs.declared.router.Phase.TheVariants as phases
use Rattle.session_router.specs.declared.settings.Settings.{Settings}
use Rattle.session_router.specs.declared.event.Event.{Event}
use Rattle.session_router.specs.declared.event.Event.TheVariants as events
use Rattle.session_router.specs.declared.event.Action.{Action}
use Rattle.session_router.specs.declared.event.Action.TheVariants as actions
use Rattle.session_router.specs.Heeding.{HasRoom}
use Rattle.session_router.specs.Histories.{Caller, Host, empty_host, host_after}
use Rattle.session_router.specs.Rules.{IsPayloadOf, Rule}
use Rattle.session_router.specs.Step.{IsStep}
use Rattle.session_cache.specs.declared.cache.Cache.{Cache}
use Rattle.session_cache.specs.declared.event.Present.{Present}
use Rattle.session_cache.specs.declared.event.CacheEvent.{CacheEvent}
use Rattle.session_cache.specs.declared.event.CacheEvent.TheVariants as told
use Rattle.session_cache.specs.declared.event.Answer.{Answer}
use Rattle.session_cache.specs.declared.event.Answer.TheVariants as answers
use Rattle.session_cache.specs.declared.event.OwedReport.{OwedReport}
use Rattle.session_cache.specs.CacheRules.{CacheRule}
use Rattle.session_cache.specs.CacheSteps.{CacheMoves, IsCacheStep}

-- ---- the data of a cache

-- each of these changes is of a payload that the version has
abbrev pub AreChangesOf : (C : Type 0) → (C → Kind) → ℕ → List C → Type 0
AreChangesOf C kind v cs = AllByRecursion (λ c. IsPayloadOf v (kind c)) cs

-- What names data of a cache, the data as each version has them, and the times that their ends of
-- data name. Where `name` says that there are none, the others say nothing.
pub record Edition (D : Type 0) : Type 0 where
  pub name : Present
  pub for_version : (version : ℕ) → D
  pub refresh : ℕ
  pub retry : ℕ
  pub expire : ℕ

-- Data of any type, and changes of them.
pub record Source (D C : Type 0) : Type 0 where
  -- what changes make of data, or of none; they may be refused
  pub make : Option D → List C → Option D
  -- the changes that a cache sends from data, or from none, to others
  pub delta : Option D → D → List C
  pub kind : C → Kind
  pub size : (version : ℕ) → C → ℕ

abbrev pub IsIn : {A : Type 0} → List A → A → Type 0
IsIn [] x = ⊥
IsIn (y ∷ ys) x = (y ≡ x) ⊎ IsIn ys x

-- the cache had these data
abbrev pub WasHad : {D : Type 0} → List (Edition D) → Edition D → Type 0
WasHad had x = (x.name.has ≡ true) × IsIn had x

-- A cache never had two data under one session and serial number.
abbrev pub IsOneDataPerName : {D : Type 0} → List (Edition D) → Type 0
IsOneDataPerName {D} had =
    (x y : Edition D) → WasHad had x → WasHad had y → x.name.session ≡ y.name.session
    → x.name.serial ≡ y.name.serial → (v : ℕ) → x.for_version v ≡ y.for_version v

-- Of the data that the cache had, what it sends leads from none to each, and from each to each of
-- its session, and is of payloads that the version has; from data to the same there are no changes.
pub record IsSource (D C : Type 0) (S : Source D C) (had : List (Edition D)) : Type 0 where
  pub all_lead :
      (v : ℕ) (x : Edition D) → WasHad had x
      → S.make None (S.delta None (x.for_version v)) ≡ Some (x.for_version v)
  pub changes_lead :
      (v : ℕ) (x y : Edition D) → WasHad had x → WasHad had y → x.name.session ≡ y.name.session
      → S.make (Some (x.for_version v)) (S.delta (Some (x.for_version v)) (y.for_version v))
      ≡ Some (y.for_version v)
  pub none_at_once :
      (v : ℕ) (x : Edition D) → WasHad had x
      → S.delta (Some (x.for_version v)) (x.for_version v) ≡ []
  pub is_payload : (change : C) → IsPayloadOf 2 (S.kind change)
  pub all_are :
      (v : ℕ) (x : Edition D) → WasHad had x
      → AreChangesOf C S.kind v (S.delta None (x.for_version v))
  pub changes_are :
      (v : ℕ) (x y : Edition D) → WasHad had x → WasHad had y → x.name.session ≡ y.name.session
      → AreChangesOf C S.kind v (S.delta (Some (x.for_version v)) (y.for_version v))

-- ---- what is sent

-- a unit on its way to the router, with the change that it is, if it is one
pub record Sent (C : Type 0) : Type 0 where
  pub head : Head
  pub body : List C

-- How many bytes a unit has that is neither a payload nor a report (sections 5.2 to 5.5, 5.8, 5.9;
-- of an end of data of version 0 RFC 6810 section 5.8).
abbrev pub fixed_size : (version : ℕ) → Kind → ℕ
fixed_size v kinds.SerialNotify = 12
fixed_size v kinds.SerialQuery = 12
fixed_size v kinds.ResetQuery = 8
fixed_size v kinds.CacheResponse = 8
fixed_size v kinds.CacheReset = 8
fixed_size v kinds.EndOfData = if v == 0 then 12 else 24
fixed_size v _ = 0

abbrev pub plain_head : Kind → (version session serial code : ℕ) → Head
plain_head kind v s n code = record {
  kind = kind;
  version = v;
  session = s;
  serial = n;
  code = record { 0 = code };
  refresh = 0;
  retry = 0;
  expire = 0;
  size = fixed_size v kind;
}

abbrev pub plain_unit : (C : Type 0) → Kind → (version session serial code : ℕ) → Sent C
plain_unit C kind v s n code = record { head = plain_head kind v s n code; body = [] }

abbrev pub change_unit : (D C : Type 0) → Source D C → (version : ℕ) → C → Sent C
change_unit D C S v b = record {
  head = record (plain_head (S.kind b) v 0 0 0) { size = S.size v b };
  body = b ∷ [];
}

-- in version 0 an end of data names no times (RFC 6810 section 5.8)
abbrev pub named_time : (version time : ℕ) → ℕ
named_time v n = if v == 0 then 0 else n

abbrev pub data_end : (D C : Type 0) → (version : ℕ) → Edition D → Sent C
data_end D C v p = record {
  head = record (plain_head kinds.EndOfData v p.name.session p.name.serial 0) {
    refresh = named_time v p.refresh;
    retry = named_time v p.retry;
    expire = named_time v p.expire;
  };
  body = [];
}

-- a response: what leads from these data, or from none, to the present ones, in a version
abbrev pub response : (D C : Type 0) → Source D C → (version : ℕ) → (present : Edition D) → Option D
    → List (Sent C)
response D C S v p old =
    plain_unit C kinds.CacheResponse v p.name.session 0 0
    ∷ (map (change_unit D C S v) (S.delta old (p.for_version v)) ++ data_end D C v p ∷ [])

-- a report of so many bytes
abbrev pub sized_report : (C : Type 0) → (version code size : ℕ) → Sent C
sized_report C v code m =
    record { head = record (plain_head kinds.ErrorReport v 0 0 code) { size = m }; body = [] }

-- a report, if one is owed
abbrev pub report_sent : (C : Type 0) → (size : ℕ) → Option OwedReport → List (Sent C)
report_sent C m None = []
report_sent C m (Some r) = sized_report C r.version r.code.0 m ∷ []

-- What the cache's caller writes, where changes are those from `old`. A report has some size, by
-- its text and the unit that it is about.
abbrev pub cache_writes : (D C : Type 0) → Source D C → (version size : ℕ) → (old : Edition D)
    → (present : Edition D) → Answer → List (Sent C)
cache_writes D C S v m old p answers.Wait = []
cache_writes D C S v m old p answers.All = response D C S v p None
cache_writes D C S v m old p (answers.Changes since) =
    response D C S v p (Some (old.for_version v))
cache_writes D C S v m old p answers.Reset = plain_unit C kinds.CacheReset v 0 0 0 ∷ []
cache_writes D C S v m old p answers.NoData = sized_report C v 2 m ∷ []
cache_writes D C S v m old p answers.Notify =
    plain_unit C kinds.SerialNotify v p.name.session p.name.serial 0 ∷ []
cache_writes D C S v m old p (answers.End x) = report_sent C m x.report

-- Changes are those from data that the cache had: of the present session, at the serial number that
-- its answer names.
abbrev pub AreFrom : {D : Type 0} → List (Edition D) → (present : Edition D) → Answer → Edition D
    → Type 0
AreFrom had p (answers.Changes since) old =
    WasHad had old × (old.name.session ≡ p.name.session) × (old.name.serial ≡ since)
AreFrom had p _ old = Unit {0}

-- what the router's caller writes; after a report the connection ends, and so it is left out
abbrev pub query_head : Query → Head
query_head q =
    plain_head (if q.changes then kinds.SerialQuery else kinds.ResetQuery) q.version q.session
    q.serial 0

abbrev pub router_writes : Action → List Head
router_writes (actions.Ask q) = query_head q ∷ []
router_writes _ = []

-- ---- the router's caller

-- the changes that units carry, each of them one or none, in their order
abbrev pub changes_of : {C : Type 0} → List (List C) → List C
changes_of units = flat_map (λ changes. changes) units

-- What it keeps of a unit is the change that the unit carries; it makes those of all units of a
-- response.
abbrev pub caller_of : (D C : Type 0) → Source D C → Settings → Caller (List C) D
caller_of D C S settings =
    record { settings = settings; make = λ old units last. S.make old (changes_of units) }

-- ---- runs

pub record World (D C : Type 0) : Type 0 where
  pub router : Router
  pub host : Host (List C) D
  pub cache : Cache
  pub present : Edition D
  -- what the cache had before, and has, the newest first
  pub had : List (Edition D)
  pub to_cache : List Head
  pub to_router : List (Sent C)

-- What a router is told of itself: time, its caller's wish, the end of a connection, a unit that is
-- refused, and what its caller did, if it did.
abbrev pub TellsItself : (D C : Type 0) → Host (List C) D → Event → Type 0
TellsItself D C h (events.Came u) = ⊥
TellsItself D C h events.Connected = ⊥
TellsItself D C h events.Applied = (d : D) × (h.made ≡ Some d)
TellsItself D C h _ = Unit {0}

-- what a cache is told beside units: time, new data, the end of a connection
abbrev pub TellsCache : CacheEvent → Type 0
TellsCache told.Tick = Unit {0}
TellsCache told.Lost = Unit {0}
TellsCache _ = ⊥

-- what a router does at a time and an event
abbrev pub RouterMoves : Type 1
RouterMoves = Router → ℕ → Event → Action → Router → Type 0

-- What may happen next, in any order and at any time, where both do this. The connection may be cut
-- anywhere, for the router, the cache, or both: what is on its way is lost with it.
pub data Next (D C : Type 0) (S : Source D C) (Does : RouterMoves) (Answers : CacheMoves) :
    World D C → World D C → Type 0 where
  router_told :
      (w : World D C) (n : ℕ) (e : Event) (a : Action) (r : Router)
      → TellsItself D C w.host e → Does w.router n e a r
      → Next D C S Does Answers w (record w {
        router = r;
        host = host_after (caller_of D C S w.router.settings) w.host [] a;
        to_cache = w.to_cache ++ router_writes a;
      })
  -- a connection is there; the cache's end of it is new
  connected :
      (w : World D C) (n : ℕ) (a : Action) (r : Router) (c : Cache)
      → w.router.phase ≡ phases.Connecting → c.asked ≡ false
      → Does w.router n events.Connected a r
      → Next D C S Does Answers w (record w {
        router = r;
        host = host_after (caller_of D C S w.router.settings) w.host [] a;
        cache = c;
        to_cache = router_writes a;
        to_router = [];
      })
  router_hears :
      (w : World D C) (n : ℕ) (x : Sent C) (xs : List (Sent C)) (a : Action) (r : Router)
      → w.to_router ≡ x ∷ xs → Does w.router n (events.Came x.head) a r
      → Next D C S Does Answers w (record w {
        router = r;
        host = host_after (caller_of D C S w.router.settings) w.host x.body a;
        to_cache = w.to_cache ++ router_writes a;
        to_router = xs;
      })
  cache_hears :
      (w : World D C) (n m : ℕ) (u : Head) (us : List Head) (kept : Bool) (a : Answer) (c : Cache)
      (old : Edition D)
      → w.to_cache ≡ u ∷ us → Answers w.cache n w.present.name (told.Came u kept) a c
      → AreFrom w.had w.present a old
      → Next D C S Does Answers w (record w {
        cache = c;
        to_cache = us;
        to_router = w.to_router ++ cache_writes D C S c.version m old w.present a;
      })
  -- by itself it sends no changes
  cache_told :
      (w : World D C) (n m : ℕ) (e : CacheEvent) (a : Answer) (c : Cache)
      → TellsCache e → Answers w.cache n w.present.name e a c
      → Next D C S Does Answers w (record w {
        cache = c;
        to_router = w.to_router ++ cache_writes D C S c.version m w.present w.present a;
      })
  -- new data at the cache, of any session and serial number
  renewed :
      (w : World D C) (p : Edition D)
      → Next D C S Does Answers w (record w { present = p; had = p ∷ w.had })

-- any run, from a router without data
pub data IsReachedBy (D C : Type 0) (S : Source D C) (Does : RouterMoves) (Answers : CacheMoves) :
    World D C → Type 0 where
  world_begins :
      (r : Router) (c : Cache) (p : Edition D)
      → r.phase ≡ phases.Offline → r.has_data ≡ false
      → IsReachedBy D C S Does Answers (record {
        router = r;
        host = empty_host;
        cache = c;
        present = p;
        had = p ∷ [];
        to_cache = [];
        to_router = [];
      })
  world_goes_on :
      (w w' : World D C) → IsReachedBy D C S Does Answers w → Next D C S Does Answers w w'
      → IsReachedBy D C S Does Answers w'

-- any run in which both do whatever their rules let them do, even where they have to do something
-- else
abbrev pub IsReached : (D C : Type 0) → Source D C → World D C → Type 0
IsReached D C S w = IsReachedBy D C S Rule CacheRule w

-- one in which both take their steps
abbrev pub IsLived : (D C : Type 0) → Source D C → World D C → Type 0
IsLived D C S w = IsReachedBy D C S IsStep IsCacheStep w

-- ---- what holds of them

-- what is shown are the data that the cache had under the router's session and serial number, as
-- the router's version has them
pub record Agrees (D C : Type 0) (w : World D C) : Type 0 where
  pub edition : Edition D
  pub was : WasHad w.had edition
  pub session : edition.name.session ≡ w.router.known.session
  pub serial : edition.name.serial ≡ w.router.known.serial
  pub same : w.host.shown ≡ Some (edition.for_version w.router.known.version)

-- where a router reads what comes
abbrev pub IsListening : Phase → Type 0
IsListening phases.Asked = Unit {0}
IsListening phases.Reading = Unit {0}
IsListening phases.Waiting = Unit {0}
IsListening _ = ⊥

-- what ends no connection
abbrev pub GoesOn : Action → Type 0
GoesOn (actions.End x) = ⊥
GoesOn _ = Unit {0}

-- What a cache of ours may send that ends a connection all the same is left out: a notify of
-- another session than that of the data, an end of data whose serial number comes before that of
-- the query (RFC 1982), a payload above the limits of an answer, a report but that there are no
-- data.
pub record IsPeaceful (r : Router) (u : Head) : Type 0 where
  pub session :
      r.phase ≡ phases.Waiting → u.kind ≡ kinds.SerialNotify → r.has_data ≡ true
      → u.session ≡ r.known.session
  pub order :
      u.kind ≡ kinds.EndOfData → r.changes ≡ true
      → serial_cmp u.serial r.known.serial ≢ Some Less
  pub room : IsPayloadOf r.version u.kind → HasRoom r u.size
  pub report : u.kind ≡ kinds.ErrorReport → (u.code.0 ≡ 2) × (u.version ≡ r.version)

-- the answer to a query of this kind, where there are data: all of them, for a reset query (section
-- 8.1); the changes, for a serial query whose changes can be told (section 8.2); or a cache reset
-- (section 8.3)
abbrev pub query_answer : Present → Head → (kept : Bool) → Kind → Answer
query_answer p u kept kinds.ResetQuery = answers.All
query_answer p u kept kinds.SerialQuery =
    if (u.session == p.session) && (kept || (u.serial == p.serial))
    then answers.Changes u.serial
    else answers.Reset
query_answer p u kept _ = answers.Wait

-- the answer to a query: there may be no data yet (section 8.4)
abbrev pub answer_to : Present → Head → (kept : Bool) → Answer
answer_to p u kept = if p.has then query_answer p u kept u.kind else answers.NoData

-- What a cache of ours ends all the same is left out: where the time for a query is over, where it
-- has begun another session, and where its caller chose a report in the place of cache resets.
pub record IsAnswering (c : Cache) (n : ℕ) (p : Present) : Type 0 where
  pub live : c.live ≡ true
  pub in_time : n < c.due
  pub session : p.has ≡ true → c.told ≡ true → c.session ≡ p.session
  pub resets : c.settings.refuses ≡ false
