-- A router and a cache of ours after the last disturbance, a cut or new data: from then on no
-- connection is cut, no new data come, and all that is sent comes in time.
use Rattle.std.specs.Prelude.{◌≡◌, ◌≢◌, ◌⊎◌, ◌≤◌, ◌+◌, ℕ, true, false, Bool, max, Option, Some}
use Rattle.std.specs.Prelude.{List, [], ◌∷◌, ◌++◌}
use Rattle.std.specs.declared.cmp.Ordering.TheVariants.{Less}
use Rattle.rtr_base.specs.Serial.{serial_cmp}
use Rattle.session_router.specs.declared.event.Action.{Action}
use Rattle.session_router.specs.declared.event.Action.TheVariants as actions
use Rattle.session_router.specs.declared.event.Event.{Event}
use Rattle.session_router.specs.declared.event.Event.TheVariants as events
use Rattle.session_router.specs.declared.head.Head.{Head}
use Rattle.session_router.specs.declared.head.Kind.TheVariants as kinds
use Rattle.session_router.specs.declared.router.Phase.TheVariants as phases
use Rattle.session_router.specs.declared.router.Router.{Router}
use Rattle.session_router.specs.Heeding.{HasRoom, IsNews}
use Rattle.session_router.specs.Histories.{Host, host_after}
use Rattle.session_router.specs.Pace.{wakes_at}
use Rattle.session_router.specs.Rules.{Fresh, IsPayloadOf}
use Rattle.session_router.specs.Step.{IsInTime, IsStep}
use Rattle.session_cache.specs.declared.cache.Cache.{Cache}
use Rattle.session_cache.specs.declared.event.Answer.{Answer}
use Rattle.session_cache.specs.declared.event.Answer.TheVariants as answers
use Rattle.session_cache.specs.declared.event.CacheEvent.TheVariants as told
use Rattle.session_cache.specs.declared.event.Present.{Present}
use Rattle.session_cache.specs.CacheSteps.{IsCacheStep, cache_wakes_at}
use Rattle.session_cache.specs.Serving.{HasNews}
use Rattle.session_cache.specs.Worlds.{AreFrom, Edition, IsListening, Sent, Source, World}
use Rattle.session_cache.specs.Worlds.{cache_writes, caller_of}
use Rattle.session_cache.specs.Worlds.{router_writes}

-- notifies of data of the present session
abbrev pub AreNotifies : (C : Type 0) → Present → List (Sent C) → Type 0
AreNotifies C p [] = Unit {0}
AreNotifies C p (x ∷ xs) =
    (x.head.kind ≡ kinds.SerialNotify) × (x.head.session ≡ p.session) × AreNotifies C p xs

-- Where a router may be: it has no connection, whatever is on its way; it makes one; it has asked,
-- and nothing but notifies is on its way to it; or it waits, and nothing but notifies is, of the
-- session of its data, if it has any.
pub data MayBeginCalm (D C : Type 0) (w : World D C) : Type 0 where
  offline_then : w.router.phase ≡ phases.Offline → MayBeginCalm D C w
  connecting_then : w.router.phase ≡ phases.Connecting → MayBeginCalm D C w
  asked_then :
      w.router.phase ≡ phases.Asked → AreNotifies C w.present.name w.to_router → MayBeginCalm D C w
  waiting_then :
      w.router.phase ≡ phases.Waiting → AreNotifies C w.present.name w.to_router
      → (w.router.has_data ≡ true → w.router.known.session ≡ w.present.name.session)
      → MayBeginCalm D C w

-- Where a router knows of some data of the session of the present ones, theirs isn't an earlier
-- serial number (RFC 1982). The cache has data.
pub record IsAtRest (D C : Type 0) (w : World D C) : Type 0 where
  pub rests : MayBeginCalm D C w
  pub has : w.present.name.has ≡ true
  pub order :
      w.router.known.session ≡ w.present.name.session
      → serial_cmp w.present.name.serial w.router.known.serial ≢ Some Less

-- A step of the router: not after it wakes, and before the limit of what is under way.
pub record IsOnTime (r : Router) (n n' : ℕ) : Type 0 where
  pub later : n ≤ n'
  pub awake : n' ≤ max n (wakes_at r)
  pub in_time : IsInTime r n'

-- time passes, the caller of the router wants the present data, or the changes of a whole answer
-- were made
abbrev pub TellsCalmly : (D C : Type 0) → Host (List C) D → Router → Event → Type 0
TellsCalmly D C h r events.Tick = Unit {0}
TellsCalmly D C h r events.Asked = Unit {0}
TellsCalmly D C h r events.Applied = (r.phase ≡ phases.Applying) × ((d : D) × (h.made ≡ Some d))
TellsCalmly D C h r _ = ⊥

-- the answers are within the limits of the router
abbrev pub HasRoomFor : Router → Head → Type 0
HasRoomFor r u = IsPayloadOf r.version u.kind → HasRoom r u.size

-- the cache ends no connection
abbrev pub StaysOpen : Answer → Type 0
StaysOpen (answers.End x) = ⊥
StaysOpen _ = Unit {0}

-- Where they are at a time of the router, if no data were shown since `start`. The cache has a
-- clock of its own: its steps come at any time.
pub data IsCalm (D C : Type 0) (S : Source D C) (before : World D C) (start : ℕ) :
    World D C → ℕ → Type 0 where
  calm_from : IsCalm D C S before start before start
  calm_told :
      (w : World D C) (n n' : ℕ) (e : Event) (a : Action) (r : Router)
      → IsCalm D C S before start w n → IsOnTime w.router n n'
      → TellsCalmly D C w.host w.router e → IsStep w.router n' e a r → a ≢ actions.Show
      → IsCalm D C S before start (record w {
        router = r;
        host = host_after (caller_of D C S w.router.settings) w.host [] a;
        to_cache = w.to_cache ++ router_writes a;
      }) n'
  -- a connection is there; the cache's end of it is new
  calm_connected :
      (w : World D C) (n n' : ℕ) (a : Action) (r : Router) (c : Cache)
      → IsCalm D C S before start w n → IsOnTime w.router n n'
      → w.router.phase ≡ phases.Connecting → c.asked ≡ false
      → IsStep w.router n' events.Connected a r
      → IsCalm D C S before start (record w {
        router = r;
        host = host_after (caller_of D C S w.router.settings) w.host [] a;
        cache = c;
        to_cache = router_writes a;
        to_router = [];
      }) n'
  calm_hears :
      (w : World D C) (n n' : ℕ) (x : Sent C) (xs : List (Sent C)) (a : Action) (r : Router)
      → IsCalm D C S before start w n → IsOnTime w.router n n'
      → w.to_router ≡ x ∷ xs → IsListening w.router.phase → HasRoomFor w.router x.head
      → IsStep w.router n' (events.Came x.head) a r
      → IsCalm D C S before start (record w {
        router = r;
        host = host_after (caller_of D C S w.router.settings) w.host x.body a;
        to_cache = w.to_cache ++ router_writes a;
        to_router = xs;
      }) n'
  calm_cache_hears :
      (w : World D C) (n k m : ℕ) (u : Head) (us : List Head) (kept : Bool) (a : Answer) (c : Cache)
      (old : Edition D)
      → IsCalm D C S before start w n → w.to_cache ≡ u ∷ us
      → IsCacheStep w.cache k w.present.name (told.Came u kept) a c → AreFrom w.had w.present a old
      → StaysOpen a
      → IsCalm D C S before start (record w {
        cache = c;
        to_cache = us;
        to_router = w.to_router ++ cache_writes D C S c.version m old w.present a;
      }) n
  calm_cache_told :
      (w : World D C) (n k m : ℕ) (a : Answer) (c : Cache)
      → IsCalm D C S before start w n
      → IsCacheStep w.cache k w.present.name told.Tick a c → StaysOpen a
      → IsCalm D C S before start (record w {
        cache = c;
        to_router = w.to_router ++ cache_writes D C S c.version m w.present w.present a;
      }) n

-- a notify of the present data, at a router that waits and has others, or none (section 8.2)
pub record IsNotified (r : Router) (p : Present) (u : Head) : Type 0 where
  pub waiting : r.phase ≡ phases.Waiting
  pub news : IsNews r u
  pub present : u.serial ≡ p.serial
  pub other : (r.has_data ≡ false) ⊎ (p.serial ≢ r.known.serial)

-- From `start` a cache, as it is then, has news for a router that waits (section 8.2). It sends the
-- notify when it wakes, at the latest; this takes the pipe no longer than d; and so the router,
-- which was r, hears it at the time `heard`. It is then the one of this world.
pub record IsToldOfNews (D C : Type 0) (start d : ℕ) (c : Cache) (r : Router) (heard : ℕ)
    (w : World D C) : Type 0 where
  pub live : c.live ≡ true
  pub news : HasNews c w.present.name
  pub sent : ℕ
  pub awake : sent ≤ max start (cache_wakes_at c w.present.name)
  pub delay : heard ≤ sent + d
  pub notify : Head
  pub is_notify : IsNotified r w.present.name notify
  pub fresh : Fresh r heard
  pub in_time : IsInTime r heard
  pub action : Action
  pub step : IsStep r heard (events.Came notify) action w.router

-- what is shown then: the present data of the cache, as the router's version has them
pub record ShowsPresent (D : Type 0) (p : Edition D) (r : Router) (shown : Option D) : Type 0 where
  pub session : r.known.session ≡ p.name.session
  pub serial : r.known.serial ≡ p.name.serial
  pub data_are : shown ≡ Some (p.for_version r.known.version)
