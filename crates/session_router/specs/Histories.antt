-- Whole answers, in the history of what came to a router and what it did, the newest first.
use Rattle.std.specs.Prelude.{◌≡◌, ◌≢◌, ℕ, true, false, ◌+◌, ◌<◌, if◌then◌else◌}
use Rattle.std.specs.Prelude.{Option, Some, None, List, [], ◌∷◌, ◌++◌}
use Rattle.std.specs.declared.cmp.Ordering.TheVariants.{Less}
use Rattle.rtr_base.specs.Serial.{serial_cmp}
use Rattle.session_router.specs.declared.head.Head.{Head}
use Rattle.session_router.specs.declared.head.Known.{Known}
use Rattle.session_router.specs.declared.head.Query.{Query}
use Rattle.session_router.specs.declared.head.Kind.TheVariants as kinds
use Rattle.session_router.specs.declared.settings.Settings.{Settings}
use Rattle.session_router.specs.declared.router.Router.{Router}
use Rattle.session_router.specs.declared.router.Phase.TheVariants as phases
use Rattle.session_router.specs.declared.event.Event.{Event}
use Rattle.session_router.specs.declared.event.Event.TheVariants as events
use Rattle.session_router.specs.declared.event.Action.{Action}
use Rattle.session_router.specs.declared.event.Action.TheVariants as actions
use Rattle.session_router.specs.Rules.{IsPayloadOf, known_of}
use Rattle.session_router.specs.Step.{IsStep}
use Rattle.session_router.specs.Times.{expire_ms}

-- What happened once: the time, the event, what the unit that came has beside its head, and what
-- the router did.
pub record Moment (Body : Type 0) : Type 0 where
  pub now : ℕ
  pub event : Event
  pub body : Body
  pub action : Action

abbrev pub at : {Body : Type 0} → ℕ → Event → Body → Action → Moment Body
at n e b a = record { now = n; event = e; body = b; action = a }

-- nothing came over the connection but perhaps a notify, and it wasn't lost, nor another one made
abbrev pub IsStill : Event → Type 0
IsStill (events.Came u) = u.kind ≡ kinds.SerialNotify
IsStill events.Lost = ⊥
IsStill (events.Faulty f) = ⊥
IsStill events.Connected = ⊥
IsStill _ = Unit {0}

-- the query was sent, and nothing has answered it yet
pub data IsOut {Body : Type 0} (q : Query) : List (Moment Body) → Type 0 where
  was_asked :
      (n : ℕ) (b : Body) (e : Event) (ms : List (Moment Body))
      → IsOut q (at n e b (actions.Ask q) ∷ ms)
  still_out :
      (n : ℕ) (b : Body) (e : Event) (ms : List (Moment Body)) → IsStill e → IsOut q ms
      → IsOut q (at n e b actions.Wait ∷ ms)

-- the query was answered by a cache response of version v and session s, and after that by these
-- payloads, each of version v; there may be more of them
pub data IsRead {Body : Type 0} (q : Query) (v s : ℕ) : List (Moment Body) → List Body →
    Type 0 where
  was_begun :
      (n : ℕ) (b : Body) (u : Head) (ms : List (Moment Body)) → IsOut q ms
      → u.kind ≡ kinds.CacheResponse → u.version ≡ v → u.session ≡ s
      → IsRead q v s (at n (events.Came u) b actions.Begin ∷ ms) []
  was_kept :
      (n : ℕ) (b : Body) (u : Head) (ms : List (Moment Body)) (bodies : List Body)
      → IsRead q v s ms bodies → IsPayloadOf v u.kind → u.version ≡ v
      → IsRead q v s (at n (events.Came u) b actions.Keep ∷ ms) (bodies ++ b ∷ [])
  still_read :
      (n : ℕ) (b : Body) (e : Event) (ms : List (Moment Body)) (bodies : List Body) → IsStill e
      → IsRead q v s ms bodies
      → IsRead q v s (at n e b actions.Wait ∷ ms) bodies

-- the answer is whole: an end of data of that version and session came, at this time
pub data WasAnswered {Body : Type 0} (q : Query) (k : Known) (since : ℕ) : List (Moment Body) →
    (bodies : List Body) → (last : Body) → Type 0 where
  was_ended :
      (n : ℕ) (b : Body) (u : Head) (ms : List (Moment Body)) (bodies : List Body)
      → IsRead q u.version u.session ms bodies → u.kind ≡ kinds.EndOfData → k ≡ known_of u
      → since ≡ n
      → WasAnswered q k since (at n (events.Came u) b (actions.Apply q.changes) ∷ ms) bodies b
  still_whole :
      (n : ℕ) (b : Body) (e : Event) (ms : List (Moment Body)) (bodies : List Body) (last : Body)
      → IsStill e → WasAnswered q k since ms bodies last
      → WasAnswered q k since (at n e b actions.Wait ∷ ms) bodies last

-- The query is for the changes since these data, and the answer is of their session and version,
-- and not of a serial number before theirs (RFC 1982).
pub record AnswersSince (q : Query) (old new : Known) : Type 0 where
  pub changes : q.changes ≡ true
  pub session : q.session ≡ old.session
  pub serial : q.serial ≡ old.serial
  pub version : q.version ≡ old.version
  pub new_session : new.session ≡ old.session
  pub new_version : new.version ≡ old.version
  pub order : serial_cmp new.serial old.serial ≢ Some Less

-- what leaves the data that are shown as they are
abbrev pub LeavesData : Action → Type 0
LeavesData actions.Show = ⊥
LeavesData actions.Drop = ⊥
LeavesData (actions.End x) = x.drop ≡ false
LeavesData _ = Unit {0}

-- what a caller may make of data, or of none, of the payloads of an answer whose end of data names
-- this, and of that end of data
abbrev pub Making : (Body Data : Type 0) → Type 1
Making Body Data = Known → Option Data → List Body → Body → Data → Type 0

-- The data that a router has by a history: what names them, when their end of data came, and the
-- data, which one whole answer made of no data, or of the data before it. They haven't expired: the
-- expire time runs from the receipt of the end of data (RFC 8210 section 6).
pub data HistoryHas {Body Data : Type 0} (s : Settings) (Makes : Making Body Data) :
    List (Moment Body) → Known → ℕ → Data → Type 0 where
  made_anew :
      (n : ℕ) (b : Body) (ms : List (Moment Body)) (q : Query) (k : Known) (since : ℕ)
      (bodies : List Body) (last : Body) (d : Data)
      → q.changes ≡ false → WasAnswered q k since ms bodies last → Makes k None bodies last d
      → n < since + expire_ms s k
      → HistoryHas s Makes (at n events.Applied b actions.Show ∷ ms) k since d
  made_of :
      (n : ℕ) (b : Body) (ms : List (Moment Body)) (q : Query) (k : Known) (since : ℕ)
      (bodies : List Body) (last : Body) (d : Data) (k₀ : Known) (n₀ : ℕ) (d₀ : Data)
      → HistoryHas s Makes ms k₀ n₀ d₀
      → AnswersSince q k₀ k → WasAnswered q k since ms bodies last
      → Makes k (Some d₀) bodies last d → n < since + expire_ms s k
      → HistoryHas s Makes (at n events.Applied b actions.Show ∷ ms) k since d
  still_had :
      (n : ℕ) (b : Body) (e : Event) (a : Action) (ms : List (Moment Body)) (k : Known) (n₀ : ℕ)
      (d₀ : Data)
      → HistoryHas s Makes ms k n₀ d₀ → LeavesData a → n < n₀ + expire_ms s k
      → HistoryHas s Makes (at n e b a ∷ ms) k n₀ d₀

-- What a caller set, and how it makes changes of data, or of none: by the payloads of an answer, in
-- their order, and its end of data. It may refuse.
pub record Caller (Body Data : Type 0) : Type 0 where
  pub settings : Settings
  pub make : Option Data → List Body → Body → Option Data

-- What a caller has: what it keeps of the response, what the changes made, and what it shows.
pub record Host (Body Data : Type 0) : Type 0 where
  pub kept : List Body
  pub made : Option Data
  pub shown : Option Data

abbrev pub empty_host : {Body Data : Type 0} → Host Body Data
empty_host = record { kept = []; made = None; shown = None }

-- what a caller does
abbrev pub host_after : {Body Data : Type 0} → Caller Body Data → Host Body Data → Body → Action →
    Host Body Data
host_after c h b actions.Begin = record { kept = []; made = h.made; shown = h.shown }
host_after c h b actions.Keep =
    record { kept = h.kept ++ b ∷ []; made = h.made; shown = h.shown }
host_after c h b (actions.Apply changes) =
    record {
      kept = h.kept;
      made = c.make (if changes then h.shown else None) h.kept b;
      shown = h.shown;
    }
host_after c h b actions.Show = record { kept = h.kept; made = h.made; shown = h.made }
host_after c h b actions.Drop = record { kept = h.kept; made = h.made; shown = None }
host_after c h b (actions.End x) =
    record { kept = h.kept; made = h.made; shown = if x.drop then None else h.shown }
host_after c h b _ = h

-- what a caller may say: that a connection is there only where it was to make one, and that all
-- changes were made only where they were
abbrev pub MaySay : {Body Data : Type 0} → Router → Host Body Data → Event → Type 0
MaySay {Body} {Data} r h events.Applied = (d : Data) × (h.made ≡ Some d)
MaySay r h events.Connected = r.phase ≡ phases.Connecting
MaySay r h _ = Unit {0}

-- a router as `new` makes it
pub record IsNew (s : Settings) (r : Router) : Type 0 where
  pub settings : r.settings ≡ s
  pub phase : r.phase ≡ phases.Offline
  pub has_data : r.has_data ≡ false
  pub due : r.due ≡ 0
  pub asked : r.asked ≡ 0
  pub rises : r.rises ≡ 0
  pub fell : r.fell ≡ false

-- any run of a router with these settings and its caller, whatever comes
pub data IsHistory {Body Data : Type 0} (c : Caller Body Data) :
    List (Moment Body) → Router → Host Body Data → Type 0 where
  run_begins : (r : Router) → IsNew c.settings r → IsHistory c [] r empty_host
  run_goes_on :
      (n : ℕ) (b : Body) (e : Event) (a : Action) (r' : Router) (ms : List (Moment Body))
      (r : Router) (h : Host Body Data)
      → IsHistory c ms r h → MaySay r h e → IsStep r n e a r'
      → IsHistory c (at n e b a ∷ ms) r' (host_after c h b a)

-- what the caller makes of them
abbrev pub Made : {Body Data : Type 0} → Caller Body Data → Making Body Data
Made c k old bodies last d = c.make old bodies last ≡ Some d

-- what is shown is what the history has, under this name
pub record IsAnswered {Body Data : Type 0} (c : Caller Body Data) (ms : List (Moment Body))
    (k : Known) (o : Option Data) : Type 0 where
  pub since : ℕ
  pub value : Data
  pub shows : o ≡ Some value
  pub has : HistoryHas c.settings (Made c) ms k since value
