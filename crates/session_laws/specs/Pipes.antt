-- A router and a cache of ours, joined by pipes of bytes that lose nothing while they are there.
use Rattle.std.specs.Prelude.{◌≡◌, ◌<◌, ◌^◌, ℕ, Bool, true, false, List, [], ◌∷◌, ◌++◌}
use Rattle.std.specs.Prelude.{Some, take, drop}
use Rattle.std.specs.List.{concat}
use Rattle.rtr_payload.specs.Payloads.{Payload}
use Rattle.rtr_payload.specs.Units.{IsUnit}
use Rattle.rtr_units.specs.End.{EndMeaning}
use Rattle.data_memory.specs.Data.{Change}
use Rattle.data_memory.specs.Deltas.{data_for, unit_of}
use Rattle.data_slices.specs.Canonical.{HoldsData}
use Rattle.session_router.specs.declared.event.Action.{Action}
use Rattle.session_router.specs.declared.event.Event.{Event}
use Rattle.session_router.specs.declared.event.Event.TheVariants as events
use Rattle.session_router.specs.declared.head.Head.{Head}
use Rattle.session_router.specs.declared.router.Phase.TheVariants as phases
use Rattle.session_router.specs.declared.router.Router.{Router}
use Rattle.session_router.specs.Histories.{Caller, Host, empty_host, host_after}
use Rattle.session_router.specs.Rules.{IsPayloadOf, known_of}
use Rattle.session_router.specs.Step.{IsStep}
use Rattle.session_cache.specs.declared.cache.Cache.{Cache}
use Rattle.session_cache.specs.declared.event.Answer.{Answer}
use Rattle.session_cache.specs.declared.event.CacheEvent.{CacheEvent}
use Rattle.session_cache.specs.CacheSteps.{IsCacheStep}
use Rattle.session_cache.specs.Worlds.{IsIn, IsLived, Sent, TellsCache, World}
use Rattle.session_bytes.specs.Heads.{HasHead, end_head}
use Rattle.session_bytes.specs.Reading.{Hears}
use Rattle.session_bytes.specs.Serving.{HearsRouter}
use Rattle.session_bytes.specs.declared.serving.Served.TheVariants as served
use Rattle.session_bytes.specs.declared.telling.Told.{Told}
use Rattle.session_bytes.specs.declared.telling.Told.TheVariants as told
use Rattle.session_laws.specs.Editions.{PayloadEdition, PayloadHost, edition_of, editions_of}
use Rattle.session_laws.specs.Editions.{payload_source}
use Rattle.session_laws.specs.Written.{CacheWrites, FitsAction, FitsEdition, IsSentFrom}
use Rattle.session_laws.specs.Written.{router_bytes}

-- ---- the router's caller

-- what it keeps, the units of a response as they came; what the changes made; what it shows
abbrev pub Bytes : Type 0
Bytes = List ℕ

-- these bytes of payload units are kept; they may be none
abbrev pub keeping : Host Bytes Bytes → List ℕ → Host Bytes Bytes
keeping h b = record { kept = h.kept ++ b ∷ []; made = h.made; shown = h.shown }

-- What it has after `tell` answered so of this input. Units that are kept before the one that makes
-- the machine act are dropped: where there are some, the action ends the connection (`alone` of
-- `Acts`), and what is kept is empty again when the next response begins.
abbrev pub host_told : Caller Bytes Bytes → Host Bytes Bytes → List ℕ → Told → Host Bytes Bytes
host_told c h input told.Awaits = h
host_told c h input (told.Kept k) = keeping h (take k input)
host_told c h input (told.Acted start end a) = host_after c h (drop start (take end input)) a
host_told c h input (told.Refused e a) = host_after c h [] a

-- what is left of the input
abbrev pub left_of : List ℕ → Told → List ℕ
left_of input told.Awaits = input
left_of input (told.Kept k) = drop k input
left_of input (told.Acted start end a) = drop end input
left_of input (told.Refused e a) = input

-- what it writes then
abbrev pub told_bytes : Told → List ℕ
told_bytes (told.Acted start end a) = router_bytes a
told_bytes (told.Refused e a) = router_bytes a
told_bytes _ = []

abbrev pub FitsTold : Told → Type 0
FitsTold (told.Acted start end a) = FitsAction a
FitsTold (told.Refused e a) = FitsAction a
FitsTold _ = Unit {0}

-- What a router is told of itself: time, its caller's wish, the end of a connection, and what its
-- caller did, if it did.
abbrev pub TellsOfItself : Host Bytes Bytes → Event → Type 0
TellsOfItself h (events.Came u) = ⊥
TellsOfItself h (events.Faulty f) = ⊥
TellsOfItself h events.Connected = ⊥
TellsOfItself h events.Applied = (d : List ℕ) × (h.made ≡ Some d)
TellsOfItself h _ = Unit {0}

-- ---- runs

pub record Joined : Type 0 where
  pub router : Router
  pub host : Host Bytes Bytes
  pub cache : Cache
  pub present : PayloadEdition
  -- what the cache had before, and has, the newest first
  pub had : List PayloadEdition
  -- the bytes on their way
  pub to_cache : List ℕ
  pub to_router : List ℕ

-- What may happen next, in any order and at any time. Each side has in its buffer a front of what
-- is on its way, as long as it happens to be there: `input`. The connection may be cut anywhere,
-- for the router, the cache, or both: what is on its way is lost with the next one, and `ended`
-- says that nothing more comes. A cut in the middle of an answer leaves a front of it.
pub data NextBytes (c : Caller Bytes Bytes) : Joined → Joined → Type 0 where
  told_router :
      (w : Joined) (n : ℕ) (e : Event) (a : Action) (r : Router)
      → TellsOfItself w.host e → IsStep w.router n e a r → FitsAction a
      → NextBytes c w (record w {
        router = r;
        host = host_after c w.host [] a;
        to_cache = w.to_cache ++ router_bytes a;
      })
  -- a connection is there; the cache's end of it is new
  joined_anew :
      (w : Joined) (n : ℕ) (a : Action) (r : Router) (new : Cache)
      → w.router.phase ≡ phases.Connecting → new.asked ≡ false
      → IsStep w.router n events.Connected a r → FitsAction a
      → NextBytes c w (record w {
        router = r;
        host = host_after c w.host [] a;
        cache = new;
        to_cache = router_bytes a;
        to_router = [];
      })
  heard_bytes :
      (w : Joined) (n : ℕ) (input later : List ℕ) (ended : Bool) (t : Told) (r : Router)
      → w.to_router ≡ input ++ later → Hears w.router n input ended t r → FitsTold t
      → NextBytes c w (record w {
        router = r;
        host = host_told c w.host input t;
        to_cache = w.to_cache ++ told_bytes t;
        to_router = left_of input t ++ later;
      })
  asked_in_bytes :
      (w : Joined) (n : ℕ) (kept input later : List ℕ) (ended : Bool) (size : ℕ) (a : Answer)
      (after : Cache) (b : List ℕ) (old : PayloadEdition)
      → w.to_cache ≡ input ++ later
      → HearsRouter w.cache n w.present.name kept input ended (served.Answered size a) after
      → after.version < 2 ^ 8 → IsSentFrom w.had w.present a old
      → CacheWrites after.version old w.present a b
      → NextBytes c w (record w {
        cache = after;
        to_cache = drop size input ++ later;
        to_router = w.to_router ++ b;
      })
  -- by itself it sends no changes
  told_cache :
      (w : Joined) (n : ℕ) (e : CacheEvent) (a : Answer) (after : Cache) (b : List ℕ)
      → TellsCache e → IsCacheStep w.cache n w.present.name e a after
      → after.version < 2 ^ 8 → CacheWrites after.version w.present w.present a b
      → NextBytes c w (record w { cache = after; to_router = w.to_router ++ b })
  -- new data at the cache, of any session and serial number
  data_renewed :
      (w : Joined) (p : PayloadEdition) → FitsEdition p
      → NextBytes c w (record w { present = p; had = p ∷ w.had })

-- any run, from a router without data
pub data IsRunInBytes (c : Caller Bytes Bytes) : Joined → Type 0 where
  pipes_begin :
      (r : Router) (new : Cache) (p : PayloadEdition)
      → r.phase ≡ phases.Offline → r.has_data ≡ false → FitsEdition p
      → IsRunInBytes c (record {
        router = r;
        host = empty_host;
        cache = new;
        present = p;
        had = p ∷ [];
        to_cache = [];
        to_router = [];
      })
  pipes_go_on : (w w' : Joined) → IsRunInBytes c w → NextBytes c w w' → IsRunInBytes c w'

-- ---- what holds of them

-- The bytes that are shown are data in canonical form: the payloads of the edition that the cache
-- had under the router's session and serial number, as the router's version has them, and an end of
-- data that names them.
pub record ShowsBytes (w : Joined) : Type 0 where
  pub edition : PayloadEdition
  pub has : edition.name.has ≡ true
  pub was : IsIn w.had edition
  pub session : edition.name.session ≡ w.router.known.session
  pub serial : edition.name.serial ≡ w.router.known.serial
  pub bytes : List ℕ
  pub shown : w.host.shown ≡ Some bytes
  pub end : EndMeaning
  pub holds : HoldsData bytes (data_for w.router.known.version edition.payloads) end
  pub named : known_of (end_head end 0) ≡ w.router.known

-- These are the bytes of a unit on its way to the router, of which the machine sees this. If it
-- carries a payload, it makes the change.
pub record IsOnItsWay (b : List ℕ) (x : Sent Change) : Type 0 where
  pub has : HasHead b x.head
  pub carries :
      (v : ℕ) → IsPayloadOf v x.head.kind
      → (c : Change) × (x.body ≡ c ∷ []) × IsUnit b (unit_of x.head.version c)

-- these lists of bytes are these units, one by one
abbrev pub AreOnTheirWay : List (List ℕ) → List (Sent Change) → Type 0
AreOnTheirWay [] [] = Unit {0}
AreOnTheirWay (b ∷ bs) (x ∷ xs) = IsOnItsWay b x × AreOnTheirWay bs xs
AreOnTheirWay _ _ = ⊥

abbrev pub AreQueries : List (List ℕ) → List Head → Type 0
AreQueries [] [] = Unit {0}
AreQueries (b ∷ bs) (u ∷ us) = HasHead b u × AreQueries bs us
AreQueries _ _ = ⊥

-- the same router, cache and data, with units on their way
abbrev pub as_units : Joined → PayloadHost → List Head → List (Sent Change)
    → World (List Payload) Change
as_units w h tc tr = record {
  router = w.router;
  host = h;
  cache = w.cache;
  present = edition_of w.present;
  had = editions_of w.had;
  to_cache = tc;
  to_router = tr;
}

-- A run in bytes is where a run of units is, and what is on its way are the bytes of the units that
-- are, one after the other.
pub record IsRunOfUnits (w : Joined) : Type 0 where
  -- what the router's caller has, in payloads; the queries and the units on their way
  pub host : PayloadHost
  pub heads : List Head
  pub sent : List (Sent Change)
  pub run :
      IsLived (List Payload) Change payload_source (as_units w host heads sent)
  -- and their bytes
  pub queries : List (List ℕ)
  pub to_cache : concat queries ≡ w.to_cache
  pub are_queries : AreQueries queries heads
  pub units : List (List ℕ)
  pub to_router : concat units ≡ w.to_router
  pub are_units : AreOnTheirWay units sent
