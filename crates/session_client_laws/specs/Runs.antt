-- A client and a cache of ours, joined by pipes of bytes that lose nothing while they are there.
use Rattle.std.specs.Prelude.{◌≡◌, ◌<◌, ◌≤◌, ◌+◌, ◌^◌, ℕ, Bool, true, false, List, [], ◌∷◌}
use Rattle.std.specs.Prelude.{◌++◌, length, take, drop, Option, Some, None}
use Rattle.rtr_units.specs.End.{EndMeaning}
use Rattle.data_memory.specs.Deltas.{data_for}
use Rattle.data_slices.specs.Canonical.{HoldsData}
use Rattle.session_router.specs.declared.event.Action.{Action}
use Rattle.session_router.specs.declared.event.Event.TheVariants as events
use Rattle.session_router.specs.declared.router.Phase.TheVariants as phases
use Rattle.session_router.specs.Heeding.{IsTalking}
use Rattle.session_router.specs.Histories.{Caller, Host}
use Rattle.session_router.specs.Rules.{known_of}
use Rattle.session_cache.specs.declared.cache.Cache.{Cache}
use Rattle.session_cache.specs.declared.event.Answer.{Answer}
use Rattle.session_cache.specs.declared.event.CacheEvent.{CacheEvent}
use Rattle.session_cache.specs.CacheSteps.{IsCacheStep}
use Rattle.session_cache.specs.Worlds.{IsIn, TellsCache}
use Rattle.session_bytes.specs.Heads.{end_head}
use Rattle.session_bytes.specs.Serving.{HearsRouter}
use Rattle.session_bytes.specs.ShownData.{AppliesAnswers}
use Rattle.session_bytes.specs.declared.serving.Served.TheVariants as served
use Rattle.session_client.specs.Holding.{Fits, SameThere, ShowsFront, untold}
use Rattle.session_client.specs.Makings.{Octets}
use Rattle.session_client.specs.Said.{Did}
use Rattle.session_client.specs.Tells.{TakesCall, Word, of_itself}
use Rattle.session_client.specs.Next.{IsTodoOf}
use Rattle.session_client.specs.declared.client.Client.{Client}
use Rattle.session_client.specs.declared.client.Holding.TheVariants as holdings
use Rattle.session_client.specs.declared.next.Todo.{Todo}
use Rattle.session_laws.specs.Editions.{PayloadEdition}
use Rattle.session_laws.specs.Pipes.{IsRunInBytes}
use Rattle.session_laws.specs.Written.{CacheWrites, FitsAction, FitsEdition, IsSentFrom}
use Rattle.session_laws.specs.Written.{router_bytes}

-- ---- the two, and what is between them

pub record Pair : Type 0 where
  pub client : Client
  pub input : Octets
  -- the data buffer that the data are in
  pub held : Octets
  pub cache : Cache
  pub present : PayloadEdition
  -- what the cache had before, and has, the newest first
  pub had : List PayloadEdition
  -- the bytes that the client put into its output, and the cache wasn't told of yet; what the cache
  -- sent, and the client didn't receive yet
  pub to_cache : Octets
  pub to_router : Octets

-- the query that an action puts into the output; after a report the connection ends
abbrev pub sent_by : Option Action → Octets
sent_by None = []
sent_by (Some a) = router_bytes a

abbrev pub FitsTaken : Option Action → Type 0
FitsTaken None = Unit {0}
FitsTaken (Some a) = FitsAction a

-- the machine is told that a connection was opened
abbrev pub IsOpening : Word → Type 0
IsOpening (of_itself events.Connected a) = Unit {0}
IsOpening w = ⊥

-- ---- what may happen next

-- One call of `next`, `ask_now` or `give_up`, as their contracts say: the machine takes this action
-- at most, and its query was put into the output.
pub record Calls (p : Pair) (client : Client) (input held : Octets) (a : Option Action) :
    Type 0 where
  pub now : ℕ
  pub todo : Todo
  pub is_todo : IsTodoOf a todo
  pub output : Octets
  pub output' : Octets
  pub did :
      Did a now p.client.router client.router p.client.unsent client.unsent output output'
  pub takes : TakesCall a now p.client p.input p.held client input held
  pub fits : FitsTaken a

-- In any order and at any time. The connection may be cut anywhere, for the client, the cache, or
-- both: what is on its way is lost with the next one.
pub data Goes : Pair → Pair → Type 0 where
  calls :
      (p : Pair) (k : Client) (input held : Octets) (a : Option Action)
      → (x : Calls p k input held a) → (IsOpening x.takes.word → ⊥)
      → Goes p (record p {
        client = k;
        input = input;
        held = held;
        to_cache = p.to_cache ++ sent_by a;
      })
  -- a connection is there; the cache's end of it is new
  opens :
      (p : Pair) (k : Client) (input held : Octets) (a : Option Action) (new : Cache)
      → (x : Calls p k input held a) → IsOpening x.takes.word → new.asked ≡ false
      → Goes p (record p {
        client = k;
        input = input;
        held = held;
        cache = new;
        to_cache = sent_by a;
        to_router = [];
      })
  -- the caller reads some bytes into the input, and calls `received`
  takes_bytes :
      (p : Pair) (size : ℕ) (input piece later : Octets)
      → IsTalking p.client.router → Fits p.client input
      → p.client.filled + size ≤ length input
      → take p.client.filled p.input ≡ take p.client.filled input
      → take size (drop p.client.filled input) ≡ piece → p.to_router ≡ piece ++ later
      → Goes p (record p {
        client = record p.client { filled = p.client.filled + size };
        input = input;
        to_router = later;
      })
  -- `opened`, `closed` and `sent`
  says :
      (p : Pair) (opened closed : Bool) (unsent : ℕ)
      → Goes p (record p {
        client = record p.client { opened = opened; closed = closed; unsent = unsent };
      })
  -- the caller moves its buffers, or makes them longer
  moves :
      (p : Pair) (input held : Octets)
      → Fits p.client p.input → SameThere p.client p.input input p.held held
      → Goes p (record p { input = input; held = held })
  asks :
      (p : Pair) (n : ℕ) (kept input later : Octets) (ended : Bool) (size : ℕ) (a : Answer)
      (after : Cache) (b : Octets) (old : PayloadEdition)
      → p.to_cache ≡ input ++ later
      → HearsRouter p.cache n p.present.name kept input ended (served.Answered size a) after
      → after.version < 2 ^ 8 → IsSentFrom p.had p.present a old
      → CacheWrites after.version old p.present a b
      → Goes p (record p {
        cache = after;
        to_cache = drop size input ++ later;
        to_router = p.to_router ++ b;
      })
  -- by itself the cache sends no changes
  tells_cache :
      (p : Pair) (n : ℕ) (e : CacheEvent) (a : Answer) (after : Cache) (b : Octets)
      → TellsCache e → IsCacheStep p.cache n p.present.name e a after
      → after.version < 2 ^ 8 → CacheWrites after.version p.present p.present a b
      → Goes p (record p { cache = after; to_router = p.to_router ++ b })
  -- new data at the cache, of any session and serial number
  renews :
      (p : Pair) (e : PayloadEdition) → FitsEdition e
      → Goes p (record p { present = e; had = e ∷ p.had })

-- a client as `new` and `again` make it
pub record IsNewClient (k : Client) : Type 0 where
  pub phase : k.router.phase ≡ phases.Offline
  pub has_data : k.router.has_data ≡ false
  pub holding : k.holding ≡ holdings.Nothing
  pub kept : k.kept ≡ 0
  pub filled : k.filled ≡ 0
  pub shown : k.shown ≡ None

-- any run, from a client without data
pub data IsRunOfClient : Pair → Type 0 where
  pair_begins :
      (k : Client) (input held : Octets) (new : Cache) (e : PayloadEdition)
      → IsNewClient k → FitsEdition e
      → IsRunOfClient (record {
        client = k;
        input = input;
        held = held;
        cache = new;
        present = e;
        had = e ∷ [];
        to_cache = [];
        to_router = [];
      })
  pair_goes_on : (p p' : Pair) → IsRunOfClient p → Goes p p' → IsRunOfClient p'

-- ---- what holds of them

-- The client's machine, a caller that makes changes as `apply_in_order` does, and the cache are
-- where a run in bytes is. The data buffer begins with what the caller shows. What is on its way to
-- the machine are the bytes that it wasn't told of yet, and behind them those that the client
-- didn't receive yet.
pub record RunsInBytes (p : Pair) : Type 0 where
  pub caller : Caller Octets Octets
  pub applies : AppliesAnswers caller
  pub host : Host Octets Octets
  pub on_its_way : Octets
  pub run :
      IsRunInBytes caller (record {
        router = p.client.router;
        host = host;
        cache = p.cache;
        present = p.present;
        had = p.had;
        to_cache = p.to_cache;
        to_router = on_its_way;
      })
  pub shows : ShowsFront host.shown p.client.shown p.held
  pub comes :
      IsTalking p.client.router → on_its_way ≡ untold p.client p.input ++ p.to_router

-- The data buffer begins with data in canonical form: the payloads of the edition that the cache
-- had under the session and serial number of the data, as the client's version has them, and an end
-- of data that names them.
pub record ShowsHad (p : Pair) : Type 0 where
  pub edition : PayloadEdition
  pub has : edition.name.has ≡ true
  pub was : IsIn p.had edition
  pub session : edition.name.session ≡ p.client.router.known.session
  pub serial : edition.name.serial ≡ p.client.router.known.serial
  pub size : ℕ
  pub shown : p.client.shown ≡ Some size
  pub end : EndMeaning
  pub holds :
      HoldsData (take size p.held)
      (data_for p.client.router.known.version edition.payloads) end
  pub named : known_of (end_head end 0) ≡ p.client.router.known
