-- A run of a router and a cache that the prover computes, so that the premises of the laws over
-- both are seen to be met.
use Rattle.std.proofs.Common.{◌≡◌, ◌⊎◌, ℕ, Bool, true, false, if◌then◌else◌, ◌==◌, refl}
use Rattle.std.proofs.Common.{Option, Some, None, List, [], ◌∷◌, inl, inr, subst, sym, ap, ◌∙◌}
use Rattle.std.proofs.Common.{arith}
use Rattle.std.proofs.lemmas.Bool.Decides.{eqb_tells}
use Rattle.session_router.specs.declared.event.Action.{Action}
use Rattle.session_router.specs.declared.event.Action.TheVariants as actions
use Rattle.session_router.specs.declared.event.Event.TheVariants as events
use Rattle.session_router.specs.declared.head.Head.{Head}
use Rattle.session_router.specs.declared.head.Kind.TheVariants as kinds
use Rattle.session_router.specs.declared.router.Router.{Router}
use Rattle.session_router.specs.declared.settings.Settings.{Settings}
use Rattle.session_router.specs.After.{new_router, router_after}
use Rattle.session_router.specs.Histories.{empty_host}
use Rattle.session_router.specs.Rules.{Rule, query}
use Rattle.session_router.specs.Step.{IsStep}
use Rattle.session_cache.specs.declared.cache.Cache.{Cache}
use Rattle.session_cache.specs.declared.event.Answer.{Answer}
use Rattle.session_cache.specs.declared.event.Answer.TheVariants as answers
use Rattle.session_cache.specs.declared.event.CacheEvent.TheVariants as told
use Rattle.session_cache.specs.CacheRules.{CacheRule, heard, informed}
use Rattle.session_cache.specs.CacheSteps.{IsCacheStep}
use Rattle.session_cache.specs.Worlds.{Agrees, AreChangesOf, Edition, GoesOn, IsIn}
use Rattle.session_cache.specs.Worlds.{IsOneDataPerName, IsReached, IsSource, Sent, Source, World}
use Rattle.session_cache.specs.Worlds.{cache_writes}
use Rattle.session_cache.specs.Worlds.{change_unit, data_end}
use Rattle.session_cache.specs.Worlds.{plain_unit, query_head}
use Rattle.session_cache.specs.Worlds.IsReachedBy.{world_begins, world_goes_on}
use Rattle.session_cache.specs.Worlds.Next.{cache_hears, connected, router_hears, router_told}
use Rattle.session_cache.proofs.Agreement.{agreement}
use Rattle.session_cache.proofs.Examples.{cache₀, named}
use Rattle.session_cache.proofs.Peace.{peace, queries_answered}

-- ---- data: a number, the serial number itself; a change makes it another

abbrev made : Option ℕ → List ℕ → Option ℕ
made old [] = old
made old (c ∷ cs) = Some c

abbrev changed : Option ℕ → ℕ → List ℕ
changed None d = d ∷ []
changed (Some old) d = if old == d then [] else d ∷ []

abbrev pub source : Source ℕ ℕ
source = record { make = made; delta = changed; kind = λ c. kinds.Prefix; size = λ v c. 20 }

-- the data of a session and a serial number
abbrev pub edition : (session serial : ℕ) → Edition ℕ
edition s n = record {
  name = named s n;
  for_version = λ v. n;
  refresh = 3600;
  retry = 600;
  expire = 7200;
}

leads : (m n : ℕ) → made (Some m) (if m == n then [] else n ∷ []) ≡ Some n
leads m n = go (eqb_tells m n)
  where
    go : (((m == n) ≡ true) × (m ≡ n)) ⊎ (((m == n) ≡ false) × (m ≡ n → ⊥))
        → made (Some m) (if m == n then [] else n ∷ []) ≡ Some n
    go (inl d) =
        subst (λ t. made (Some m) (if t then [] else n ∷ []) ≡ Some n) (sym d.0) (ap Some d.1)
    go (inr d) = subst (λ t. made (Some m) (if t then [] else n ∷ []) ≡ Some n) (sym d.0) refl

none_then : (n : ℕ) → (if n == n then [] else n ∷ []) ≡ []
none_then n = go (eqb_tells n n)
  where
    go : (((n == n) ≡ true) × (n ≡ n)) ⊎ (((n == n) ≡ false) × (n ≡ n → ⊥))
        → (if n == n then [] else n ∷ []) ≡ []
    go (inl d) = subst (λ t. (if t then [] else n ∷ []) ≡ []) (sym d.0) refl
    go (inr d) = absurd (d.1 refl)

are_prefixes : (v m n : ℕ) → AreChangesOf ℕ (λ c. kinds.Prefix) v (if m == n then [] else n ∷ [])
are_prefixes v m n = go (m == n)
  where
    go : (t : Bool) → AreChangesOf ℕ (λ c. kinds.Prefix) v (if t then [] else n ∷ [])
    go true = tt
    go false = (tt, tt)

pub is_source : (had : List (Edition ℕ)) → IsSource ℕ ℕ source had
is_source had = record {
  all_lead = λ v x was. refl;
  changes_lead = λ v x y wx wy s. leads (x.for_version v) (y.for_version v);
  none_at_once = λ v x was. none_then (x.for_version v);
  is_payload = λ c. tt;
  all_are = λ v x was. (tt, tt);
  changes_are = λ v x y wx wy s. are_prefixes v (x.for_version v) (y.for_version v);
}

-- the cache had one
pub is_one : IsOneDataPerName (edition 7 5 ∷ [])
is_one x y wx wy s n v = same wx.1 wy.1
  where
    same : IsIn (edition 7 5 ∷ []) x → IsIn (edition 7 5 ∷ []) y
        → x.for_version v ≡ y.for_version v
    same (inl a) (inl b) = ap (λ (z : Edition ℕ). z.for_version v) (sym a ∙ b)
    same (inr a) b = absurd a
    same (inl a) (inr b) = absurd b

-- ---- a router of version 2 without data, and its steps

abbrev pub settings : Settings
settings = record {
  highest = 2;
  pause = 1000;
  connect_limit = 30000;
  response_limit = 120000;
  refresh = 0;
  retry = 0;
  expire = 0;
  most_units = 4000000;
  most_bytes = 134217728;
  chance = 0;
}

abbrev pub response_head : Head
response_head = (plain_unit ℕ kinds.CacheResponse 2 7 0 0).head

abbrev pub payload_head : Head
payload_head = (change_unit ℕ ℕ source 2 5).head

abbrev pub end_head : Head
end_head = (data_end ℕ ℕ 2 (edition 7 5)).head

abbrev pub router₀ : Router
router₀ = new_router settings

abbrev pub connecting : Router
connecting = router_after router₀ 0 events.Tick actions.Connect

abbrev pub asked : Router
asked = router_after connecting 10 events.Connected
    (actions.Ask (record { changes = false; version = 2; session = 0; serial = 0 }))

abbrev pub reading : Router
reading = router_after asked 30 (events.Came response_head) actions.Begin

abbrev pub keeping : Router
keeping = router_after reading 31 (events.Came payload_head) actions.Keep

abbrev pub applying : Router
applying = router_after keeping 32 (events.Came end_head) (actions.Apply false)

abbrev pub waiting : Router
waiting = router_after applying 33 events.Applied actions.Show

abbrev pub cache₁ : Cache
cache₁ = informed (heard cache₀ 20 2) (named 7 5)

-- ---- the run: a connection, a reset query, all data, and they are shown

abbrev pub world₀ : World ℕ ℕ
world₀ = record {
  router = router₀;
  host = empty_host;
  cache = cache₀;
  present = edition 7 5;
  had = edition 7 5 ∷ [];
  to_cache = [];
  to_router = [];
}

abbrev pub world₁ : World ℕ ℕ
world₁ = record world₀ { router = connecting }

abbrev pub world₂ : World ℕ ℕ
world₂ = record world₁ { router = asked; to_cache = query_head (query asked) ∷ [] }

abbrev answer : List (Sent ℕ)
answer = cache_writes ℕ ℕ source 2 0 (edition 7 5) (edition 7 5) answers.All

abbrev pub world₃ : World ℕ ℕ
world₃ = record world₂ { cache = cache₁; to_cache = []; to_router = answer }

abbrev pub world₄ : World ℕ ℕ
world₄ = record world₃ {
  router = reading;
  to_router = change_unit ℕ ℕ source 2 5 ∷ data_end ℕ ℕ 2 (edition 7 5) ∷ [];
}

abbrev pub world₅ : World ℕ ℕ
world₅ = record world₄ {
  router = keeping;
  host = record { kept = (5 ∷ []) ∷ []; made = None; shown = None };
  to_router = data_end ℕ ℕ 2 (edition 7 5) ∷ [];
}

abbrev pub world₆ : World ℕ ℕ
world₆ = record world₅ {
  router = applying;
  host = record { kept = (5 ∷ []) ∷ []; made = Some 5; shown = None };
  to_router = [];
}

abbrev pub world₇ : World ℕ ℕ
world₇ = record world₆ {
  router = waiting;
  host = record { kept = (5 ∷ []) ∷ []; made = Some 5; shown = Some 5 };
}

pub connects : Rule router₀ 0 events.Tick actions.Connect connecting
connects = record {
  same = record { has_data = refl; known = refl; expires = refl };
  from = refl;
  due = omega arith;
  phase = refl;
  version = refl;
  agreed = refl;
  floor = refl;
  resync = refl;
}

pub asks : Rule connecting 10 events.Connected (actions.Ask (query asked)) asked
asks = record {
  same = record { has_data = refl; known = refl; expires = refl };
  phase = refl;
  query = refl;
  own = λ e. cc;
  all = λ e. inl refl;
  may = (refl, refl, refl, refl);
  agreed = λ e. cc;
  version = refl;
  noted = refl;
}

pub gives_all : CacheRule cache₀ 20 (named 7 5) (told.Came (query_head (query asked)) false)
    answers.All
    cache₁
gives_all = (
  refl,
  record {
    query = record {
      kind = refl;
      version = record { most = omega arith; same = λ e. cc };
      has = refl;
      session = λ e. cc;
    };
    after = refl;
  },
)

pub begins : Rule asked 30 (events.Came response_head) actions.Begin reading
begins = record {
  same = record { has_data = refl; known = refl; expires = refl };
  kind = refl;
  from = refl;
  phase = refl;
  version = refl;
  session = refl;
  may = record { most = omega arith; agreed = λ e. refl; changes = λ e. refl };
  agreed = refl;
  floor = refl;
  changes = refl;
  resync = refl;
  own = λ e. cc;
  units = refl;
  bytes = refl;
  noted = refl;
  note = refl;
}

pub keeps : Rule reading 31 (events.Came payload_head) actions.Keep keeping
keeps = record {
  same = record { has_data = refl; known = refl; expires = refl };
  talk = record {
    phase = refl;
    version = refl;
    agreed = refl;
    silent = refl;
    floor = refl;
    changes = refl;
    resync = refl;
    session = refl;
    answer = refl;
    came = refl;
  };
  phase = refl;
  version = refl;
  kind = tt;
  units = refl;
  bytes = refl;
  most_units = omega arith;
  most_bytes = omega arith;
  noted = refl;
  note = refl;
}

pub completes : Rule keeping 32 (events.Came end_head) (actions.Apply false) applying
completes = record {
  same = record { has_data = refl; known = refl; expires = refl };
  from = refl;
  phase = refl;
  kind = refl;
  version = refl;
  session = refl;
  base = refl;
  order = λ e. cc;
  news = λ e. cc;
  same_changes = refl;
  answer = refl;
  came = refl;
  noted = refl;
  note = refl;
  same_version = refl;
  agreed = λ e. refl;
  floor = refl;
  resync = refl;
}

pub adopts : Rule applying 33 events.Applied actions.Show waiting
adopts = record {
  from = refl;
  phase = refl;
  has_data = refl;
  known = refl;
  expires = refl;
  same_version = refl;
  agreed = λ e. refl;
  floor = refl;
  resync = refl;
}

run₀ : IsReached ℕ ℕ source world₀
run₀ = world_begins router₀ cache₀ (edition 7 5) refl refl

run₁ : IsReached ℕ ℕ source world₁
run₁ = world_goes_on world₀ world₁ run₀
    (router_told world₀ 0 events.Tick actions.Connect connecting tt connects)

run₂ : IsReached ℕ ℕ source world₂
run₂ = world_goes_on world₁ world₂ run₁
    (connected world₁ 10 (actions.Ask (query asked)) asked cache₀ refl refl asks)

run₃ : IsReached ℕ ℕ source world₃
run₃ = world_goes_on world₂ world₃ run₂
    (cache_hears world₂ 20 0 (query_head (query asked)) [] false answers.All cache₁ (edition 7 5)
    refl gives_all tt)

run₄ : IsReached ℕ ℕ source world₄
run₄ = world_goes_on world₃ world₄ run₃
    (router_hears world₃ 30 (plain_unit ℕ kinds.CacheResponse 2 7 0 0) world₄.to_router
    actions.Begin reading refl begins)

run₅ : IsReached ℕ ℕ source world₅
run₅ = world_goes_on world₄ world₅ run₄
    (router_hears world₄ 31 (change_unit ℕ ℕ source 2 5) world₅.to_router actions.Keep keeping refl
    keeps)

run₆ : IsReached ℕ ℕ source world₆
run₆ = world_goes_on world₅ world₆ run₅
    (router_hears world₅ 32 (data_end ℕ ℕ 2 (edition 7 5)) [] (actions.Apply false) applying
    refl completes)

run₇ : IsReached ℕ ℕ source world₇
run₇ = world_goes_on world₆ world₇ run₆
    (router_told world₆ 33 events.Applied actions.Show waiting (5, refl) adopts)

-- `agreement`: what is shown is what the cache had under session 7 and serial number 5
agrees_so : Agrees ℕ ℕ world₇
agrees_so = agreement ℕ ℕ source world₇ (is_source world₇.had) is_one run₇ refl

shown_so : (world₇.router.known.session ≡ 7) × ((world₇.router.known.serial ≡ 5)
    × (world₇.host.shown ≡ Some 5))
shown_so = (refl, (refl, refl))

-- `queries_are_answered`: the reset query of world₂
answers_so : (a : Answer) (c : Cache)
    → IsCacheStep cache₀ 20 (named 7 5) (told.Came (query_head (query asked)) false) a c
    → a ≡ answers.All
answers_so a c step =
    queries_answered ℕ ℕ source world₂ (is_source world₂.had) is_one (query_head (query asked)) []
    false 20 a c run₂
    refl refl (omega arith)
    (record { live = refl; in_time = omega arith; session = λ h t. cc; resets = refl }) step

-- `peace`: the cache response of world₃
goes_on_so : (a : Action) (r : Router) → IsStep asked 30 (events.Came response_head) a r → GoesOn a
goes_on_so a r step =
    peace ℕ ℕ source world₃ (is_source world₃.had) is_one (plain_unit ℕ kinds.CacheResponse 2 7 0 0)
    world₄.to_router 30
    a r run₃ refl tt (λ e. cc) (λ l. omega arith, λ e. cc)
    (record { session = λ e. cc; order = λ e. cc; room = λ p. absurd p; report = λ e. cc }) step
