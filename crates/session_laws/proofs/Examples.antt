-- A run of a router and a cache that the prover computes, in payloads and in bytes, so that the
-- premises of `payloads_agree`, `bytes_agree` and `bytes_are_units` are seen to be met: a reset
-- query, a cache response, a prefix and an end of data.
use native.Mathlib.Omega.{arith}
use Rattle.std.proofs.Common.{◌≡◌, ℕ, ◌<◌, false, Some, None, List, [], ◌∷◌}
use Rattle.std.proofs.Common.{◌++◌, refl, sym, ap, ◌∙◌, inl, inr, lit<, lit≤}
use Rattle.std.specs.List.Sorted.{IsStrictlySortedBy}
use Rattle.rtr_payload.specs.Payloads.{Payload}
use Rattle.rtr_payload.proofs.Apart.{begins_apart}
use Rattle.unit_any.specs.AnyFields.{reset_query}
use Rattle.data_memory.specs.Data.{Change, IsData, announcement}
use Rattle.session_router.specs.declared.event.Action.TheVariants as actions
use Rattle.session_router.specs.declared.event.Event.TheVariants as events
use Rattle.session_router.specs.declared.head.Kind.TheVariants as kinds
use Rattle.session_router.specs.Histories.{empty_host}
use Rattle.session_router.specs.Rules.{query}
use Rattle.session_cache.specs.declared.event.Answer.TheVariants as answers
use Rattle.session_cache.specs.Worlds.{Edition, IsIn, IsOneDataPerName, IsReached, Sent, World}
use Rattle.session_cache.specs.Worlds.{change_unit, data_end, plain_unit, query_head}
use Rattle.session_cache.specs.Worlds.IsReachedBy.{world_begins, world_goes_on}
use Rattle.session_cache.specs.Worlds.Next.{cache_hears, connected, router_hears, router_told}
use Rattle.session_cache.proofs.Examples.{cache₀, named}
use Rattle.session_cache.proofs.ExampleCalm.{adopts_so, asks_so, begins_so, completes_so}
use Rattle.session_cache.proofs.ExampleCalm.{connects_so}
use Rattle.session_cache.proofs.ExampleCalm.{gives_all_so, keeps_so}
use Rattle.session_cache.proofs.ExampleWorlds.{adopts, applying, asked, asks, begins, cache₁}
use Rattle.session_cache.proofs.ExampleWorlds.{completes}
use Rattle.session_cache.proofs.ExampleWorlds.{connecting, connects, gives_all, keeping, keeps}
use Rattle.session_cache.proofs.ExampleWorlds.{reading}
use Rattle.session_cache.proofs.ExampleWorlds.{end_head, payload_head, response_head, router₀}
use Rattle.session_cache.proofs.ExampleWorlds.{waiting}
use Rattle.session_bytes.specs.Heads.{HasHead}
use Rattle.session_bytes.specs.Reading.{kept_more, kept_none}
use Rattle.session_bytes.specs.declared.telling.Told.TheVariants as told
use Rattle.session_bytes.proofs.Examples.{applies, caller, data_bytes, end, end_bytes}
use Rattle.session_bytes.proofs.Examples.{end_has_head, is_end}
use Rattle.session_bytes.proofs.Examples.{kept_host, made_host, prefix, prefix_bytes, prefix_has}
use Rattle.session_bytes.proofs.Examples.{response_bytes, response_has, shown_host}
use Rattle.session_laws.specs.Editions.{PayloadEdition, PayloadHost, ShowsEdition, edition_of}
use Rattle.session_laws.specs.Editions.{editions_of, payload_source}
use Rattle.session_laws.specs.Pipes.{IsRunInBytes, IsRunOfUnits, Joined, ShowsBytes}
use Rattle.session_laws.specs.Pipes.NextBytes.{asked_in_bytes, heard_bytes, joined_anew}
use Rattle.session_laws.specs.Pipes.NextBytes.{told_router}
use Rattle.session_laws.specs.Pipes.IsRunInBytes.{pipes_begin, pipes_go_on}
use Rattle.session_laws.specs.Written.{FitsEdition, router_bytes}
use Rattle.session_laws.proofs.Agreeing.{shows, units}
use Rattle.session_laws.proofs.Payloads.{payloads_agree}
use Rattle.session_laws.proofs.Writing.{bare_bytes}

-- ---- the data of the cache

pub is_data : IsData (prefix ∷ [])
unfolding IsStrictlySortedBy
is_data = (tt, tt)

abbrev pub edition : PayloadEdition
edition = record {
  name = named 7 5;
  payloads = prefix ∷ [];
  are_data = is_data;
  refresh = 3600;
  retry = 600;
  expire = 7200;
}

-- the cache had one
pub is_one : IsOneDataPerName (editions_of (edition ∷ []))
is_one x y wx wy s n v = same wx.1 wy.1
  where
    same : IsIn (editions_of (edition ∷ [])) x → IsIn (editions_of (edition ∷ [])) y
        → x.for_version v ≡ y.for_version v
    same (inl a) (inl b) = ap (λ (z : Edition (List Payload)). z.for_version v) (sym a ∙ b)
    same (inr a) b = absurd a
    same (inl a) (inr b) = absurd b

-- ---- in payloads

abbrev change : Change
change = announcement prefix

abbrev PayloadWorld : Type 0
PayloadWorld = World (List Payload) Change

abbrev IsRun : PayloadWorld → Type 0
IsRun w = IsReached (List Payload) Change payload_source w

abbrev prefix_unit : Sent Change
prefix_unit = change_unit (List Payload) Change payload_source 2 change

abbrev last_unit : Sent Change
last_unit = data_end (List Payload) Change 2 (edition_of edition)

abbrev world₀ : PayloadWorld
world₀ = record {
  router = router₀;
  host = empty_host;
  cache = cache₀;
  present = edition_of edition;
  had = editions_of (edition ∷ []);
  to_cache = [];
  to_router = [];
}

abbrev world₂ : PayloadWorld
world₂ = record world₀ { router = asked; to_cache = query_head (query asked) ∷ [] }

abbrev world₃ : PayloadWorld
world₃ = record world₂ {
  cache = cache₁;
  to_cache = [];
  to_router = plain_unit Change kinds.CacheResponse 2 7 0 0 ∷ prefix_unit ∷ last_unit ∷ [];
}

abbrev kept : PayloadHost
kept = record { kept = (change ∷ []) ∷ []; made = None; shown = None }

abbrev world₅ : PayloadWorld
world₅ = record world₃ { router = keeping; host = kept; to_router = last_unit ∷ [] }

abbrev world₇ : PayloadWorld
world₇ = record world₃ {
  router = waiting;
  host = record {
    kept = (change ∷ []) ∷ [];
    made = Some (prefix ∷ []);
    shown = Some (prefix ∷ []);
  };
  to_router = [];
}

run₂ : IsRun world₂
run₂ = world_goes_on (record world₀ { router = connecting }) world₂
    (world_goes_on world₀ (record world₀ { router = connecting })
    (world_begins router₀ cache₀ (edition_of edition) refl refl)
    (router_told world₀ 0 events.Tick actions.Connect connecting tt connects))
    (connected (record world₀ { router = connecting }) 10 (actions.Ask (query asked)) asked cache₀
    refl refl asks)

run₃ : IsRun world₃
run₃ = world_goes_on world₂ world₃ run₂
    (cache_hears world₂ 20 0 (query_head (query asked)) [] false answers.All cache₁
    (edition_of edition) refl gives_all tt)

run₅ : IsRun world₅
run₅ = world_goes_on
    (record world₃ { router = reading; to_router = prefix_unit ∷ last_unit ∷ [] }) world₅
    (world_goes_on world₃
    (record world₃ { router = reading; to_router = prefix_unit ∷ last_unit ∷ [] }) run₃
    (router_hears world₃ 30 (plain_unit Change kinds.CacheResponse 2 7 0 0)
    (prefix_unit ∷ last_unit ∷ []) actions.Begin reading refl begins))
    (router_hears (record world₃ { router = reading; to_router = prefix_unit ∷ last_unit ∷ [] }) 31
    prefix_unit (last_unit ∷ []) actions.Keep keeping refl keeps)

run₇ : IsRun world₇
run₇ = world_goes_on
    (record world₇ {
      router = applying;
      host = record { kept = (change ∷ []) ∷ []; made = Some (prefix ∷ []); shown = None };
    }) world₇
    (world_goes_on world₅
    (record world₇ {
      router = applying;
      host = record { kept = (change ∷ []) ∷ []; made = Some (prefix ∷ []); shown = None };
    }) run₅
    (router_hears world₅ 32 last_unit [] (actions.Apply false) applying refl completes))
    (router_told
    (record world₇ {
      router = applying;
      host = record { kept = (change ∷ []) ∷ []; made = Some (prefix ∷ []); shown = None };
    }) 33 events.Applied actions.Show waiting (prefix ∷ [], refl) adopts)

-- `payloads_agree`
shows_payloads : ShowsEdition world₇
shows_payloads = payloads_agree (edition ∷ []) world₇ refl is_one run₇ refl

-- ---- in bytes

pub fits : FitsEdition edition
fits = record {
  session = lit< tt;
  serial = lit< tt;
  payloads = (
    record {
      range = record {
        lengths = (lit≤ tt, lit≤ tt);
        address = lit< tt;
        host_bits = refl;
        asn = lit< tt;
      };
      fit = refl;
      bytes = tt;
    },
    tt,
  );
  refresh = lit< tt;
  retry = lit< tt;
  expire = lit< tt;
}

abbrev query_list : List ℕ
query_list = router_bytes (actions.Ask (query asked))

abbrev sent_bytes : List ℕ
sent_bytes = response_bytes ++ data_bytes

abbrev joined₀ : Joined
joined₀ = record {
  router = router₀;
  host = empty_host;
  cache = cache₀;
  present = edition;
  had = edition ∷ [];
  to_cache = [];
  to_router = [];
}

abbrev joined₁ : Joined
joined₁ = record joined₀ { router = connecting }

abbrev joined₂ : Joined
joined₂ = record joined₀ { router = asked; to_cache = query_list }

abbrev joined₃ : Joined
joined₃ = record joined₀ { router = asked; cache = cache₁; to_router = sent_bytes }

abbrev joined₄ : Joined
joined₄ = record joined₃ { router = reading; to_router = data_bytes }

abbrev joined₅ : Joined
joined₅ = record joined₃ { router = keeping; host = kept_host; to_router = end_bytes }

abbrev joined₆ : Joined
joined₆ = record joined₃ { router = applying; host = made_host; to_router = [] }

abbrev joined₇ : Joined
joined₇ = record joined₃ { router = waiting; host = shown_host; to_router = [] }

asks_in_bytes : IsRunInBytes caller joined₂
asks_in_bytes = pipes_go_on joined₁ joined₂
    (pipes_go_on joined₀ joined₁ (pipes_begin router₀ cache₀ edition refl refl fits)
    (told_router joined₀ 0 events.Tick actions.Connect connecting tt connects_so tt))
    (joined_anew joined₁ 10 (actions.Ask (query asked)) asked cache₀ refl refl asks_so
    (lit< tt, lit< tt, lit< tt))

query_has : HasHead query_list (query_head (query asked))
query_has = record {
  fields = reset_query 2 0;
  has = record {
    fits = lit< tt;
    bytes = refl;
    are_bytes = bare_bytes 2 2 0 (lit< tt) (lit< tt);
  };
  in_order = tt;
  head = refl;
}

answers_in_bytes : IsRunInBytes caller joined₃
answers_in_bytes = pipes_go_on joined₂ joined₃ asks_in_bytes
    (asked_in_bytes joined₂ 20 [] query_list [] false 8 answers.All cache₁ sent_bytes edition refl
    (record {
      head = query_head (query asked);
      unit = query_has;
      some = lit< tt;
      within = lit≤ tt;
      step = gives_all_so;
    })
    (lit< tt) tt refl)

begins_in_bytes : IsRunInBytes caller joined₄
begins_in_bytes = pipes_go_on joined₃ joined₄ answers_in_bytes
    (heard_bytes joined₃ 30 sent_bytes [] false (told.Acted 0 8 actions.Begin) reading refl
    (record {
      before = asked;
      kept = kept_none asked;
      head = response_head;
      unit = response_has;
      order = lit< tt;
      within = lit≤ tt;
      step = begins_so;
      other = λ e. cc;
      alone = λ more. absurd (omega (arith, more));
    })
    tt)

keeps_in_bytes : IsRunInBytes caller joined₅
keeps_in_bytes = pipes_go_on joined₄ joined₅ begins_in_bytes
    (heard_bytes joined₄ 31 data_bytes [] false (told.Kept 20) keeping refl
    (record {
      some = lit< tt;
      within = lit≤ tt;
      kept = kept_more reading [] prefix_bytes reading payload_head keeping (kept_none reading)
          prefix_has keeps_so;
      no_more = λ begins. begins_apart end_bytes begins (record {
        bytes = end_bytes;
        means = end;
        rest = [];
        end = is_end;
        parts = refl;
      });
    })
    tt)

applies_in_bytes : IsRunInBytes caller joined₆
applies_in_bytes = pipes_go_on joined₅ joined₆ keeps_in_bytes
    (heard_bytes joined₅ 32 end_bytes [] false (told.Acted 0 24 (actions.Apply false)) applying refl
    (record {
      before = keeping;
      kept = kept_none keeping;
      head = end_head;
      unit = end_has_head;
      order = lit< tt;
      within = lit≤ tt;
      step = completes_so;
      other = λ e. cc;
      alone = λ more. absurd (omega (arith, more));
    })
    tt)

in_bytes : IsRunInBytes caller joined₇
in_bytes = pipes_go_on joined₆ joined₇ applies_in_bytes
    (told_router joined₆ 33 events.Applied actions.Show waiting (data_bytes, refl) adopts_so tt)

-- `bytes_agree`
shows_bytes : ShowsBytes joined₇
shows_bytes = shows caller applies joined₇ in_bytes is_one refl

-- `bytes_are_units`
are_units : IsRunOfUnits joined₃
are_units = units caller applies joined₃ answers_in_bytes
