-- A router and a cache after the last disturbance, in a run that the prover computes, so that the
-- premises of `current_again` are seen to be met: from when the router has no connection, and no
-- data, until it shows those of the cache.
use Rattle.std.proofs.Common.{◌≡◌, ◌⊎◌, ℕ, false, ◌≤◌, refl, Some}
use Rattle.std.proofs.Common.{[], inl, inr, arith, max}
use Rattle.session_router.specs.declared.event.Action.TheVariants as actions
use Rattle.session_router.specs.declared.event.Event.TheVariants as events
use Rattle.session_router.specs.declared.head.Kind.TheVariants as kinds
use Rattle.session_router.specs.declared.router.Phase.TheVariants as phases
use Rattle.session_router.specs.declared.router.Router.{Router}
use Rattle.session_router.specs.Heeding.{HeedsAsked, HeedsReading, IsBeyondLimits}
use Rattle.session_router.specs.Pace.{SamePace, wakes_at}
use Rattle.session_router.specs.Recovery.{served_until}
use Rattle.session_router.specs.Rules.{query}
use Rattle.session_router.specs.Step.{IsInTime, IsStep}
use Rattle.session_cache.specs.declared.event.Answer.TheVariants as answers
use Rattle.session_cache.specs.declared.event.CacheEvent.TheVariants as told
use Rattle.session_cache.specs.CacheSteps.{IsCacheStep}
use Rattle.session_cache.specs.Calm.{IsAtRest, IsCalm, IsOnTime, ShowsPresent}
use Rattle.session_cache.specs.Calm.IsCalm.{calm_cache_hears, calm_connected, calm_from, calm_hears}
use Rattle.session_cache.specs.Calm.IsCalm.{calm_told}
use Rattle.session_cache.specs.Calm.MayBeginCalm.{offline_then}
use Rattle.session_cache.specs.Worlds.{IsLived, change_unit, data_end, plain_unit, query_head}
use Rattle.session_cache.specs.Worlds.IsReachedBy.{world_begins}
use Rattle.session_cache.proofs.Calm.{shown, soon}
use Rattle.session_cache.proofs.Examples.{cache₀, named}
use Rattle.session_cache.proofs.ExampleWorlds.{adopts, applying, asked, asks, begins, cache₁}
use Rattle.session_cache.proofs.ExampleWorlds.{completes}
use Rattle.session_cache.proofs.ExampleWorlds.{connecting, connects, edition, end_head, gives_all}
use Rattle.session_cache.proofs.ExampleWorlds.{is_one}
use Rattle.session_cache.proofs.ExampleWorlds.{is_source}
use Rattle.session_cache.proofs.ExampleWorlds.{keeping, keeps, payload_head, reading, response_head}
use Rattle.session_cache.proofs.ExampleWorlds.{router₀, source, waiting, world₀, world₁, world₂}
use Rattle.session_cache.proofs.ExampleWorlds.{world₃}
use Rattle.session_cache.proofs.ExampleWorlds.{world₄, world₅, world₆}

-- ---- the steps: what is done has to be done

pub connects_so : IsStep router₀ 0 events.Tick actions.Connect connecting
connects_so = record {
  rule = connects;
  fresh = λ e. cc;
  paces = record {
    settings = refl;
    asked = refl;
    fell = refl;
    wait = refl;
    answered = refl;
    due = refl;
  };
  becomes = refl;
  heeds = λ f t. record {
    connects = λ e d. refl;
    rests = λ e d. absurd (omega (arith, d));
    asks = λ e. cc;
    rises = λ e. cc;
    pauses = λ e. cc;
    waits = λ e. cc;
  };
  idles = λ f t i. absurd (i.0 refl);
  expires = λ e. cc;
  late = λ f l. absurd l;
  stale = λ f e. cc;
  acts = λ e w p. λ is. cc;
}

pub asks_so : IsStep connecting 10 events.Connected (actions.Ask (query asked)) asked
asks_so = record {
  rule = asks;
  fresh = λ e. cc;
  paces = record {
    settings = refl;
    asked = refl;
    fell = refl;
    wait = refl;
    answered = refl;
    due = refl;
  };
  becomes = refl;
  heeds = λ f t e. refl;
  idles = λ f t i. absurd (i refl);
  expires = λ e. cc;
  late = λ f l d. absurd (omega (arith, d));
  stale = λ f e. cc;
  acts = λ e. cc;
}

same_pace : (r r' : Router) → r'.settings ≡ r.settings → r'.asked ≡ r.asked → r'.fell ≡ r.fell
    → r'.wait ≡ r.wait → r'.answered ≡ r.answered → SamePace r r'
same_pace r r' s a f w b =
    record { settings = s; asked = a; fell = f; wait = w; answered = b }

heeds_response : HeedsAsked asked response_head actions.Begin
heeds_response = record {
  begins = λ k m s. refl;
  other_session = λ k v e. cc;
  resets = λ k. cc;
  falls_to = λ k v. absurd (omega (arith, v));
  has_none = λ k. cc;
  falls = λ k. cc;
  reported = λ k. cc;
  ignores = λ k. cc;
  notes = λ k. cc;
  other_version = λ k v. absurd (v refl);
  higher_version = λ k l v. absurd (omega (arith, v));
  out_of_place = λ k. absurd k;
}

is_busy : (asked.phase ≡ phases.Offline) ⊎ (asked.phase ≡ phases.Connecting) → ⊥
is_busy (inl e) = cc
is_busy (inr e) = cc

pub begins_so : IsStep asked 30 (events.Came response_head) actions.Begin reading
begins_so = record {
  rule = begins;
  fresh = λ e. cc;
  paces = record { same = same_pace asked reading refl refl refl refl refl; due = refl };
  becomes = refl;
  heeds = λ f t. record {
    asked = λ e. heeds_response;
    reading = λ e. cc;
    waiting = λ e. cc;
    applying = λ e. cc;
  };
  idles = λ f t i. absurd (is_busy i);
  expires = λ e. cc;
  late = λ f l d. absurd (omega (arith, d));
  stale = λ f e. cc;
  acts = λ e. cc;
}

-- the cache's answer
pub gives_all_so : IsCacheStep cache₀ 20 (named 7 5) (told.Came (query_head (query asked)) false)
    answers.All cache₁
gives_all_so = record {
  rule = gives_all;
  serves = λ l t. record {
    all = λ q. refl;
    changes = λ q. let e = q.kind in cc;
    resets = λ q. let e = q.kind in cc;
    refuses = λ q. let e = q.kind in cc;
    none = λ k v h. cc;
    other_session = λ k v o. let e = o.told in cc;
    no_query = λ k. absurd k;
    other_version = λ k e. cc;
    no_version = λ k e v. absurd (omega (arith, v));
    reported = λ k. cc;
  };
  late = λ l d. absurd (omega (arith, d));
  ended = λ e. cc;
  acts = λ e. cc;
}

-- a payload, and the end of data
within : IsBeyondLimits reading 20 → ⊥
within (inl e) = absurd (omega (arith, e))
within (inr e) = absurd (omega (arith, e))

no_end : (payload_head.kind ≡ kinds.EndOfData) ⊎ (payload_head.kind ≡ kinds.SerialNotify) → ⊥
no_end (inl e) = cc
no_end (inr e) = cc

heeds_payload : HeedsReading reading payload_head actions.Keep
heeds_payload = record {
  keeps = λ p v h. refl;
  too_long = λ p v b. absurd (within b);
  no_such_payload = λ p. absurd p;
  applies = λ o. let e = o.kind in cc;
  old_serial = λ o. let e = o.kind in cc;
  other_data = λ o. let e = o.kind in cc;
  notes = λ o. let e = o.kind in cc;
  other_session = λ k. absurd (no_end k);
  has_none = λ k. cc;
  reported = λ k. cc;
  other_version = λ k v. absurd (v refl);
  out_of_place = λ k. absurd k;
}

is_reading : (reading.phase ≡ phases.Offline) ⊎ (reading.phase ≡ phases.Connecting) → ⊥
is_reading (inl e) = cc
is_reading (inr e) = cc

pub keeps_so : IsStep reading 31 (events.Came payload_head) actions.Keep keeping
keeps_so = record {
  rule = keeps;
  fresh = λ e. cc;
  paces = record { same = same_pace reading keeping refl refl refl refl refl; due = refl };
  becomes = refl;
  heeds = λ f t. record {
    asked = λ e. cc;
    reading = λ e. heeds_payload;
    waiting = λ e. cc;
    applying = λ e. cc;
  };
  idles = λ f t i. absurd (is_reading i);
  expires = λ e. cc;
  late = λ f l d. absurd (omega (arith, d));
  stale = λ f e. cc;
  acts = λ e. cc;
}

heeds_end : HeedsReading keeping end_head (actions.Apply false)
heeds_end = record {
  keeps = λ p. absurd p;
  too_long = λ p. absurd p;
  no_such_payload = λ p. absurd p;
  applies = λ o a b. refl;
  old_serial = λ o c. cc;
  other_data = λ o c. cc;
  notes = λ o. let e = o.kind in cc;
  other_session = λ k v s. absurd (s refl);
  has_none = λ k. cc;
  reported = λ k. cc;
  other_version = λ k v. absurd (v refl);
  out_of_place = λ k. absurd k;
}

is_keeping : (keeping.phase ≡ phases.Offline) ⊎ (keeping.phase ≡ phases.Connecting) → ⊥
is_keeping (inl e) = cc
is_keeping (inr e) = cc

pub completes_so : IsStep keeping 32 (events.Came end_head) (actions.Apply false) applying
completes_so = record {
  rule = completes;
  fresh = λ e. cc;
  paces = record { same = same_pace keeping applying refl refl refl refl refl; due = refl };
  becomes = refl;
  heeds = λ f t. record {
    asked = λ e. cc;
    reading = λ e. heeds_end;
    waiting = λ e. cc;
    applying = λ e. cc;
  };
  idles = λ f t i. absurd (is_keeping i);
  expires = λ e. cc;
  late = λ f l d. absurd (omega (arith, d));
  stale = λ f e. cc;
  acts = λ e. cc;
}

pub adopts_so : IsStep applying 33 events.Applied actions.Show waiting
adopts_so = record {
  rule = adopts;
  fresh = λ e. omega arith;
  paces = record {
    settings = refl;
    asked = refl;
    fell = refl;
    wait = refl;
    answered = refl;
    due = refl;
    expires = refl;
  };
  becomes = refl;
  heeds = λ f t e. refl;
  idles = λ f t i. absurd (i refl);
  expires = λ e. cc;
  late = λ f l. absurd l;
  stale = λ f e d. absurd (omega (arith, d));
  acts = λ e. cc;
}

-- ---- the run

lived : IsLived ℕ ℕ source world₀
lived = world_begins router₀ cache₀ (edition 7 5) refl refl

at_rest : IsAtRest ℕ ℕ world₀
at_rest = record { rests = offline_then refl; has = refl; order = λ e. absurd (omega (arith, e)) }

on_time : (r : Router) (n n' : ℕ) → n ≤ n' → n' ≤ max n (wakes_at r) → IsInTime r n'
    → IsOnTime r n n'
on_time r n n' l a i = record { later = l; awake = a; in_time = i }

run₁ : IsCalm ℕ ℕ source world₀ 0 world₁ 0
run₁ = calm_told world₀ 0 0 events.Tick actions.Connect connecting calm_from
    (on_time router₀ 0 0 (omega arith) (omega arith) (λ l. absurd l, λ e. cc)) tt connects_so
    (λ is. cc)

run₂ : IsCalm ℕ ℕ source world₀ 0 world₂ 10
run₂ = calm_connected world₁ 0 10 (actions.Ask (query asked)) asked cache₀ run₁
    (on_time connecting 0 10 (omega arith) (omega arith) (λ l. omega arith, λ e. cc)) refl refl
    asks_so

run₃ : IsCalm ℕ ℕ source world₀ 0 world₃ 10
run₃ = calm_cache_hears world₂ 10 20 0 (query_head (query asked)) [] false answers.All cache₁
    (edition 7 5) run₂ refl gives_all_so tt tt

run₄ : IsCalm ℕ ℕ source world₀ 0 world₄ 30
run₄ = calm_hears world₃ 10 30 (plain_unit ℕ kinds.CacheResponse 2 7 0 0) world₄.to_router
    actions.Begin reading run₃
    (on_time asked 10 30 (omega arith) (omega arith) (λ l. omega arith, λ e. cc)) refl tt
    (λ p. absurd p) begins_so

run₅ : IsCalm ℕ ℕ source world₀ 0 world₅ 31
run₅ = calm_hears world₄ 30 31 (change_unit ℕ ℕ source 2 5) world₅.to_router actions.Keep keeping
    run₄ (on_time reading 30 31 (omega arith) (omega arith) (λ l. omega arith, λ e. cc)) refl tt
    (λ p. record { units = omega arith; bytes = omega arith }) keeps_so

run₆ : IsCalm ℕ ℕ source world₀ 0 world₆ 32
run₆ = calm_hears world₅ 31 32 (data_end ℕ ℕ 2 (edition 7 5)) [] (actions.Apply false) applying
    run₅ (on_time keeping 31 32 (omega arith) (omega arith) (λ l. omega arith, λ e. cc)) refl tt
    (λ p. absurd p) completes_so

-- `current_again`: it isn't later than this, and what is shown next are the present data
soon_so : 32 ≤ served_until router₀ 0
soon_so = soon ℕ ℕ source world₀ (is_source world₀.had) is_one 0 lived at_rest world₆ 32 run₆

shows_present : ShowsPresent ℕ (edition 7 5) waiting (Some 5)
shows_present =
    shown ℕ ℕ source world₀ (is_source world₀.had) is_one 0 lived at_rest world₆ 32 33 5 waiting
    run₆ refl adopts_so
