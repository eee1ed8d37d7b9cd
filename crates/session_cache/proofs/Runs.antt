-- Machines that take their steps do what their rules let them do.
use Rattle.std.proofs.Common.{List}
use Rattle.session_router.specs.Rules.{Rule}
use Rattle.session_router.specs.Step.{IsStep}
use Rattle.session_cache.specs.CacheRules.{CacheRule}
use Rattle.session_cache.specs.CacheSteps.{IsCacheStep}
use Rattle.session_cache.specs.Connections.{CacheMoment, IsAllowedConnection, IsConnection}
use Rattle.session_cache.specs.Connections.IsConnectionBy.{connection_begins, connection_goes_on}
use Rattle.session_cache.specs.declared.cache.Cache.{Cache}
use Rattle.session_cache.specs.declared.settings.CacheSettings.{CacheSettings}
use Rattle.session_cache.specs.Worlds.{IsLived, IsReached, Next, Source, World}
use Rattle.session_cache.specs.Worlds.Next.{cache_hears, cache_told, connected, renewed}
use Rattle.session_cache.specs.Worlds.Next.{router_hears}
use Rattle.session_cache.specs.Worlds.Next.{router_told}
use Rattle.session_cache.specs.Worlds.IsReachedBy.{world_begins, world_goes_on}

pub by_rules : (D C : Type 0) (S : Source D C) (w : World D C) → IsLived D C S w
    → IsReached D C S w
by_rules D C S w (world_begins r c p phase none) = world_begins r c p phase none
by_rules D C S w (world_goes_on w₀ w₁ run on) =
    world_goes_on w₀ w₁ (by_rules D C S w₀ run) (go w₀ w₁ on)
  where
    go : (w w' : World D C) → Next D C S IsStep IsCacheStep w w' → Next D C S Rule CacheRule w w'
    go w w' (router_told w₀ n e a r itself step) = router_told w₀ n e a r itself step.rule
    go w w' (connected w₀ n a r c phase anew step) = connected w₀ n a r c phase anew step.rule
    go w w' (router_hears w₀ n x xs a r is step) = router_hears w₀ n x xs a r is step.rule
    go w w' (cache_hears w₀ n m u us kept a c old is step from) =
        cache_hears w₀ n m u us kept a c old is step.rule from
    go w w' (cache_told w₀ n m e a c tells step) = cache_told w₀ n m e a c tells step.rule
    go w w' (renewed w₀ p) = renewed w₀ p

pub allowed : (s : CacheSettings) (ms : List CacheMoment) (c : Cache) → IsConnection s ms c
    → IsAllowedConnection s ms c
allowed s ms c (connection_begins c₀ new) = connection_begins c₀ new
allowed s ms c (connection_goes_on m ms₀ c₀ c₁ run step) =
    connection_goes_on m ms₀ c₀ c₁ (allowed s ms₀ c₀ run) step.rule
