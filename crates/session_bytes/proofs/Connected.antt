-- The answers to an input continue the run of a connection.
use Rattle.std.proofs.Common.{ℕ, Bool, List, sym, subst}
use Rattle.session_cache.specs.Connections.{CacheMoment, IsConnection}
use Rattle.session_cache.specs.Connections.IsConnectionBy.{connection_goes_on}
use Rattle.session_cache.specs.declared.cache.Cache.{Cache}
use Rattle.session_cache.specs.declared.event.CacheEvent.TheVariants as events
use Rattle.session_cache.specs.declared.event.Present.{Present}
use Rattle.session_cache.specs.declared.settings.CacheSettings.{CacheSettings}
use Rattle.session_cache.proofs.Orderly.{moment}
use Rattle.session_bytes.specs.Reading.{fault_of}
use Rattle.session_bytes.specs.Serving.{HearsRouter, ServesOn, is_kept}
use Rattle.session_bytes.specs.declared.serving.Served.{Served}
use Rattle.session_bytes.specs.declared.serving.Served.TheVariants as served

pub serves_on : (s : CacheSettings) (ms : List CacheMoment) (c : Cache) (n : ℕ) (p : Present)
    (kept input : List ℕ) (ended : Bool) (came : Served) (c' : Cache) → IsConnection s ms c →
    HearsRouter c n p kept input ended came c' → ServesOn s ms n p came c'
serves_on s ms c n p kept input ended served.Awaits c' run x =
    subst (λ d. IsConnection s ms d) (sym x.same) run
serves_on s ms c n p kept input ended (served.Answered size a) c' run x =
    let e = events.Came x.head (is_kept kept x.head.serial) in
    record {
      event = e;
      goes_on = connection_goes_on (moment n p e a) ms c c' run x.step;
    }
serves_on s ms c n p kept input ended (served.Refused fault a) c' run x =
    let e = events.Faulty (fault_of input fault) in
    record {
      event = e;
      goes_on = connection_goes_on (moment n p e a) ms c c' run x.step;
    }
