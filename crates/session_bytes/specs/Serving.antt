-- What comes of reading at a cache: the unit that an input begins with is told to a cache's
-- machine.
use Rattle.std.specs.Prelude.{◌≡◌, ℕ, Bool, true, ◌==◌, ◌<◌, ◌≤◌, List, [], ◌∷◌, length, take}
use Rattle.std.specs.Prelude.{Option}
use Rattle.std.specs.List.{list_any}
use Rattle.unit_views.specs.declared.fault.ViewFault.{ViewFault}
use Rattle.unit_views.specs.declared.fault.ViewFault.TheVariants.{Short}
use Rattle.unit_any.specs.SessionViews.{IsSessionFault}
use Rattle.session_router.specs.declared.head.Head.{Head}
use Rattle.session_cache.specs.CacheSteps.{IsCacheStep}
use Rattle.session_cache.specs.Connections.{CacheMoment, IsConnection}
use Rattle.session_cache.specs.declared.cache.Cache.{Cache}
use Rattle.session_cache.specs.declared.event.Answer.{Answer}
use Rattle.session_cache.specs.declared.event.CacheEvent.{CacheEvent}
use Rattle.session_cache.specs.declared.event.CacheEvent.TheVariants as events
use Rattle.session_cache.specs.declared.event.Present.{Present}
use Rattle.session_cache.specs.declared.settings.CacheSettings.{CacheSettings}
use Rattle.session_bytes.specs.Heads.{HasHead}
use Rattle.session_bytes.specs.Reading.{fault_of}
use Rattle.session_bytes.specs.declared.serving.Served.{Served}
use Rattle.session_bytes.specs.declared.serving.Served.TheVariants as served

-- whether this serial number is among those from which the changes can be told
abbrev pub is_kept : List ℕ → ℕ → Bool
is_kept kept serial = list_any (λ n. n == serial) kept

-- The first bytes are a unit, whatever follows them, at which the machine gives this answer.
pub record AnswersUnit (c : Cache) (n : ℕ) (p : Present) (kept input : List ℕ) (size : ℕ)
    (a : Answer) (c' : Cache) : Type 0 where
  pub head : Head
  pub unit : HasHead (take size input) head
  pub some : 0 < size
  pub within : size ≤ length input
  pub step : IsCacheStep c n p (events.Came head (is_kept kept head.serial)) a c'

-- The input begins with a unit that is refused, or that the end of the input cuts off.
pub record AnswersRefused (c : Cache) (n : ℕ) (p : Present) (input : List ℕ) (ended : Bool)
    (e : ViewFault) (a : Answer) (c' : Cache) : Type 0 where
  pub size : Option ℕ
  pub fault : IsSessionFault input e size
  pub some : 0 < length input
  pub cut : e ≡ Short → ended ≡ true
  pub step : IsCacheStep c n p (events.Faulty (fault_of input e)) a c'

-- No whole unit is there yet, or nothing more of any.
pub record AwaitsUnit (c : Cache) (input : List ℕ) (ended : Bool) (c' : Cache) : Type 0 where
  pub same : c' ≡ c
  pub size : Option ℕ
  pub short : IsSessionFault input Short size
  pub none_left : ended ≡ true → input ≡ []

abbrev pub HearsRouter : Cache → ℕ → Present → (kept input : List ℕ) → Bool → Served → Cache →
    Type 0
HearsRouter c n p kept input ended served.Awaits c' = AwaitsUnit c input ended c'
HearsRouter c n p kept input ended (served.Answered size a) c' =
    AnswersUnit c n p kept input size a c'
HearsRouter c n p kept input ended (served.Refused e a) c' =
    AnswersRefused c n p input ended e a c'

-- ---- whole connections

-- the connection that had these moments goes on by one more, in which the cache answered this
pub record AnswersOn (s : CacheSettings) (ms : List CacheMoment) (n : ℕ) (p : Present) (a : Answer)
    (c' : Cache) : Type 0 where
  pub event : CacheEvent
  pub goes_on :
      IsConnection s (record { now = n; present = p; event = event; answer = a } ∷ ms) c'

-- and so by what came of an input, if anything did
abbrev pub ServesOn : CacheSettings → List CacheMoment → ℕ → Present → Served → Cache → Type 0
ServesOn s ms n p served.Awaits c' = IsConnection s ms c'
ServesOn s ms n p (served.Answered size a) c' = AnswersOn s ms n p a c'
ServesOn s ms n p (served.Refused e a) c' = AnswersOn s ms n p a c'
