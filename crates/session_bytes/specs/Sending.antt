-- What a router and a cache hear of units that were sent one after the other, however reads cut
-- their bytes (RFC 8210 section 5).
use Rattle.std.specs.Prelude.{◌≡◌, ℕ, Bool, true, ◌<◌, List, [], ◌∷◌, ◌++◌, length, take, drop}
use Rattle.std.specs.List.{AllByRecursion, concat}
use Rattle.unit_views.specs.declared.fault.ViewFault.TheVariants.{Short}
use Rattle.session_router.specs.Step.{IsStep}
use Rattle.session_router.specs.declared.event.Action.{Action}
use Rattle.session_router.specs.declared.event.Action.TheVariants as actions
use Rattle.session_router.specs.declared.event.Event.TheVariants as events
use Rattle.session_router.specs.declared.head.Head.{Head}
use Rattle.session_router.specs.declared.router.Router.{Router}
use Rattle.session_cache.specs.CacheSteps.{IsCacheStep}
use Rattle.session_cache.specs.declared.cache.Cache.{Cache}
use Rattle.session_cache.specs.declared.event.Answer.{Answer}
use Rattle.session_cache.specs.declared.event.CacheEvent.TheVariants as asked
use Rattle.session_cache.specs.declared.event.Present.{Present}
use Rattle.session_bytes.specs.Heads.{HasHead}
use Rattle.session_bytes.specs.Serving.{is_kept}
use Rattle.session_bytes.specs.declared.serving.Served.{Served}
use Rattle.session_bytes.specs.declared.serving.Served.TheVariants as served
use Rattle.session_bytes.specs.declared.telling.Told.{Told}
use Rattle.session_bytes.specs.declared.telling.Told.TheVariants as told

-- ---- what was sent

-- each of these lists is the bytes of one unit, of any type, and its prefix lengths are in order
abbrev pub AreWhole : List (List ℕ) → Type 0
AreWhole sent = AllByRecursion (λ u. (h : Head) × HasHead u h) sent

-- the input is less than the first of these units; where there is none, it is empty
abbrev pub IsLessThanFirst : List (List ℕ) → List ℕ → Type 0
IsLessThanFirst [] input = input ≡ []
IsLessThanFirst (u ∷ us) input = length input < length u

-- ---- a router

-- each of these units in turn is told to the machine, which keeps it
pub data KeepsEach (n : ℕ) : Router → List (List ℕ) → Router → Type 0 where
  keeps_none : (r : Router) → KeepsEach n r [] r
  keeps_next :
      (r : Router) (u : List ℕ) (us : List (List ℕ)) (h : Head) (mid r' : Router)
      → HasHead u h → IsStep r n (events.Came h) actions.Keep mid → KeepsEach n mid us r'
      → KeepsEach n r (u ∷ us) r'

-- The first k bytes of the input are some of the units, and these are left. The machine keeps each
-- of them.
pub record KeepsSent (r : Router) (n : ℕ) (sent : List (List ℕ)) (input : List ℕ) (k : ℕ)
    (r' : Router) : Type 0 where
  pub heard : List (List ℕ)
  pub left : List (List ℕ)
  pub parts : sent ≡ heard ++ left
  pub bytes : concat heard ≡ take k input
  pub kept : KeepsEach n r heard r'

-- After those that the machine keeps the next one makes it take this action.
pub record ActsOnSent (r : Router) (n : ℕ) (sent : List (List ℕ)) (input : List ℕ)
    (start end : ℕ) (a : Action) (r' : Router) : Type 0 where
  pub heard : List (List ℕ)
  pub unit : List ℕ
  pub left : List (List ℕ)
  pub parts : sent ≡ heard ++ unit ∷ left
  pub bytes : concat heard ≡ take start input
  pub unit_bytes : unit ≡ drop start (take end input)
  pub before : Router
  pub kept : KeepsEach n r heard before
  pub head : Head
  pub has : HasHead unit head
  pub step : IsStep before n (events.Came head) a r'

-- What is heard of units that were sent: each as it was sent, in their order. The router waits only
-- where no whole one is there, and refuses only what the end of the connection cuts off.
abbrev pub HearsSent : Router → ℕ → List (List ℕ) → List ℕ → Bool → Told → Router → Type 0
HearsSent r n sent input ended told.Awaits r' = IsLessThanFirst sent input × (r' ≡ r)
HearsSent r n sent input ended (told.Kept k) r' = KeepsSent r n sent input k r'
HearsSent r n sent input ended (told.Acted start end a) r' =
    ActsOnSent r n sent input start end a r'
HearsSent r n sent input ended (told.Refused e a) r' =
    (e ≡ Short) × (ended ≡ true) × IsLessThanFirst sent input

-- ---- a cache

-- The first bytes are the first of the units, at which the machine gives this answer.
pub record AnswersSent (c : Cache) (n : ℕ) (p : Present) (kept : List ℕ) (sent : List (List ℕ))
    (input : List ℕ) (size : ℕ) (a : Answer) (c' : Cache) : Type 0 where
  pub unit : List ℕ
  pub left : List (List ℕ)
  pub parts : sent ≡ unit ∷ left
  pub bytes : unit ≡ take size input
  pub head : Head
  pub has : HasHead unit head
  pub step : IsCacheStep c n p (asked.Came head (is_kept kept head.serial)) a c'

-- The same of a cache, which is told of one unit each time.
abbrev pub CacheHearsSent : Cache → ℕ → Present → List ℕ → List (List ℕ) → List ℕ → Bool → Served →
    Cache → Type 0
CacheHearsSent c n p kept sent input ended served.Awaits c' =
    IsLessThanFirst sent input × (c' ≡ c)
CacheHearsSent c n p kept sent input ended (served.Answered size a) c' =
    AnswersSent c n p kept sent input size a c'
CacheHearsSent c n p kept sent input ended (served.Refused e a) c' =
    (e ≡ Short) × (ended ≡ true) × IsLessThanFirst sent input
