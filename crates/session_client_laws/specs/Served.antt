-- A client and a cache that keeps the rules of RFC 8210, step by step.
use Rattle.std.specs.Prelude.{◌≡◌, ℕ, ◌≤◌, max, List, [], ◌∷◌, ◌++◌, take, Option}
use Rattle.session_router.specs.Exchange.{Exchange, exchange_after}
use Rattle.session_router.specs.Histories.{Moment, at}
use Rattle.session_router.specs.Pace.{wakes_at}
use Rattle.session_router.specs.Recovery.{ComesInTime, IsServedBy, Unshown}
use Rattle.session_router.specs.Step.{IsStep}
use Rattle.session_router.specs.declared.event.Action.{Action}
use Rattle.session_router.specs.declared.event.Event.{Event}
use Rattle.session_router.specs.declared.event.Event.TheVariants as events
use Rattle.session_router.specs.declared.head.Head.{Head}
use Rattle.session_router.specs.declared.router.Router.{Router}
use Rattle.session_bytes.specs.Heads.{HasHead}
use Rattle.session_bytes.specs.declared.telling.Told.TheVariants as told
use Rattle.session_client.specs.Holding.{untold}
use Rattle.session_client.specs.Makings.{Octets}
use Rattle.session_client.specs.Tells.{TakesCall, Word, of_bytes, of_itself, of_nothing}
use Rattle.session_client.specs.declared.client.Client.{Client}

-- ---- the machine's steps in a call

-- the bytes of the units that the machine was told of, in their order; the newest moment is first
abbrev pub told_bytes_of : List (Moment Octets) → Octets
told_bytes_of [] = []
told_bytes_of (m ∷ ms) = told_bytes_of ms ++ m.body

-- each is a unit, told by its bytes
abbrev pub AreToldUnits : List (Moment Octets) → Type 0
AreToldUnits [] = Unit {0}
AreToldUnits (m ∷ ms) =
    ((u : Head) × (m.event ≡ events.Came u) × HasHead m.body u) × AreToldUnits ms

-- What was told in a call, moment by moment: the event; or the units that the bytes begin with, one
-- by one; or that the first of the bytes is refused.
abbrev pub AreOfWord : Word → (before : Octets) → List (Moment Octets) → Type 0
AreOfWord of_nothing before ms = ms ≡ []
AreOfWord (of_itself e a) before ms = (n : ℕ) × (ms ≡ at n e [] a ∷ [])
AreOfWord (of_bytes ended told.Awaits) before ms = ms ≡ []
AreOfWord (of_bytes ended (told.Kept k)) before ms =
    AreToldUnits ms × (told_bytes_of ms ≡ take k before)
AreOfWord (of_bytes ended (told.Acted start end a)) before ms =
    AreToldUnits ms × (told_bytes_of ms ≡ take end before)
AreOfWord (of_bytes ended (told.Refused e a)) before ms =
    (n : ℕ) × (f : Event) × (ms ≡ at n f [] a ∷ [])

-- the machine took these steps at one time
pub data StepsAt (n : ℕ) : Router → List (Moment Octets) → Router → Type 0 where
  no_step : (r : Router) → StepsAt n r [] r
  one_step_more :
      (r : Router) (ms : List (Moment Octets)) (r' : Router) (e : Event) (b : Octets) (a : Action)
      (r'' : Router)
      → StepsAt n r ms r' → IsStep r' n e a r'' → StepsAt n r (at n e b a ∷ ms) r''

-- The steps of a call: those of what it told.
pub record TakesSteps (now : ℕ) (k : Client) (input : Octets) (k' : Client) (w : Word) :
    Type 0 where
  pub moments : List (Moment Octets)
  pub of_word : AreOfWord w (untold k input) moments
  pub steps : StepsAt now k.router moments k'.router

-- ---- beside a cache

-- Each step is at something that a cache which serves the router may do then, which comes in time,
-- and shows no data.
pub data WellServed (most n : ℕ) : Router → Exchange → List (Moment Octets) → Router → Exchange
    → Type 0 where
  served_none : (r : Router) (x : Exchange) → WellServed most n r x [] r x
  served_more :
      (r : Router) (x : Exchange) (ms : List (Moment Octets)) (r' : Router) (x' : Exchange)
      (e : Event) (b : Octets) (a : Action) (r'' : Router)
      → WellServed most n r x ms r' x' → IsStep r' n e a r'' → ComesInTime x' n
      → IsServedBy most r'.settings x' e → Unshown x' e a
      → WellServed most n r x (at n e b a ∷ ms) r'' (exchange_after r'.settings n e a x')

-- A client, and what was exchanged by then, while a cache that has data, and every version up to
-- `most`, serves it from `start`, `k₀` and `x₀` on, and no data are shown. It is called when it
-- wakes, at the latest. Calls that tell its machine nothing are left out.
pub data IsServedFrom (most : ℕ) (k₀ : Client) (x₀ : Exchange) (start : ℕ) :
    Client → Exchange → (now : ℕ) → Type 0 where
  serves_from : IsServedFrom most k₀ x₀ start k₀ x₀ start
  serves_on :
      (k : Client) (x : Exchange) (n n' : ℕ) (a : Option Action) (input held : Octets)
      (k' : Client) (input' held' : Octets) (m : Moment Octets) (ms : List (Moment Octets))
      (x' : Exchange)
      → IsServedFrom most k₀ x₀ start k x n → n ≤ n' → n' ≤ max n (wakes_at k.router)
      → (t : TakesCall a n' k input held k' input' held')
      → AreOfWord t.word (untold k input) (m ∷ ms)
      → WellServed most n' k.router x (m ∷ ms) k'.router x'
      → IsServedFrom most k₀ x₀ start k' x' n'
  -- what the caller says between two calls: `opened`, `closed`, `received`, `sent`, buffers
  says_between :
      (k : Client) (x : Exchange) (n : ℕ) (k' : Client)
      → IsServedFrom most k₀ x₀ start k x n → k'.router ≡ k.router
      → IsServedFrom most k₀ x₀ start k' x n
