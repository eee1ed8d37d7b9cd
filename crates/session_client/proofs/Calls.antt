-- What a call leaves of what the caller said, and of the front of the input.
use native.Mathlib.Omega.{arith}
use Rattle.std.proofs.Common.{◌≡◌, ◌≢◌, ℕ, Bool, true, false, ◌<◌, ◌+◌, List, [], ◌∷◌, length, refl}
use Rattle.std.proofs.Common.{◌∙◌, ◌≤◌, ap, Option, Some}
use Rattle.std.proofs.Math.Bool.{and-false}
use Rattle.std.proofs.lemmas.Bool.{lt-leb, le-leb, le-ltb, lt-ltb}
use Rattle.std.specs.Prelude.{◌&&◌, if◌then◌else◌, nat_le, nat_lt, not}
use Rattle.session_router.specs.Pace.{wakes_at}
use Rattle.session_router.specs.Rules.{Rule}
use Rattle.session_router.specs.declared.event.Action.{Action}
use Rattle.session_router.specs.declared.event.Action.TheVariants as actions
use Rattle.session_router.specs.declared.event.Event.TheVariants as events
use Rattle.session_router.specs.declared.router.Phase.{Phase}
use Rattle.session_router.specs.declared.router.Phase.TheVariants as phases
use Rattle.session_router.specs.declared.router.Router.{Router}
use Rattle.session_client.specs.Calls.{closed_after, closed_then, hears_caller, has_no_answer}
use Rattle.session_client.specs.Calls.{is_data, lost_after, lost_in, opened_after, opened_then}
use Rattle.session_client.specs.Calls.{said_after, second_after}
use Rattle.session_client.specs.Holding.{IsHearing, shown_after, untold}
use Rattle.session_client.specs.Next.{IsTodoOf}
use Rattle.session_client.specs.Tells.{IsShownAfter, front_at, front_left}
use Rattle.session_client.specs.Turning.{HasAnswer}
use Rattle.session_client.specs.declared.client.Client.{Client}
use Rattle.session_client.specs.declared.client.Holding.{Holding}
use Rattle.session_client.specs.declared.client.Holding.TheVariants as holdings
use Rattle.session_client.specs.declared.next.Todo.{Todo}
use Rattle.session_client.specs.declared.next.Todo.TheVariants as todos

-- ---- what the caller said

pub said_none : (t : Todo) → said_after t false ≡ false
said_none todos.Go = refl
said_none todos.Wait = refl
said_none todos.Connect = refl
said_none (todos.Close x refusal offset) = refl
said_none todos.Data = refl
said_none todos.Dropped = refl
said_none (todos.NoData offset) = refl
said_none (todos.InputRoom n) = refl
said_none (todos.DataRoom n) = refl
said_none (todos.IndexRoom n) = refl
said_none (todos.OutputRoom n) = refl

pub lost_none : (rest : List ℕ) (t : Todo) → lost_after rest t false ≡ false
lost_none [] t = refl
lost_none (b ∷ rest) t = said_none t

pub lost_later : (rest : List ℕ) (t : Todo) (said : Bool) → 0 < length rest →
    lost_after rest t said ≡ said_after t said
lost_later [] t said some = absurd (omega (arith, some))
lost_later (b ∷ rest) t said some = refl

pub lost_talking : (p : Phase) (rest : List ℕ) (t : Todo) (said : Bool) →
    p ≢ phases.Offline → p ≢ phases.Connecting → lost_in p rest t said ≡ lost_after rest t said
lost_talking phases.Offline rest t said on connected = absurd (on refl)
lost_talking phases.Connecting rest t said on connected = absurd (connected refl)
lost_talking phases.Asked rest t said on connected = refl
lost_talking phases.Reading rest t said on connected = refl
lost_talking phases.Applying rest t said on connected = refl
lost_talking phases.Waiting rest t said on connected = refl

pub lost_alone : (p : Phase) (rest : List ℕ) (t : Todo) (said : Bool) →
    ((p ≢ phases.Offline) × (p ≢ phases.Connecting) → ⊥) → lost_in p rest t said ≡ false
lost_alone phases.Offline rest t said alone = refl
lost_alone phases.Connecting rest t said alone = refl
lost_alone phases.Asked rest t said alone = absurd (alone ((λ is. cc), (λ is. cc)))
lost_alone phases.Reading rest t said alone = absurd (alone ((λ is. cc), (λ is. cc)))
lost_alone phases.Applying rest t said alone = absurd (alone ((λ is. cc), (λ is. cc)))
lost_alone phases.Waiting rest t said alone = absurd (alone ((λ is. cc), (λ is. cc)))

-- ---- the front of the input

pub front_none : (a : Action) (n : ℕ) → a ≢ actions.Wait → front_left a n ≡ 0
front_none actions.Wait n other = absurd (other refl)
front_none actions.Connect n other = refl
front_none (actions.Ask q) n other = refl
front_none actions.Begin n other = refl
front_none actions.Keep n other = refl
front_none (actions.Apply on) n other = refl
front_none actions.Show n other = refl
front_none actions.NoData n other = refl
front_none actions.Drop n other = refl
front_none (actions.End x) n other = refl

pub front_other : (a : Action) (n m : ℕ) → a ≢ actions.Wait →
    ((on : Bool) → a ≢ actions.Apply on) → a ≢ actions.NoData → front_at a n m ≡ 0
front_other actions.Wait n m waits applies none = absurd (waits refl)
front_other actions.Connect n m waits applies none = refl
front_other (actions.Ask q) n m waits applies none = refl
front_other actions.Begin n m waits applies none = refl
front_other actions.Keep n m waits applies none = refl
front_other (actions.Apply on) n m waits applies none = absurd (applies on refl)
front_other actions.Show n m waits applies none = refl
front_other actions.NoData n m waits applies none = absurd (none refl)
front_other actions.Drop n m waits applies none = refl
front_other (actions.End x) n m waits applies none = refl

pub size_after : (a : Action) (shown shown' : Option ℕ) → shown' ≡ shown_after a shown →
    IsShownAfter (Some a) shown shown'
size_after actions.Show shown shown' is = tt
size_after actions.Wait shown shown' is = is
size_after actions.Connect shown shown' is = is
size_after (actions.Ask q) shown shown' is = is
size_after actions.Begin shown shown' is = is
size_after actions.Keep shown shown' is = is
size_after (actions.Apply on) shown shown' is = is
size_after actions.NoData shown shown' is = is
size_after actions.Drop shown shown' is = is
size_after (actions.End x) shown shown' is = is

pub applied_acts : (r r' : Router) (n : ℕ) (a : Action) → r.phase ≡ phases.Applying →
    Rule r n events.Applied a r' → a ≢ actions.Wait
applied_acts r r' n actions.Wait at rule is = rule.passes at
applied_acts r r' n actions.Connect at rule is = cc
applied_acts r r' n (actions.Ask q) at rule is = cc
applied_acts r r' n actions.Begin at rule is = cc
applied_acts r r' n actions.Keep at rule is = cc
applied_acts r r' n (actions.Apply on) at rule is = cc
applied_acts r r' n actions.Show at rule is = cc
applied_acts r r' n actions.NoData at rule is = cc
applied_acts r r' n actions.Drop at rule is = cc
applied_acts r r' n (actions.End x) at rule is = cc

answer_none : (m : Holding) → HasAnswer m → has_no_answer m ≡ false
answer_none holdings.Nothing whole = absurd whole
answer_none holdings.Units whole = absurd whole
answer_none (holdings.Answer n s) whole = refl

hearing_none : (m : Holding) → IsHearing m → has_no_answer m ≡ true
hearing_none holdings.Nothing hears = refl
hearing_none holdings.Units hears = refl
hearing_none (holdings.Answer n s) hears = absurd hears

-- ---- what a call of `next` comes to

module _ (now : ℕ) (k : Client) (t : Todo) where
  pub opened_due : wakes_at k.router ≤ now → opened_then now k t ≡ said_after t k.opened
  opened_due due =
      ap (λ b. if b then false else said_after t k.opened) (le-ltb now (wakes_at k.router) due)

  pub opened_told : now < wakes_at k.router → opened_then now k t ≡ false
  opened_told early =
      ap (λ b. if b then false else said_after t k.opened) (lt-ltb now (wakes_at k.router) early)

  module _ (input : List ℕ) where
    pub closed_due : wakes_at k.router ≤ now →
        closed_then now k input t ≡ said_after t k.closed
    closed_due due =
        ap (λ b. if b && not k.opened
        then lost_in k.router.phase (untold k input) t k.closed
        else said_after t k.closed) (le-ltb now (wakes_at k.router) due)

    pub closed_later : k.opened ≡ true → closed_then now k input t ≡ said_after t k.closed
    closed_later opened =
        ap (λ b. if nat_lt now (wakes_at k.router) && not b
        then lost_in k.router.phase (untold k input) t k.closed
        else said_after t k.closed) opened
        ∙ ap (λ b. if b
        then lost_in k.router.phase (untold k input) t k.closed
        else said_after t k.closed) (and-false (nat_lt now (wakes_at k.router)))

    pub closed_told : now < wakes_at k.router → k.opened ≡ false →
        closed_then now k input t ≡ lost_in k.router.phase (untold k input) t k.closed
    closed_told early opened =
        ap (λ b. if b && not k.opened
        then lost_in k.router.phase (untold k input) t k.closed
        else said_after t k.closed) (lt-ltb now (wakes_at k.router) early)
        ∙ ap (λ b. if not b
        then lost_in k.router.phase (untold k input) t k.closed
        else said_after t k.closed) opened

module _ (k : Client) (room : ℕ) where
  pub says_no_room : room < k.unsent + 65535 → hears_caller k room ≡ false
  says_no_room short = ap (λ b. b && has_no_answer k.holding) (lt-leb (k.unsent + 65535) room short)

  pub says_none : HasAnswer k.holding → hears_caller k room ≡ false
  says_none whole =
      ap (λ b. nat_le (k.unsent + 65535) room && b) (answer_none k.holding whole)
      ∙ and-false (nat_le (k.unsent + 65535) room)

  pub says_next : k.unsent + 65535 ≤ room → IsHearing k.holding → hears_caller k room ≡ true
  says_next enough hears =
      ap (λ b. b && has_no_answer k.holding) (le-leb (k.unsent + 65535) room enough)
      ∙ hearing_none k.holding hears

  module _ (now : ℕ) (t : Todo) (b : Bool) (is : hears_caller k room ≡ b) where
    pub opened_is :
        opened_after now k room t ≡ (if b then opened_then now k t else said_after t k.opened)
    opened_is = ap (λ b. if b then opened_then now k t else said_after t k.opened) is

    pub closed_is : (input : List ℕ) →
        closed_after now k input room t
        ≡ (if b then closed_then now k input t else said_after t k.closed)
    closed_is input =
        ap (λ b. if b then closed_then now k input t else said_after t k.closed) is

-- ---- the data buffers

pub second_is : (t : Todo) (second : Bool) →
    second_after t second ≡ (if is_data t then not second else second)
second_is todos.Go second = refl
second_is todos.Wait second = refl
second_is todos.Connect second = refl
second_is (todos.Close x refusal offset) second = refl
second_is todos.Data second = refl
second_is todos.Dropped second = refl
second_is (todos.NoData offset) second = refl
second_is (todos.InputRoom n) second = refl
second_is (todos.DataRoom n) second = refl
second_is (todos.IndexRoom n) second = refl
second_is (todos.OutputRoom n) second = refl

pub not_data : (t : Todo) (a : Action) → IsTodoOf (Some a) t → a ≢ actions.Show →
    is_data t ≡ false
not_data todos.Data actions.Show is other = absurd (other refl)
not_data todos.Data actions.Wait is other = absurd is
not_data todos.Data actions.Connect is other = absurd is
not_data todos.Data (actions.Ask q) is other = absurd is
not_data todos.Data actions.Begin is other = absurd is
not_data todos.Data actions.Keep is other = absurd is
not_data todos.Data (actions.Apply on) is other = absurd is
not_data todos.Data actions.NoData is other = absurd is
not_data todos.Data actions.Drop is other = absurd is
not_data todos.Data (actions.End x) is other = absurd is
not_data todos.Go a is other = refl
not_data todos.Wait a is other = refl
not_data todos.Connect a is other = refl
not_data (todos.Close x refusal offset) a is other = refl
not_data todos.Dropped a is other = refl
not_data (todos.NoData offset) a is other = refl
not_data (todos.InputRoom n) a is other = refl
not_data (todos.DataRoom n) a is other = refl
not_data (todos.IndexRoom n) a is other = refl
not_data (todos.OutputRoom n) a is other = refl

-- of what a call that ends without new data says
pub hears_none : (rest : List ℕ) (t : Todo) (said : Bool) → (said ≡ true → rest ≡ []) →
    lost_after rest t said ≡ false
hears_none rest t false none = lost_none rest t
hears_none rest t true none = ap (λ b. lost_after b t true) (none refl)
