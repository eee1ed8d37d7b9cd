-- What a call tells a client's machine, and what its caller has then.
use Rattle.std.specs.Prelude.{◌≡◌, ℕ, Bool, List, [], ◌∷◌, ◌+◌, ◌++◌, take, drop, Option, Some}
use Rattle.std.specs.Prelude.{None}
use Rattle.session_router.specs.Histories.{Caller, Host, MaySay, host_after}
use Rattle.session_router.specs.Step.{IsStep}
use Rattle.session_router.specs.declared.event.Action.{Action}
use Rattle.session_router.specs.declared.event.Action.TheVariants as actions
use Rattle.session_router.specs.declared.event.Event.{Event}
use Rattle.session_router.specs.declared.event.Event.TheVariants as events
use Rattle.session_router.specs.declared.router.Router.{Router}
use Rattle.session_bytes.specs.Reading.{Hears}
use Rattle.session_bytes.specs.declared.telling.Told.{Told}
use Rattle.session_bytes.specs.declared.telling.Told.TheVariants as told
use Rattle.session_client.specs.Holding.{Holds, LeavesInput, LeavesTold, ShowsFront, due_size}
use Rattle.session_client.specs.Holding.{shown_after}
use Rattle.session_client.specs.Makings.{Octets, MadeAnswer, MakesAll, WereMade}
use Rattle.session_client.specs.Next.{IsTodoOf}
use Rattle.session_client.specs.Said.{Did}
use Rattle.session_client.specs.declared.client.Client.{Client}
use Rattle.session_client.specs.declared.client.Holding.{Holding}
use Rattle.session_client.specs.declared.next.Todo.{Todo}

-- A client's numbers say of its buffers what its caller has: the units that it keeps, what the
-- changes made, and what it shows.
abbrev pub HostHas : Caller Octets Octets → Host Octets Octets → Holding → (kept : ℕ) → Option ℕ →
    (input buffer : Octets) → Type 0
HostHas c h m kept shown input buffer = ShowsFront h.shown shown buffer × Holds c h m kept input

-- what the machine is told of in one call: nothing, an event that is no unit, at which it takes
-- this action, or bytes that came
pub data Word : Type 0 where
  of_nothing : Word
  of_itself : Event → Action → Word
  of_bytes : (ended : Bool) → Told → Word

abbrev pub IsNoUnit : Event → Type 0
IsNoUnit (events.Came u) = ⊥
IsNoUnit (events.Faulty f) = ⊥
IsNoUnit e = Unit {0}

-- the action at these bytes, but for units that are kept
abbrev pub action_of : Told → Option Action
action_of told.Awaits = None
action_of (told.Kept k) = None
action_of (told.Acted start end a) = Some a
action_of (told.Refused e a) = Some a

-- The machine was told of it, and took this action, if any. Bytes are the first of those that it
-- wasn't told of yet, and those behind them are left.
abbrev pub IsTold : Word → (now : ℕ) → (r : Router) → (before after : Octets) → Option Action →
    Router → Type 0
IsTold of_nothing n r before after a r' = (a ≡ None) × (r' ≡ r) × (after ≡ before)
IsTold (of_itself e x) n r before after a r' =
    (a ≡ Some x) × IsNoUnit e × IsStep r n e x r' × LeavesInput x 0 before after
IsTold (of_bytes ended t) n r before after a r' =
    (a ≡ action_of t) × Hears r n before ended t r' × LeavesTold t before after

-- a caller that has this may say it
abbrev pub MaySayThis : Router → Host Octets Octets → Word → Type 0
MaySayThis r h (of_itself e x) = MaySay r h e
MaySayThis r h _ = Unit {0}

-- what a caller has after the machine was told of these bytes
abbrev pub host_heard : Caller Octets Octets → Host Octets Octets → Octets → Told →
    Host Octets Octets
host_heard c h b told.Awaits = h
host_heard c h b (told.Kept k) =
    record { kept = h.kept ++ take k b ∷ []; made = h.made; shown = h.shown }
host_heard c h b (told.Acted start end a) = host_after c h (drop start (take end b)) a
host_heard c h b (told.Refused e a) = host_after c h [] a

abbrev pub host_then : Caller Octets Octets → Host Octets Octets → Octets → Word →
    Host Octets Octets
host_then c h b of_nothing = h
host_then c h b (of_itself e x) = host_after c h [] x
host_then c h b (of_bytes ended t) = host_heard c h b t

-- ---- where the bytes begin, in the input, that the machine wasn't told of

-- In front of them stand the units that are held, and an end of data whose changes are to be made;
-- else nothing does, but a report that the cache has no data, which stays until the machine acts
-- again.
abbrev pub front_left : Action → (front : ℕ) → ℕ
front_left actions.Wait front = front
front_left a front = 0

-- after a unit that stood between these offsets
abbrev pub front_at : Action → (start end : ℕ) → ℕ
front_at actions.Wait start end = start
front_at (actions.Apply since) start end = end
front_at actions.NoData start end = end
front_at a start end = 0

abbrev pub front_after : Word → (front : ℕ) → ℕ
front_after of_nothing n = n
front_after (of_itself e x) n = front_left x n
front_after (of_bytes ended told.Awaits) n = n
front_after (of_bytes ended (told.Kept k)) n = n + k
front_after (of_bytes ended (told.Acted start end a)) n = front_at a (n + start) (n + end)
front_after (of_bytes ended (told.Refused e a)) n = front_left a n

-- ---- how many bytes of data are shown: after `Show` as many as the changes made

abbrev pub IsShownAfter : Option Action → (shown shown' : Option ℕ) → Type 0
IsShownAfter None shown shown' = shown' ≡ shown
IsShownAfter (Some actions.Show) shown shown' = Unit {0}
IsShownAfter (Some a) shown shown' = shown' ≡ shown_after a shown

-- what the machine wasn't told of yet
abbrev pub rest_of : Holding → (kept filled : ℕ) → (input : Octets) → Octets
rest_of m kept filled input = drop (kept + due_size m) (take filled input)

-- One call, from a client's numbers and buffers to those after it: what the machine was told of,
-- the answer that `apply_in_order` made, if any, and the action. Of any caller that makes the same
-- of that answer: it may say this, and what it has stays what the numbers say.
pub record TakesFrom (a : Option Action) (now : ℕ) (r : Router) (m : Holding) (kept filled : ℕ)
    (shown : Option ℕ) (input held : Octets) (r' : Router) (m' : Holding) (kept' filled' : ℕ)
    (shown' : Option ℕ) (input' held' : Octets) : Type 0 where
  pub word : Word
  pub is_told :
      IsTold word now r (rest_of m kept filled input) (rest_of m' kept' filled' input') a r'
  pub front : kept' + due_size m' ≡ front_after word (kept + due_size m)
  pub size : IsShownAfter a shown shown'
  pub made : List MadeAnswer
  pub were : WereMade made
  pub says :
      (c : Caller Octets Octets) (h : Host Octets Octets) → MakesAll c made
      → HostHas c h m kept shown input held → MaySayThis r h word
  pub has :
      (c : Caller Octets Octets) (h : Host Octets Octets) → MakesAll c made
      → HostHas c h m kept shown input held
      → HostHas c (host_then c h (rest_of m kept filled input) word) m' kept' shown' input' held'

-- the same of a client
abbrev pub TakesCall : Option Action → (now : ℕ) → (k : Client) → (input held : Octets) →
    (k' : Client) → (input' held' : Octets) → Type 0
TakesCall a now k input held k' input' held' =
    TakesFrom a now k.router k.holding k.kept k.filled k.shown input held k'.router k'.holding
    k'.kept k'.filled k'.shown input' held'

-- and what its caller has to do, and the bytes that were put into the output; this holds of what
-- the machine was told
abbrev pub TellsCall : (Word → Type 0) → Todo → (now : ℕ) → (k : Client) → (input held : Octets) →
    (k' : Client) → (input' held' output output' : Octets) → Type 0
TellsCall P t now k input held k' input' held' output output' =
    (a : Option Action) × IsTodoOf a t
    × Did a now k.router k'.router k.unsent k'.unsent output output'
    × (x : TakesCall a now k input held k' input' held') × P x.word
