-- Where a client is, between the turns that it takes, and how many of them are left.
use Rattle.std.specs.Prelude.{◌+◌, ◌*◌, ℕ, Bool, true, false, List, length}
use Rattle.session_router.specs.declared.event.Action.{Action}
use Rattle.session_router.specs.declared.event.Action.TheVariants as actions
use Rattle.session_router.specs.declared.router.Phase.{Phase}
use Rattle.session_router.specs.declared.router.Phase.TheVariants as phases
use Rattle.session_router.specs.declared.router.Router.{Router}
use Rattle.session_client.specs.Holding.{due_after, untold}
use Rattle.session_client.specs.declared.client.Client.{Client}
use Rattle.session_client.specs.declared.client.Holding.{Holding}
use Rattle.session_client.specs.declared.client.Holding.TheVariants as holdings
use Rattle.session_client.specs.declared.next.Todo.{Todo}
use Rattle.session_client.specs.declared.next.Todo.TheVariants as todos

-- Payload units are held in a response and nowhere else, and a whole answer while its changes are
-- made and nowhere else.
abbrev pub InPhase : Phase → Holding → Type 0
InPhase phases.Reading holdings.Units = Unit {0}
InPhase phases.Reading m = ⊥
InPhase phases.Applying (holdings.Answer size since) = Unit {0}
InPhase phases.Applying m = ⊥
InPhase p holdings.Nothing = Unit {0}
InPhase p m = ⊥

abbrev pub IsInStep : Client → Type 0
IsInStep k = InPhase k.router.phase k.holding

-- what is held after an action: where units are held and an end of data of this many bytes makes
-- their answer whole, that answer
abbrev pub holding_after : Action → Holding → (size : ℕ) → Holding
holding_after actions.Wait m size = m
holding_after actions.Begin m size = holdings.Units
holding_after (actions.Apply since) m size = due_after m size since
holding_after _ m size = holdings.Nothing

-- the same after an event that is no unit
abbrev pub follows : Action → Holding → Holding
follows actions.Wait m = m
follows _ m = holdings.Nothing

-- a whole answer is held
abbrev pub HasAnswer : Holding → Type 0
HasAnswer (holdings.Answer size since) = Unit {0}
HasAnswer m = ⊥

-- ---- turns

abbrev pub flag : Bool → ℕ
flag true = 1
flag false = 0

abbrev pub turns_in : Phase → ℕ
turns_in phases.Offline = 0
turns_in phases.Waiting = 2
turns_in p = 1

abbrev pub turns_of : Router → ℕ
turns_of r = turns_in r.phase + flag r.has_data

abbrev pub turns_due : Holding → ℕ
turns_due (holdings.Answer size since) = 4
turns_due m = 0

-- The most turns that are left before a client waits, connects or wants room, if no time passes and
-- its caller says nothing: at most 8 for each byte that the machine wasn't told of yet, and 9 more.
abbrev pub turns_left : Client → (input : List ℕ) → ℕ
turns_left k input =
    8 * length (untold k input) + turns_due k.holding + turns_of k.router
    + flag k.opened + flag k.closed

-- the caller need not do anything before it calls again
abbrev pub IsTurn : Todo → Type 0
IsTurn todos.Go = Unit {0}
IsTurn (todos.Close x refusal offset) = Unit {0}
IsTurn todos.Data = Unit {0}
IsTurn todos.Dropped = Unit {0}
IsTurn (todos.NoData offset) = Unit {0}
IsTurn _ = ⊥
