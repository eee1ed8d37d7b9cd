-- What a caller has to do next.
use Rattle.std.specs.Prelude.{◌≡◌, ℕ, false, ◌+◌, ◌-◌, ◌^◌, ◌<◌, List, length, Option, Some, None}
use Rattle.std.specs.Prelude.{min}
use Rattle.session_router.specs.Heeding.{IsTalking}
use Rattle.session_router.specs.Pace.{wakes_at}
use Rattle.session_router.specs.declared.event.Action.{Action}
use Rattle.session_router.specs.declared.event.Action.TheVariants as actions
use Rattle.session_router.specs.declared.router.Router.{Router}
use Rattle.session_bytes.specs.Reading.{Awaits}
use Rattle.session_client.specs.declared.client.Client.{Client}
use Rattle.session_client.specs.declared.next.Todo.{Todo}
use Rattle.session_client.specs.declared.next.Todo.TheVariants as todos
use Rattle.session_client.specs.Holding.{room_at, untold}
use Rattle.session_client.specs.Said.{Did}

abbrev pub IsWait : Todo → Type 0
IsWait todos.Wait = Unit {0}
IsWait _ = ⊥

abbrev pub IsDataRoom : Todo → Type 0
IsDataRoom (todos.DataRoom n) = Unit {0}
IsDataRoom _ = ⊥

abbrev pub IsIndexRoom : Todo → Type 0
IsIndexRoom (todos.IndexRoom n) = Unit {0}
IsIndexRoom _ = ⊥

abbrev pub IsInputRoom : Todo → Type 0
IsInputRoom (todos.InputRoom n) = Unit {0}
IsInputRoom _ = ⊥

abbrev pub IsRoom : Todo → Type 0
IsRoom (todos.InputRoom n) = Unit {0}
IsRoom (todos.DataRoom n) = Unit {0}
IsRoom (todos.IndexRoom n) = Unit {0}
IsRoom (todos.OutputRoom n) = Unit {0}
IsRoom _ = ⊥

abbrev pub IsOutputRoom : Todo → Type 0
IsOutputRoom (todos.OutputRoom n) = Unit {0}
IsOutputRoom _ = ⊥

-- A buffer is named that has no room: the input is full; behind the unsent bytes of the output a
-- report doesn't fit. As much is asked for as is enough: a unit more; all that the changes of the
-- answer may make; a place for each of its payload units.
abbrev pub NamesRoom : Todo → Client → (input output : List ℕ) → Type 0
NamesRoom (todos.InputRoom n) k input output =
    (k.filled ≡ length input) × (n ≡ min (length input + 65535) (2 ^ 64 - 1))
NamesRoom (todos.OutputRoom n) k input output =
    (length output < k.unsent + 65535) × (n ≡ min (k.unsent + 65535) (2 ^ 64 - 1))
NamesRoom (todos.DataRoom n) k input output =
    n ≡ min (room_at k.holding k.shown k.kept) (2 ^ 64 - 1)
NamesRoom (todos.IndexRoom n) k input output = n ≡ k.router.units
NamesRoom _ k input output = Unit {0}

-- what a caller has to do at this action, or at none
abbrev pub IsTodoOf : Option Action → Todo → Type 0
IsTodoOf (Some actions.Connect) todos.Connect = Unit {0}
IsTodoOf (Some (actions.End x)) (todos.Close y refusal offset) = y ≡ x
IsTodoOf (Some actions.Show) todos.Data = Unit {0}
IsTodoOf (Some actions.Drop) todos.Dropped = Unit {0}
IsTodoOf (Some actions.NoData) (todos.NoData offset) = Unit {0}
IsTodoOf (Some actions.Wait) todos.Go = Unit {0}
IsTodoOf (Some (actions.Ask q)) todos.Go = Unit {0}
IsTodoOf (Some actions.Begin) todos.Go = Unit {0}
IsTodoOf (Some actions.Keep) todos.Go = Unit {0}
IsTodoOf (Some (actions.Apply since)) todos.Go = Unit {0}
IsTodoOf None todos.Go = Unit {0}
IsTodoOf None todos.Wait = Unit {0}
IsTodoOf None (todos.InputRoom n) = Unit {0}
IsTodoOf None (todos.DataRoom n) = Unit {0}
IsTodoOf None (todos.IndexRoom n) = Unit {0}
IsTodoOf None (todos.OutputRoom n) = Unit {0}
IsTodoOf _ _ = ⊥

-- The machine took this action at most, and what it sends was put into the output; the caller is
-- told of it.
pub record Turns (t : Todo) (now : ℕ) (r r' : Router) (unsent unsent' : ℕ)
    (before after : List ℕ) : Type 0 where
  pub action : Option Action
  pub todo : IsTodoOf action t
  pub did : Did action now r r' unsent unsent' before after

-- Nothing is to be done before the machine's own time: it was told of all that came, and of what
-- became of the connection. The input has room for more.
pub record RestsNow (now : ℕ) (k : Client) (input : List ℕ) : Type 0 where
  pub time : now < wakes_at k.router
  pub opened : k.opened ≡ false
  pub closed : k.closed ≡ false
  pub room : k.filled < length input
  pub awaits : IsTalking k.router → Awaits k.router (untold k input) false k.router
