-- What a call tells a client's machine: each thing in its turn, and nothing else.
use Rattle.std.specs.Prelude.{◌≡◌, ◌≢◌, ◌⊎◌, ℕ, Bool, true, false, ◌+◌, ◌-◌, ◌^◌, ◌<◌, ◌≤◌, min}
use Rattle.std.specs.Prelude.{length, take, drop, Option, Some, None, Result, Ok, Err}
use Rattle.data_slices.specs.InOrder.{AppliesInOrder}
use Rattle.data_slices.specs.declared.in_order_fault.InOrderFault.{InOrderFault}
use Rattle.data_slices.specs.declared.in_order_fault.InOrderFault.TheVariants as faults
use Rattle.session_bytes.specs.Reading.{Awaits}
use Rattle.session_bytes.specs.Sent.{refusal_code}
use Rattle.session_bytes.specs.declared.refusal.Refusal.TheVariants as refusals
use Rattle.session_router.specs.Heeding.{IsTalking}
use Rattle.session_router.specs.Pace.{wakes_at}
use Rattle.session_router.specs.declared.event.Event.{Event}
use Rattle.session_router.specs.declared.event.Event.TheVariants as events
use Rattle.session_router.specs.declared.router.Phase.{Phase}
use Rattle.session_router.specs.declared.router.Phase.TheVariants as phases
use Rattle.session_router.specs.declared.router.Router.{Router}
use Rattle.session_client.specs.Holding.{IsHearing, room_for, untold}
use Rattle.session_client.specs.Makings.{Octets, onto}
use Rattle.session_client.specs.Tells.{Word, of_bytes, of_itself, of_nothing}
use Rattle.session_client.specs.declared.client.Client.{Client}
use Rattle.session_client.specs.declared.client.Holding.{Holding}
use Rattle.session_client.specs.declared.client.Holding.TheVariants as holdings

abbrev pub IsOfNothing : Word → Type 0
IsOfNothing of_nothing = Unit {0}
IsOfNothing w = ⊥

abbrev pub IsOfEvent : Event → Word → Type 0
IsOfEvent e (of_itself f x) = f ≡ e
IsOfEvent e w = ⊥

-- bytes that came, after which the peer has closed, or not
abbrev pub IsOfInput : (closed : Bool) → Word → Type 0
IsOfInput closed (of_bytes ended t) = ended ≡ closed
IsOfInput closed w = ⊥

-- A connection was opened: the machine is told of it where it asked for one.
abbrev pub IsOfOpened : Phase → Word → Type 0
IsOfOpened p of_nothing = p ≢ phases.Connecting
IsOfOpened p (of_itself e x) = (e ≡ events.Connected) × (p ≡ phases.Connecting)
IsOfOpened p (of_bytes ended t) = ⊥

-- that the peer closed, if it did
abbrev pub IsOfClosed : (closed : Bool) → Word → Type 0
IsOfClosed closed of_nothing = closed ≡ false
IsOfClosed closed (of_itself e x) = (e ≡ events.Lost) × (closed ≡ true)
IsOfClosed closed (of_bytes ended t) = ⊥

-- On a connection: the bytes that came; once no whole unit is left of them, that the peer closed.
abbrev pub IsOfRest : Router → (rest : Octets) → (closed : Bool) → Word → Type 0
IsOfRest r rest closed (of_bytes ended t) = (ended ≡ closed) × (0 < length rest)
IsOfRest r rest closed w = Awaits r rest closed r × IsOfClosed closed w

-- What is due by now comes first, then that a connection was opened, then what came on it.
pub record IsInTurn (now : ℕ) (k : Client) (input : Octets) (w : Word) : Type 0 where
  pub due : wakes_at k.router ≤ now → IsOfEvent events.Tick w
  pub opened : now < wakes_at k.router → k.opened ≡ true → IsOfOpened k.router.phase w
  pub rest :
      now < wakes_at k.router → k.opened ≡ false → IsTalking k.router
      → IsOfRest k.router (untold k input) k.closed w
  pub closed :
      now < wakes_at k.router → k.opened ≡ false → (IsTalking k.router → ⊥)
      → IsOfClosed k.closed w

-- the machine isn't told of bytes now: its time is due, a connection was opened, or there is none
abbrev pub IsUntold : (now : ℕ) → Client → Type 0
IsUntold now k =
    now < wakes_at k.router → k.opened ≡ false → IsTalking k.router → ⊥

-- ---- of a whole answer

-- what came of its changes; nothing where a buffer has no room for them
abbrev pub IsOfResult : Result ℕ InOrderFault → Word → Type 0
IsOfResult (Ok n) w = IsOfEvent events.Applied w
IsOfResult (Err faults.NoRoom) w = IsOfNothing w
IsOfResult (Err faults.NoIndex) w = IsOfNothing w
IsOfResult (Err (faults.Duplicate offset)) w =
    IsOfEvent (events.NotApplied (Some (record { 0 = refusal_code refusals.Duplicate }))) w
IsOfResult (Err (faults.Unknown offset)) w =
    IsOfEvent (events.NotApplied (Some (record { 0 = refusal_code refusals.Unknown }))) w
IsOfResult (Err f) w = IsOfEvent (events.NotApplied None) w

-- Its changes are made in a buffer that has room for all that they may come to.
abbrev pub IsOfChanges : Holding → (kept : ℕ) → Option ℕ → (input held : Octets) → (places : ℕ) →
    (made made' : Octets) → Word → Type 0
IsOfChanges (holdings.Answer size since) kept shown input held places made made' w =
    ((length made < min (room_for since shown size kept) (2 ^ 64 - 1)) × IsOfNothing w)
    ⊎ ((r : Result ℕ InOrderFault)
    × AppliesInOrder r (onto since shown held (take size (drop kept input)))
    (take (kept + size) input) places made made'
    × IsOfResult r w)
IsOfChanges m kept shown input held places made made' w = Unit {0}

-- ---- of a call of `next`

-- With an output of this length, data in `held`, an index of this many elements, and another buffer
-- that held `made` before and holds `made'` after the call: nothing is told where the output has no
-- room for a report.
pub record IsOfNext (now : ℕ) (k : Client) (input held : Octets) (output places : ℕ)
    (made made' : Octets) (w : Word) : Type 0 where
  pub none : output < k.unsent + 65535 → IsOfNothing w
  pub turn : k.unsent + 65535 ≤ output → IsHearing k.holding → IsInTurn now k input w
  pub answer :
      k.unsent + 65535 ≤ output
      → IsOfChanges k.holding k.kept k.shown input held places made made' w

-- and of one of `ask_now`
pub record IsOfAsking (k : Client) (output : ℕ) (w : Word) : Type 0 where
  pub none : output < k.unsent + 65535 → IsOfNothing w
  pub asks : k.unsent + 65535 ≤ output → IsOfEvent events.Asked w
