-- What a connection ends over: the unit or the change, where it stands in the input, and why it is
-- refused, if it is.
use Rattle.std.specs.Prelude.{◌≡◌, ◌+◌, ℕ, Bool, [], take, drop, Option, Some, None}
use Rattle.data_memory.specs.declared.change_error.ChangeError.TheVariants as changes
use Rattle.data_slices.specs.InOrder.{RefusesChange}
use Rattle.session_router.specs.Step.{IsStep}
use Rattle.session_router.specs.declared.event.Action.{Action}
use Rattle.session_router.specs.declared.event.Action.TheVariants as actions
use Rattle.session_router.specs.declared.event.Ending.{Ending}
use Rattle.session_router.specs.declared.event.Event.{Event}
use Rattle.session_router.specs.declared.event.Event.TheVariants as events
use Rattle.session_router.specs.declared.router.Router.{Router}
use Rattle.unit_views.specs.declared.fault.ViewFault.{ViewFault}
use Rattle.session_bytes.specs.Reading.{Acts, HearsRefused}
use Rattle.session_bytes.specs.Sent.{refusal_code, refusal_of}
use Rattle.session_bytes.specs.declared.refusal.Refusal.{Refusal}
use Rattle.session_bytes.specs.declared.refusal.Refusal.TheVariants as refusals
use Rattle.session_client.specs.Makings.{Octets, onto}
use Rattle.session_client.specs.Said.{PutsBehind, report_bytes}
use Rattle.session_client.specs.declared.applying.Applied.{Applied}
use Rattle.session_client.specs.declared.applying.Applied.TheVariants as applied
use Rattle.session_client.specs.declared.client.Client.{Client}
use Rattle.session_client.specs.declared.client.Holding.{Holding}
use Rattle.session_client.specs.declared.client.Holding.TheVariants as holdings
use Rattle.session_client.specs.declared.hearing.Heard.{Heard}
use Rattle.session_client.specs.declared.hearing.Heard.TheVariants as heard
use Rattle.session_client.specs.declared.next.Todo.{Todo}
use Rattle.session_client.specs.declared.next.Todo.TheVariants as todos

-- what the machine is told of no unit and no change
abbrev pub IsOfNone : Event → Type 0
IsOfNone (events.Came u) = ⊥
IsOfNone (events.Faulty f) = ⊥
IsOfNone (events.NotApplied (Some code)) = ⊥
IsOfNone e = Unit {0}

-- of the changes of an answer, made onto data, that of the unit at the offset is the first that the
-- rules refuse, for this reason
abbrev pub IsRefusedOver : Refusal → (offset : ℕ) → (base answer : Octets) → (places : ℕ) → Type 0
IsRefusedOver refusals.Duplicate offset base answer places =
    RefusesChange changes.Duplicate offset base answer places
IsRefusedOver refusals.Unknown offset base answer places =
    RefusesChange changes.Unknown offset base answer places
IsRefusedOver _ offset base answer places = ⊥

-- A client that has this router, and this input, the first `kept` bytes of `filled` being payload
-- units that the machine was told of, ends its connection so, and the router is r' then: over what
-- begins at the offset of the input, and follows there.
pub data IsOver (now : ℕ) (r : Router) (m : Holding) (kept filled : ℕ) (shown : Option ℕ)
    (input held : Octets) (x : Ending) (r' : Router) :
    Option Refusal → (offset : ℕ) → (about : Octets) → Type 0 where
  -- a unit came that ends it
  over_unit :
      (start end : ℕ)
      → Acts r now (drop kept (take filled input)) start end (actions.End x) r'
      → IsOver now r m kept filled shown input held x r' None (kept + start)
      (drop (kept + start) (take filled input))
  -- a unit is refused, or the peer closed inside of it
  over_refused :
      (ended : Bool) (e : ViewFault)
      → HearsRefused r now (drop kept (take filled input)) ended e (actions.End x) r'
      → IsOver now r m kept filled shown input held x r' (refusal_of e) kept
      (drop kept (take filled input))
  -- a change is refused
  over_change :
      (size : ℕ) (since : Bool) (refusal : Refusal) (offset places : ℕ)
      → m ≡ holdings.Answer size since
      → IsRefusedOver refusal offset (onto since shown held (take size (drop kept input)))
      (take (kept + size) input) places
      → IsStep r now (events.NotApplied (Some (record { 0 = refusal_code refusal })))
      (actions.End x) r'
      → IsOver now r m kept filled shown input held x r' (Some refusal) offset
      (drop offset (take filled input))
  over_none :
      (e : Event) → IsOfNone e → IsStep r now e (actions.End x) r'
      → IsOver now r m kept filled shown input held x r' None 0 []

-- and its report is about that
pub record EndsOver (now : ℕ) (r : Router) (m : Holding) (kept filled : ℕ) (shown : Option ℕ)
    (input held : Octets) (unsent unsent' : ℕ) (before after : Octets) (r' : Router) (x : Ending)
    (refusal : Option Refusal) (offset : ℕ) : Type 0 where
  pub about : Octets
  pub over : IsOver now r m kept filled shown input held x r' refusal offset about
  pub puts :
      PutsBehind (report_bytes r'.version x.report x refusal about) unsent unsent' before after

-- The cache says that it has no data, in the unit that begins at the offset of the input, where it
-- still is.
pub record SaysNoData (now : ℕ) (r : Router) (kept filled : ℕ) (before after : Octets)
    (r' : Router) (offset : ℕ) : Type 0 where
  pub start : ℕ
  pub end : ℕ
  pub acts : Acts r now (drop kept (take filled before)) start end actions.NoData r'
  pub offset_is : offset ≡ kept + start
  pub stays : after ≡ before

-- ---- of what is answered

abbrev pub AtEnd : Type 1
AtEnd = Ending → Option Refusal → ℕ → Type 0

-- this holds of an action that ends the connection, and this of the one that says of no data
pub record IfActs (a : Action) (refusal : Option Refusal) (offset : ℕ) (P : AtEnd)
    (N : ℕ → Type 0) : Type 0 where
  pub ends : (x : Ending) → a ≡ actions.End x → P x refusal offset
  pub none : a ≡ actions.NoData → N offset

abbrev pub IfHeard : Heard → AtEnd → (ℕ → Type 0) → Type 0
IfHeard (heard.Acted a refusal offset) P N = IfActs a refusal offset P N
IfHeard _ P N = Unit {0}

abbrev pub IfApplied : Applied → AtEnd → (ℕ → Type 0) → Type 0
IfApplied (applied.Acted a refusal offset) P N = IfActs a refusal offset P N
IfApplied _ P N = Unit {0}

abbrev pub IfNamed : Todo → AtEnd → (ℕ → Type 0) → Type 0
IfNamed (todos.Close x refusal offset) P N = P x refusal offset
IfNamed (todos.NoData offset) P N = N offset
IfNamed _ P N = Unit {0}

-- if it ends the connection, then over no unit and no change
abbrev pub IsOverNone : Todo → Type 0
IsOverNone (todos.Close x refusal offset) = (refusal ≡ None) × (offset ≡ 0)
IsOverNone _ = Unit {0}

-- the client ends its connection over this, and reports it
abbrev pub over_of : (now : ℕ) (k : Client) (input held : Octets) (k' : Client)
    (before after : Octets) → AtEnd
over_of now k input held k' before after = λ x refusal offset. EndsOver now k.router k.holding
    k.kept k.filled k.shown input held k.unsent k'.unsent before after k'.router x refusal offset

abbrev pub none_of : (now : ℕ) (k : Client) (input : Octets) (k' : Client) (input' : Octets) →
    ℕ → Type 0
none_of now k input k' input' = λ offset. SaysNoData now k.router k.kept k.filled input input'
    k'.router offset
