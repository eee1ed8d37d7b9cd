-- What a client sends.
use Rattle.std.specs.Prelude.{◌≡◌, ◌⊎◌, ◌+◌, ◌≤◌, ℕ, List, [], ◌++◌, length, take, nat_le}
use Rattle.std.specs.Prelude.{Option, Some, None, if◌then◌else◌}
use Rattle.rtr_base.specs.declared.error_code.ErrorCode.{ErrorCode}
use Rattle.session_router.specs.Step.{IsStep}
use Rattle.session_router.specs.declared.event.Event.{Event}
use Rattle.session_router.specs.declared.event.Event.TheVariants as events
use Rattle.session_router.specs.declared.router.Phase.{Phase}
use Rattle.session_router.specs.declared.router.Phase.TheVariants as phases
use Rattle.session_router.specs.declared.router.Router.{Router}
use Rattle.session_router.specs.declared.event.Action.{Action}
use Rattle.session_router.specs.declared.event.Action.TheVariants as actions
use Rattle.session_router.specs.declared.event.Ending.{Ending}
use Rattle.unit_any.specs.HeldReports.{held_report}
use Rattle.session_bytes.specs.Reading.{KeepsAll}
use Rattle.session_bytes.specs.Sent.{about, ending_text, query_bytes}
use Rattle.session_bytes.specs.declared.refusal.Refusal.{Refusal}
use Rattle.session_client.specs.declared.applying.Applied.{Applied}
use Rattle.session_client.specs.declared.applying.Applied.TheVariants as applied
use Rattle.session_client.specs.declared.hearing.Heard.{Heard}
use Rattle.session_client.specs.declared.hearing.Heard.TheVariants as heard

abbrev pub report_bytes : (version : ℕ) → Option ErrorCode → Ending → Option Refusal → List ℕ →
    List ℕ
report_bytes v None x refusal b = []
report_bytes v (Some code) x refusal b =
    held_report v code.0 (about refusal b) (ending_text x.cause refusal)

-- the bytes that an action sends: its query; or its report, about the unit that b begins with
abbrev pub bytes_of : (version : ℕ) → Action → Option Refusal → List ℕ → List ℕ
bytes_of v (actions.Ask q) refusal b = query_bytes q
bytes_of v (actions.End x) refusal b = report_bytes v x.report x refusal b
bytes_of v _ refusal b = []

-- of this many bytes that were still to be sent as many are left: none where a connection is made
abbrev pub left_at : Action → (unsent : ℕ) → ℕ
left_at actions.Connect n = 0
left_at _ n = n

-- these bytes, whole, were appended to those that are still to be sent
abbrev pub PutsBehind : (piece : List ℕ) → (unsent unsent' : ℕ) → (before after : List ℕ) → Type 0
PutsBehind piece n n' before after =
    (n' ≡ n + length piece) × (n' ≤ length after) × (take n' after ≡ take n before ++ piece)

-- the machine was told of payload units, which it keeps
pub record KeepsSome (now : ℕ) (r r' : Router) : Type 0 where
  pub units : List ℕ
  pub kept : KeepsAll now r units r'

-- A step of the machine, after payload units that it keeps, and its action. The bytes that this
-- sends were put behind those that are still to be sent.
pub record TakesAction (now : ℕ) (r : Router) (a : Action) (r' : Router) (unsent unsent' : ℕ)
    (before after : List ℕ) : Type 0 where
  pub units : List ℕ
  pub mid : Router
  pub kept : KeepsAll now r units mid
  pub event : Event
  pub step : IsStep mid now event a r'
  pub refusal : Option Refusal
  pub unit : List ℕ
  pub puts : PutsBehind (bytes_of r'.version a refusal unit) (left_at a unsent) unsent' before after

-- the machine took this action, or none, but for payload units that it keeps
abbrev pub Did : Option Action → (now : ℕ) → (r r' : Router) → (unsent unsent' : ℕ) →
    (before after : List ℕ) → Type 0
Did None now r r' n n' before after =
    ((r' ≡ r) ⊎ KeepsSome now r r') × (n' ≡ n) × (after ≡ before)
Did (Some a) now r r' n n' before after = TakesAction now r a r' n n' before after

abbrev pub did_of : Applied → Option Action
did_of (applied.Shown n) = Some actions.Show
did_of (applied.Acted action refusal offset) = Some action
did_of _ = None

abbrev pub did_at : Heard → Option Action
did_at (heard.Acted action refusal offset) = Some action
did_at _ = None

-- As much as is still to be sent where a connection is given up: nothing, where there is no room
-- for a report behind it.
abbrev pub with_room : (unsent room : ℕ) → ℕ
with_room n room = if nat_le (n + 65535) room then n else 0

-- what the machine is told where its caller gives up
abbrev pub given_up : Phase → Event
given_up phases.Reading = events.NotApplied None
given_up phases.Applying = events.NotApplied None
given_up _ = events.Lost
