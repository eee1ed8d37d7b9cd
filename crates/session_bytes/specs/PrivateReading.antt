-- A unit at the front of an input, and told to a router's machine. Only contracts of private
-- functions cite this.
use Rattle.std.specs.Prelude.{ℕ, ◌<◌, ◌≤◌, List, length, take, Bool, ◌==◌, ◌||◌, ◌&&◌, nat_le}
use Rattle.rtr_units.specs.Header.{type_field}
use Rattle.session_router.specs.Step.{IsStep}
use Rattle.session_router.specs.declared.event.Action.{Action}
use Rattle.session_router.specs.declared.event.Event.TheVariants as events
use Rattle.session_router.specs.declared.head.Head.{Head}
use Rattle.session_router.specs.declared.router.Router.{Router}
use Rattle.session_bytes.specs.Heads.{HasHead}

-- whether the type of a payload unit stands in its place (RFC 8210 sections 5.6, 5.7 and 5.10; that
-- of ASPA units as in the Rust crate)
abbrev pub begins_payload : List ℕ → Bool
begins_payload b =
    nat_le 2 (length b)
    && ((type_field b == 4) || (type_field b == 6) || (type_field b == 9) || (type_field b == 11))

pub record Comes (r : Router) (n : ℕ) (input : List ℕ) (a : Action) (size : ℕ) (r' : Router) :
    Type 0 where
  pub head : Head
  pub unit : HasHead (take size input) head
  pub some : 0 < size
  pub within : size ≤ length input
  pub step : IsStep r n (events.Came head) a r'

-- the input begins with a unit of this size, of which a machine sees this
pub record HasFirstHead (input : List ℕ) (head : Head) (size : ℕ) : Type 0 where
  pub unit : HasHead (take size input) head
  pub some : 0 < size
  pub within : size ≤ length input
