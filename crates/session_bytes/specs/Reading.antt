-- What comes of reading: the units that an input begins with are told to a router's machine.
use Rattle.std.specs.Prelude.{◌≡◌, ◌≢◌, ℕ, Bool, true, ◌<◌, ◌≤◌, List, [], ◌++◌, length, take}
use Rattle.std.specs.Prelude.{Option, drop, option_map}
use Rattle.rtr_payload.specs.FirstFault.{BeginsUnit}
use Rattle.rtr_units.specs.Codes.{code_of}
use Rattle.rtr_units.specs.Header.{version_field, type_field}
use Rattle.unit_views.specs.OwedCodes.{owed, read_fault}
use Rattle.unit_views.specs.declared.fault.ViewFault.{ViewFault}
use Rattle.unit_views.specs.declared.fault.ViewFault.TheVariants.{Short}
use Rattle.unit_any.specs.SessionViews.{IsSessionFault}
use Rattle.session_router.specs.Step.{IsStep}
use Rattle.session_router.specs.declared.event.Action.{Action}
use Rattle.session_router.specs.declared.event.Action.TheVariants as actions
use Rattle.session_router.specs.declared.event.Event.TheVariants as events
use Rattle.session_router.specs.declared.head.Fault.{Fault}
use Rattle.session_router.specs.declared.head.Head.{Head}
use Rattle.session_router.specs.declared.router.Router.{Router}
use Rattle.session_bytes.specs.Heads.{HasHead}
use Rattle.session_bytes.specs.declared.telling.Told.{Told}
use Rattle.session_bytes.specs.declared.telling.Told.TheVariants as told

-- these bytes are units, one after the other, each of which the machine keeps
pub data KeepsAll (n : ℕ) : Router → List ℕ → Router → Type 0 where
  kept_none : (r : Router) → KeepsAll n r [] r
  kept_more : (r : Router) (b u : List ℕ) (r' : Router) (h : Head) (r'' : Router) →
      KeepsAll n r b r' → HasHead u h → IsStep r' n (events.Came h) actions.Keep r'' →
      KeepsAll n r (b ++ u) r''

-- what the machine is told of a unit that is refused: its version, and the code of the report that
-- is owed about it (RFC 8210 sections 5.11 and 12)
abbrev pub fault_of : List ℕ → ViewFault → Fault
fault_of b e = record {
  version = version_field b;
  code = option_map (λ n. record { 0 = n }) (owed (type_field b) (code_of (read_fault [] e)));
}

-- The first k bytes are payload units that the machine keeps, and no whole one follows them.
pub record KeepsUnits (r : Router) (n : ℕ) (input : List ℕ) (k : ℕ) (r' : Router) : Type 0 where
  pub some : 0 < k
  pub within : k ≤ length input
  pub kept : KeepsAll n r (take k input) r'
  pub no_more : BeginsUnit (drop k input) → ⊥

-- the action ends the connection
abbrev pub EndsConnection : Action → Type 0
EndsConnection (actions.End x) = Unit {0}
EndsConnection _ = ⊥

-- The unit from the place `start` to the place `end` makes the machine take this action; those
-- before it are kept. Where there are some, the action ends the connection, and they don't matter
-- any more.
pub record Acts (r : Router) (n : ℕ) (input : List ℕ) (start end : ℕ) (a : Action) (r' : Router) :
    Type 0 where
  pub before : Router
  pub kept : KeepsAll n r (take start input) before
  pub head : Head
  pub unit : HasHead (drop start (take end input)) head
  pub order : start < end
  pub within : end ≤ length input
  pub step : IsStep before n (events.Came head) a r'
  pub other : a ≢ actions.Keep
  pub alone : 0 < start → EndsConnection a

-- The input begins with a unit that is refused, or that the end of the input cuts off.
pub record HearsRefused (r : Router) (n : ℕ) (input : List ℕ) (ended : Bool) (e : ViewFault)
    (a : Action) (r' : Router) : Type 0 where
  pub size : Option ℕ
  pub fault : IsSessionFault input e size
  pub some : 0 < length input
  pub cut : e ≡ Short → ended ≡ true
  pub step : IsStep r n (events.Faulty (fault_of input e)) a r'

-- No whole unit is there yet, or nothing more of any.
pub record Awaits (r : Router) (input : List ℕ) (ended : Bool) (r' : Router) : Type 0 where
  pub same : r' ≡ r
  pub size : Option ℕ
  pub short : IsSessionFault input Short size
  pub none_left : ended ≡ true → input ≡ []

abbrev pub Hears : Router → ℕ → List ℕ → Bool → Told → Router → Type 0
Hears r n input ended told.Awaits r' = Awaits r input ended r'
Hears r n input ended (told.Kept k) r' = KeepsUnits r n input k r'
Hears r n input ended (told.Acted start end a) r' = Acts r n input start end a r'
Hears r n input ended (told.Refused e a) r' = HearsRefused r n input ended e a r'
