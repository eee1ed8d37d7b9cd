-- Data: the payloads that a cache has, or that a router has of a cache, and how announcements and
-- withdrawals change them (RFC 8210 sections 5.6, 5.7, 5.10 and 12; ASPAs as in the Rust crate).
use Rattle.std.specs.Prelude.{Bool, true, false, not, ◌&&◌, List, []}
use Rattle.std.specs.Prelude.{Result, Ok, Err, if◌then◌else◌}
use Rattle.std.specs.BTreeSet.{replace_key}
use Rattle.std.specs.BTreeMap.{is_at}
use Rattle.std.specs.List.{list_any}
use Rattle.std.specs.List.Sorted.{IsStrictlySortedBy}
use Rattle.std.specs.Ordering.{on}
use Rattle.std.specs.Set.{remove_key}
use Rattle.std.specs.declared.cmp.Ordering.{Ordering}
use Rattle.rtr_base.specs.declared.action.Action.{Action}
use Rattle.rtr_base.specs.declared.action.Action.TheVariants.{Announce, Withdraw}
use Rattle.rtr_payload.specs.Orders.{payload_cmp}
use Rattle.rtr_payload.specs.Payloads.{Payload, origin, key, aspa}
use Rattle.data_memory.specs.declared.change_error.ChangeError.{ChangeError}
use Rattle.data_memory.specs.declared.change_error.ChangeError.TheVariants.{Duplicate, Unknown}

-- what is withdrawn for a payload, and names it: of an ASPA the customer alone
abbrev pub name_of : Payload → Payload
name_of (origin o) = origin o
name_of (key k) = key k
name_of (aspa a) = aspa (record { customer = a.customer; providers = [] })

-- the order of names
unfoldable pub name_cmp : Payload → Payload → Ordering
name_cmp = on name_of payload_cmp

-- payloads in the order of their names, each name once: no payload twice, and of each customer one
-- ASPA at most
abbrev pub IsData : List Payload → Type 0
IsData d = IsStrictlySortedBy name_cmp d

-- whether this very payload is there
abbrev pub has : List Payload → Payload → Bool
has d p = list_any (is_at (payload_cmp p)) d

-- whether one of its name is there
abbrev pub has_name : List Payload → Payload → Bool
has_name d p = list_any (is_at (name_cmp p)) d

-- an ASPA that is announced takes the place of the one of its customer, and nothing else does
unfoldable pub takes_place : Payload → Bool
takes_place (origin o) = false
takes_place (key k) = false
takes_place (aspa a) = true

-- an announcement or a withdrawal
pub record Change : Type 0 where
  pub action : Action
  pub payload : Payload

-- What a change makes of data, or why it is refused: what is announced must not be there, unless
-- it takes the place of what is; and what is withdrawn must be there.
abbrev pub changed : Action → Payload → List Payload → Result (List Payload) ChangeError
changed Announce p d = if has_name d p && not (takes_place p) then Err Duplicate
    else Ok (replace_key name_cmp d p)
changed Withdraw p d = if has_name d p then Ok (remove_key (is_at (name_cmp p)) d)
    else Err Unknown

abbrev pub after : Change → List Payload → Result (List Payload) ChangeError
after c d = changed c.action c.payload d

abbrev pub announcement : Payload → Change
announcement p = record { action = Announce; payload = p }

abbrev pub withdrawal : Payload → Change
withdrawal p = record { action = Withdraw; payload = name_of p }
