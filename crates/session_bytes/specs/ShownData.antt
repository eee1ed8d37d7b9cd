-- What a router shows whose caller makes the changes of an answer by `apply_in_order` of
-- `data_slices`: data that whole answers made, whatever bytes come (RFC 8210 sections 8.1 and 8.2).
use Rattle.std.specs.Prelude.{◌≡◌, ℕ, ⊤, List, [], ◌∷◌, ◌++◌, map, take, Option, Some, None}
use Rattle.std.specs.Prelude.{Ok, unwrap_or}
use Rattle.std.specs.List.{concat}
use Rattle.rtr_units.specs.End.{EndMeaning}
use Rattle.rtr_payload.specs.Payloads.{Payload}
use Rattle.rtr_wire.specs.Sequences.{AreUnits}
use Rattle.data_memory.specs.Changes.{after_all}
use Rattle.data_memory.specs.Data.{Change}
use Rattle.data_memory.specs.Deltas.{unit_of}
use Rattle.data_slices.specs.Canonical.{HoldsData}
use Rattle.data_slices.specs.InOrder.{AppliesInOrder}
use Rattle.session_router.specs.declared.event.Action.{Action}
use Rattle.session_router.specs.declared.event.Event.{Event}
use Rattle.session_router.specs.declared.event.Event.TheVariants as events
use Rattle.session_router.specs.declared.head.Head.{Head}
use Rattle.session_router.specs.declared.head.Known.{Known}
use Rattle.session_router.specs.declared.router.Router.{Router}
use Rattle.session_router.specs.declared.settings.Settings.{Settings}
use Rattle.session_router.specs.Histories.{Caller, HistoryHas, Host, IsHistory, Moment, at}
use Rattle.session_router.specs.Histories.{host_after}
use Rattle.session_router.specs.Rules.{known_of}
use Rattle.session_bytes.specs.Heads.{HasHead, end_head}

-- ---- what came, and what a caller makes of it, in bytes

-- what the machine was told of a unit, it was told of these bytes
abbrev pub IsHeard : Event → List ℕ → Type 0
IsHeard (events.Came u) b = HasHead b u
IsHeard e b = ⊤

abbrev pub AreHeard : List (Moment (List ℕ)) → Type 0
AreHeard [] = ⊤
AreHeard (m ∷ ms) = IsHeard m.event m.body × AreHeard ms

-- The run of a caller that had this, after which the machine is r: it was told of the units that b
-- is, one after the other, and keeps them.
pub record KeepsOn (c : Caller (List ℕ) (List ℕ)) (h : Host (List ℕ) (List ℕ)) (b : List ℕ)
    (r : Router) : Type 0 where
  pub history : List (Moment (List ℕ))
  pub units : List (List ℕ)
  pub joined : concat units ≡ b
  pub heard : AreHeard history
  pub run :
      IsHistory c history r (record { kept = h.kept ++ units; made = h.made; shown = h.shown })

-- and then of one more unit, at which the machine takes this action
pub record ActsOn (c : Caller (List ℕ) (List ℕ)) (h : Host (List ℕ) (List ℕ)) (n : ℕ)
    (b unit : List ℕ) (a : Action) (r : Router) : Type 0 where
  pub before : Router
  pub kept : KeepsOn c h b before
  pub head : Head
  pub heard : HasHead unit head
  pub run :
      IsHistory c (at n (events.Came head) unit a ∷ kept.history) r
      (host_after c
      (record { kept = h.kept ++ kept.units; made = h.made; shown = h.shown }) unit a)

-- what changes are made onto: the data, or where there are none the end of data that came, alone
abbrev pub base_of : Option (List ℕ) → (end : List ℕ) → List ℕ
base_of (Some old) end = old
base_of None end = end

-- `apply_in_order` was called with the payload units of an answer and its end of data, and wrote
-- these data
pub record WritesAnswer (old : Option (List ℕ)) (units : List (List ℕ)) (end new : List ℕ) :
    Type 0 where
  pub size : ℕ
  pub places : ℕ
  pub before : List ℕ
  pub after : List ℕ
  pub applies :
      AppliesInOrder (Ok size) (base_of old end) (concat units ++ end) places before after
  pub new_is : new ≡ take size after

-- a caller that makes changes so, or refuses them
abbrev pub AppliesAnswers : Caller (List ℕ) (List ℕ) → Type 0
AppliesAnswers c = (old : Option (List ℕ)) (units : List (List ℕ)) (end new : List ℕ) →
    c.make old units end ≡ Some new → WritesAnswer old units end new

-- ---- what they are

-- These units, in the order in which they came, each of the version of the data that k names, make
-- changes that are all allowed, one after the other, and lead from the old payloads, or from none,
-- to the new ones.
pub record MakesPayloads (k : Known) (old : Option (List Payload)) (units : List (List ℕ))
    (end : List ℕ) (new : List Payload) : Type 0 where
  pub changes : List Change
  pub are_units : AreUnits (concat units) (map (unit_of k.version) changes)
  pub made : after_all changes (Ok (unwrap_or old [])) ≡ Ok new

-- The bytes that are shown are data in canonical form: payloads, each in a unit of one version, and
-- the end of data that k names them by, which came at `since`: one whole answer made them, of the
-- payloads before or of none.
pub record ShowsAnswer (s : Settings) (ms : List (Moment (List ℕ))) (k : Known)
    (shown : List ℕ) : Type 0 where
  pub payloads : List Payload
  pub end : EndMeaning
  pub since : ℕ
  pub holds : HoldsData shown payloads end
  pub named : known_of (end_head end 0) ≡ k
  pub has : HistoryHas s MakesPayloads ms k since payloads
