-- What the changes of a sequence come to, name by name (which may follow one another: RFC 8210
-- sections 5.6 and 5.10, of ASPAs as in the Rust crate; what they come to is this library's own).
use Rattle.std.specs.Prelude.{◌≡◌, ⊤, Bool, true, false, List, [], ◌∷◌, if◌then◌else◌, filter}
use Rattle.std.specs.BTreeMap.{is_at}
use Rattle.rtr_base.specs.declared.action.Action.{Action}
use Rattle.rtr_base.specs.declared.action.Action.TheVariants.{Announce, Withdraw}
use Rattle.rtr_payload.specs.Payloads.{Payload}
use Rattle.data_memory.specs.Data.{Change, name_cmp, takes_place}
use Rattle.data_slices.specs.CanonicalChanges.{AreOrdered}

-- those of the name of the payload, as they come
abbrev pub of_name : Payload → List Change → List Change
of_name p cs = filter (λ c. is_at (name_cmp p) c.payload) cs

-- ---- changes of one name

-- whether the one may come right after the other, where the later is of this payload
abbrev pub may_follow : (before later : Action) → Payload → Bool
may_follow Announce Announce p = takes_place p
may_follow Withdraw Withdraw p = false
may_follow Announce Withdraw p = true
may_follow Withdraw Announce p = true

-- each may come right after the one before it, the first of them after this one
abbrev pub Follow : Change → List Change → Type 0
Follow c [] = ⊤
Follow c (d ∷ ds) = (may_follow c.action d.action d.payload ≡ true) × Follow d ds

abbrev pub AreLinked : List Change → Type 0
AreLinked [] = ⊤
AreLinked (c ∷ cs) = Follow c cs

abbrev pub last_of : (first : Change) → (later : List Change) → Change
last_of c [] = c
last_of c (d ∷ ds) = last_of d ds

-- By the first action and the last, whether they come to the last change; else they come to
-- nothing: what was there is withdrawn and announced again, or what was not is announced and
-- withdrawn. An ASPA may be announced as another than it was.
abbrev pub settles : (first last : Action) → Payload → Bool
settles Announce Announce p = true
settles Withdraw Withdraw p = true
settles Withdraw Announce p = takes_place p
settles Announce Withdraw p = false

-- whether it depends on the data: an ASPA that is announced may have been there, and is withdrawn
abbrev pub is_open : (first last : Action) → Payload → Bool
is_open Announce Announce p = false
is_open Withdraw Withdraw p = false
is_open Withdraw Announce p = false
is_open Announce Withdraw p = takes_place p

-- what changes of one name come to: the last of them, or nothing
abbrev pub net : List Change → List Change
net [] = []
net (c ∷ cs) = if settles c.action (last_of c cs).action (last_of c cs).payload
    then last_of c cs ∷ [] else []

abbrev pub undecided : List Change → Bool
undecided [] = false
undecided (c ∷ cs) = is_open c.action (last_of c cs).action (last_of c cs).payload

-- ---- changes of any names

-- These are in canonical form, and of each name they have what those of the name come to.
pub record Nets (cs ns : List Change) : Type 0 where
  pub in_order : AreOrdered ns
  pub of_each : (p : Payload) → of_name p ns ≡ net (of_name p cs)

-- of no name it depends on the data what they come to
abbrev pub AreDecided : List Change → Type 0
AreDecided cs = (p : Payload) → undecided (of_name p cs) ≡ false
