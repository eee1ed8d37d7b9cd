-- Data as bytes in canonical form, and the parts of a delta (this library's own; units and the end
-- of data by RFC 8210 section 5, the order of payloads as in `Data`).
use Rattle.std.specs.Prelude.{◌≡◌, ◌<◌, ◌≤◌, ℕ, List, ◌++◌, map, filter, not, Bool, length, drop}
use Rattle.std.specs.Prelude.{Option, Some, None}
use Rattle.rtr_base.specs.declared.action.Action.{Action}
use Rattle.rtr_base.specs.declared.action.Action.TheVariants.{Announce, Withdraw}
use Rattle.rtr_units.specs.End.{EndMeaning}
use Rattle.rtr_payload.specs.Payloads.{Payload, Meaning}
use Rattle.rtr_wire.specs.Sequences.{Accepts}
use Rattle.data_memory.specs.Data.{Change, IsData, announcement, withdrawal, has, has_name}
use Rattle.data_memory.specs.Deltas.{unit_of}

-- the units that announce data in version v
abbrev pub data_units : ℕ → List Payload → List Meaning
data_units v d = map (unit_of v) (map announcement d)

-- The input begins with data: with units that announce it in order, all of one version, and an end
-- of data of that version.
pub record HoldsData (input : List ℕ) (d : List Payload) (e : EndMeaning) : Type 0 where
  pub bytes : List ℕ
  pub accepts : Accepts input bytes (data_units e.version d) e
  pub in_order : IsData d

-- the input begins with some data
abbrev pub HasData : List ℕ → Type 0
HasData input = (d : List Payload) × (e : EndMeaning) × HoldsData input d e

-- ---- the parts of a delta

-- whether the list has what a change of the payload would make: the payload itself, or for a
-- withdrawal one of its name
abbrev pub holds : Action → List Payload → Payload → Bool
holds Announce d p = has d p
holds Withdraw d p = has_name d p

-- those of these payloads that those lack
abbrev pub missing : Action → (these those : List Payload) → List Payload
missing action these those = filter (λ p. not (holds action those p)) these

abbrev pub change : Action → Payload → Change
change Announce p = announcement p
change Withdraw p = withdrawal p

-- All of the piece was written to the front of a slice, and what follows is as it was; or there is
-- no room for all of it, and only a front of it was written.
abbrev pub PlacesFront : Option ℕ → (piece before after : List ℕ) → Type 0
PlacesFront (Some n) piece before after =
    (n ≡ length piece) × (n ≤ length before) × (after ≡ piece ++ drop n before)
PlacesFront None piece before after =
    (length before < length piece)
    × ((front back : List ℕ) × (piece ≡ front ++ back)
    × (after ≡ front ++ drop (length front) before))
