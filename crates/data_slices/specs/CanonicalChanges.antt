-- Changes as bytes in canonical form (this library's own; units and the end of data by RFC 8210
-- section 5).
use Rattle.std.specs.Prelude.{◌≡◌, ℕ, List, ◌++◌, map, false}
use Rattle.std.specs.List.{AllByRecursion}
use Rattle.rtr_units.specs.End.{EndMeaning}
use Rattle.rtr_payload.specs.Payloads.{Payload}
use Rattle.rtr_wire.specs.Sequences.{Accepts}
use Rattle.data_memory.specs.Data.{Change, IsData, announcement, withdrawal, has_name}
use Rattle.data_memory.specs.Deltas.{unit_of}

-- Changes in canonical form: announcements, and then withdrawals, each in the order of names, and
-- no name twice.
pub record AreOrdered (cs : List Change) : Type 0 where
  pub announced : List Payload
  pub withdrawn : List Payload
  pub parts : cs ≡ map announcement announced ++ map withdrawal withdrawn
  pub announced_in_order : IsData announced
  pub withdrawn_in_order : IsData withdrawn
  pub apart : AllByRecursion (λ p. has_name announced p ≡ false) withdrawn

-- The input begins with changes in canonical form: with the units that make them, all of one
-- version, and an end of data of that version.
pub record HoldsChanges (input : List ℕ) (cs : List Change) (e : EndMeaning) : Type 0 where
  pub bytes : List ℕ
  pub accepts : Accepts input bytes (map (unit_of e.version) cs) e
  pub in_order : AreOrdered cs

-- the input begins with some changes
abbrev pub HasChanges : List ℕ → Type 0
HasChanges input = (cs : List Change) × (e : EndMeaning) × HoldsChanges input cs e
