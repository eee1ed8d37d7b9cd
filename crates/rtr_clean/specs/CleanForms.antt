-- What is written for a session's units (RFC 8210 sections 5.2 to 5.11; ASPA units as in the Rust
-- crate), and after which of them nothing may wait, which is this program's own.
use Rattle.std.specs.Prelude.{ℕ, List, [], ◌∷◌, Bool, true, false, ⊤}
use Rattle.std.specs.List.{flat_map, AllByRecursion}
use Rattle.rtr_units.specs.End.{end_list}
use Rattle.rtr_payload.specs.UnitFields.{LengthsAgree, meaning}
use Rattle.unit_any.specs.AnyFields.{AnyFields, cache_response, payload, end_of_data}
use Rattle.unit_any.specs.AnyFields.{HasAnyFields, any_list}
use Rattle.unit_any.specs.SessionForms.{session_form}
use Rattle.rtr_wire.specs.Sequences.{Output, forms, written_units}

-- The bytes that are written for a unit: of a payload unit what is asked for, in its written form,
-- or nothing; of an end of data the one that is asked for; of all others their written form.
abbrev pub clean_form : Output → AnyFields → List ℕ
clean_form what (payload fields) = forms (written_units what (meaning fields ∷ []))
clean_form what (end_of_data meaning) = end_list (what.end meaning)
clean_form what others = session_form others

-- the lengths of a prefix are in order (RFC 8210 sections 5.1, 5.6 and 5.7)
abbrev pub KeepsRule : AnyFields → Type 0
KeepsRule (payload fields) = LengthsAgree fields
KeepsRule others = ⊤

-- a unit that is passed on
abbrev pub IsPassed : AnyFields → Type 0
IsPassed unit = HasAnyFields (any_list unit) unit × KeepsRule unit

-- The unit ends what a peer says: all do but a cache response and payload units, after which an end
-- of data comes (RFC 8210 sections 8.1 and 8.2).
abbrev pub ends_answer : AnyFields → Bool
ends_answer (cache_response version session) = false
ends_answer (payload fields) = false
ends_answer others = true

-- ---- units one after the other

abbrev pub ArePassed : List AnyFields → Type 0
ArePassed units = AllByRecursion IsPassed units

-- their bytes as they came
abbrev pub stream_bytes : List AnyFields → List ℕ
stream_bytes units = flat_map any_list units

-- the bytes that are written for them
abbrev pub clean_stream : Output → List AnyFields → List ℕ
clean_stream what units = flat_map (clean_form what) units
