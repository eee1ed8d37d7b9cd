-- What is printed of two files: a function of their data, and of the end of data of the second. The
-- words are this program's own; units by RFC 8210 section 8.2.
use Rattle.std.specs.Prelude.{ℕ, Bool, true, false, List, [], ◌∷◌, ◌++◌, codes, nat_le}
use Rattle.std.specs.Prelude.{if◌then◌else◌}
use Rattle.std.specs.List.{flat_map}
use Rattle.rtr_base.specs.Actions.{flags_of}
use Rattle.rtr_payload.specs.Payloads.{Payload, smallest_version}
use Rattle.rtr_payload.specs.UnitFields.{Fields, meaning, written_fields}
use Rattle.rtr_payload.specs.Units.{form_of}
use Rattle.data_memory.specs.Changes.{changes}
use Rattle.data_memory.specs.Data.{Change}
use Rattle.data_memory.specs.Deltas.{unit_of}
use Rattle.text_lines.specs.PayloadLines.{payload_json}
use Rattle.text_lines.specs.TextLines.{payload_said, sign_of}
use Rattle.diff_work.specs.declared.words.Form.{Form}
use Rattle.diff_work.specs.declared.words.Form.TheVariants.{Text, Json, Units}

-- the fields of a unit that makes the change
abbrev pub change_fields : Change → Fields
change_fields c = written_fields 0 (flags_of c.action) c.payload

-- the change that a unit makes
abbrev pub unit_change : Fields → Change
unit_change f = record { action = (meaning f).action; payload = (meaning f).payload }

-- What is printed of a change, where units have version v: a line with its sign and the payload in
-- the words of a listing, a line of JSON, or the unit that makes it, where the version has one.
unfoldable pub change_piece : Form → (v : ℕ) → Change → List ℕ
change_piece Text v c = sign_of c.action ++ payload_said (change_fields c) ++ codes "\n"
change_piece Json v c = payload_json (change_fields c) ++ codes "\n"
change_piece Units v c =
    if nat_le (smallest_version c.payload) v then form_of (unit_of v c) else []

-- of all these changes, one after the other
abbrev pub change_pieces : Form → (v : ℕ) → List Change → List ℕ
change_pieces form v cs = flat_map (change_piece form v) cs

-- what is printed last: the bytes of the end of data after units
abbrev pub last_piece : Form → List ℕ → List ℕ
last_piece Text end = []
last_piece Json end = []
last_piece Units end = end

-- What is printed of old data and new, where the end of data of the new has this version and these
-- bytes: all changes from the one to the other, and after units that end of data.
abbrev pub differences : Form → (v : ℕ) (old new : List Payload) (end : List ℕ) → List ℕ
differences form v old new end =
    change_pieces form v (changes old new) ++ last_piece form end

-- whether there is a change
abbrev pub has_some : List Change → Bool
has_some [] = false
has_some (c ∷ cs) = true
