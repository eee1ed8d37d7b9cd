-- What a payload unit announces or withdraws, as a line of its own in the words of the unit's line:
-- this program's own.
use Rattle.std.specs.Prelude.{ℕ, List, [], ◌∷◌, ◌++◌, codes}
use Rattle.json.specs.Token.{Token, begin_object, end_object}
use Rattle.json.specs.Print.{print}
use Rattle.rtr_base.specs.Actions.{act}
use Rattle.rtr_base.specs.PlainTexts.{action_text}
use Rattle.rtr_payload.specs.UnitFields.{Fields}
use Rattle.unit_any.specs.AnyFields.{AnyFields, payload}
use Rattle.text_lines.specs.JsonLines.{text_field, payload_kind, parts_tokens}
use Rattle.text_lines.specs.TextLines.{meant_fields, payload_flags}

-- its object: the kind, what is done, and the parts, by their names in the unit's object
unfoldable pub payload_object : Fields → List Token
payload_object fields =
    begin_object ∷ (
    text_field (codes "kind") (payload_kind fields)
    ++ text_field (codes "action") (action_text (act (payload_flags fields)))
    ++ parts_tokens fields
    ++ end_object ∷ [])

-- the object as the crate `json` writes it, without spaces
abbrev pub payload_json : Fields → List ℕ
payload_json fields = print (payload_object fields)

-- that of the change that a unit makes, of its written form; the others make no change
abbrev pub change_json : AnyFields → List ℕ
change_json (payload fields) = payload_json (meant_fields fields)
change_json unit = []
