-- What is printed of the change that a unit makes.
use Rattle.std.proofs.Common.{◌≡◌, ℕ, ◌++◌, ◌∷◌, [], refl, ap}
use Rattle.std.specs.Prelude.{codes}
use Rattle.json.specs.Token.{begin_object, end_object}
use Rattle.json.specs.Print.{print}
use Rattle.rtr_base.specs.Actions.{act, flags_of}
use Rattle.rtr_base.specs.PlainTexts.{action_text}
use Rattle.rtr_base.specs.declared.action.Action.{Action}
use Rattle.rtr_base.specs.declared.action.Action.TheVariants.{Announce, Withdraw}
use Rattle.rtr_payload.specs.UnitFields.{Fields, prefix_unit, key_unit, aspa_unit}
use Rattle.text_lines.specs.JsonLines.{parts_tokens, payload_kind, text_field}
use Rattle.text_lines.specs.PayloadLines.{payload_json, payload_object}
use Rattle.text_lines.specs.TextLines.{change_said, meant_fields, payload_flags}
use Rattle.diff_work.specs.Differences.{change_fields, unit_change, change_piece}
use Rattle.diff_work.specs.declared.words.Form.TheVariants.{Json, Text}

act_of : (a : Action) → act (flags_of a) ≡ a
act_of Announce = refl
act_of Withdraw = refl

pub text_of : (v : ℕ) (f : Fields) →
    change_piece Text v (unit_change f) ≡ change_said f ++ codes "\n"
unfolding change_piece
text_of v (prefix_unit u) = refl
text_of v (key_unit u) = refl
text_of v (aspa_unit u) = refl

-- the object by its kind, its action and its parts
object_of : (f g : Fields) → payload_kind f ≡ payload_kind g → parts_tokens f ≡ parts_tokens g →
    act (payload_flags f) ≡ act (payload_flags g) → payload_json f ≡ payload_json g
unfolding payload_object
object_of f g k p a =
    λ i. print (begin_object ∷ (
    text_field (codes "kind") (k i)
    ++ text_field (codes "action") (action_text (a i))
    ++ p i
    ++ end_object ∷ []))

same_object : (f : Fields) → payload_json (change_fields (unit_change f)) ≡
    payload_json (meant_fields f)
same_object (prefix_unit u) =
    object_of (change_fields (unit_change (prefix_unit u))) (meant_fields (prefix_unit u)) refl refl
    (act_of (act u.flags))
same_object (key_unit u) =
    object_of (change_fields (unit_change (key_unit u))) (meant_fields (key_unit u)) refl refl
    (act_of (act u.flags))
same_object (aspa_unit u) =
    object_of (change_fields (unit_change (aspa_unit u))) (meant_fields (aspa_unit u)) refl refl
    (act_of (act u.flags))

pub json_of : (v : ℕ) (f : Fields) →
    change_piece Json v (unit_change f) ≡ payload_json (meant_fields f) ++ codes "\n"
unfolding change_piece
json_of v f = ap (λ l. l ++ codes "\n") (same_object f)
