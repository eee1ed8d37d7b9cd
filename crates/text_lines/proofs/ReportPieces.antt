-- Error reports as JSON, piece by piece.
use Rattle.std.proofs.Common.{◌≡◌, ℕ, Bool, true, false, List, [], ◌∷◌, ◌++◌, codes, decimal}
use Rattle.std.proofs.Common.{refl, sym, ap, ◌∙◌, append_assoc, None, arith}
use Rattle.std.specs.Prelude.{if◌then◌else◌}
use Rattle.std.specs.Str.{IsUtf8, is_utf8}
use Rattle.std.proofs.lemmas.Str.{IsUtf8-from_is_utf8, is_utf8-from_IsUtf8}
use Rattle.json.specs.Token.{Token, end_object, key, string, null}
use Rattle.json.specs.Print.{escape, escape_byte, print_from, quoted, token_text}
use Rattle.text_lines.specs.ControlEscapes.{escaped}
use Rattle.text_lines.specs.JsonLines.{number_field, report_tokens, text_field, text_token}
use Rattle.text_lines.proofs.EscapedTexts.{before_text, plain_front, plain_stays}
use Rattle.text_lines.proofs.PlainTexts.{IsPlain, plain_both, plain_by, plain_decimal}

-- a string and the end of the object
pub string_end : (t : List ℕ) →
    codes "\"" ++ (escaped (escape t) ++ codes "\"}") ≡ escaped (quoted t ++ codes "}")
string_end t =
    ap (λ l. codes "\"" ++ (escaped (escape t) ++ l))
    (sym (plain_stays (codes "\"}") (plain_by (codes "\"}") refl)))
    ∙ ap (λ l. codes "\"" ++ l) (sym (before_text (escape t) (codes "}") 34 (omega arith)))
    ∙ sym (plain_front (codes "\"") (escape t ++ codes "\"}") (plain_by _ refl))
    ∙ ap (λ l. escaped (codes "\"" ++ l)) (sym (append_assoc (escape t) (codes "\"") (codes "}")))

pub text_end_said : (bytes shown lent : List ℕ) → (shown ≡ bytes) × IsUtf8 bytes → lent ≡ shown →
    escaped (quoted lent ++ codes "}") ≡ escaped (token_text (text_token bytes) ++ codes "}")
text_end_said bytes shown lent (e, is) same =
    rw (is_utf8-from_IsUtf8 bytes is) (ap (λ l. escaped (quoted l ++ codes "}")) (same ∙ e))

broken_text : (b : Bool) (bytes : List ℕ) → is_utf8 bytes ≡ b → (IsUtf8 bytes → ⊥) →
    codes "null}" ≡ escaped (token_text (if b then string bytes else null) ++ codes "}")
broken_text true bytes e broken = absurd (broken (IsUtf8-from_is_utf8 bytes e))
broken_text false bytes e broken = sym (plain_stays (codes "null}") (plain_by (codes "null}") refl))

pub null_end_said : (bytes : List ℕ) → (IsUtf8 bytes → ⊥) →
    codes "null}" ≡ escaped (token_text (text_token bytes) ++ codes "}")
null_end_said bytes broken = broken_text (is_utf8 bytes) bytes refl broken

-- what stands before the text
abbrev before_text_field : (p h l : List ℕ) → List ℕ
before_text_field p h l =
    codes ",\"erroneous_pdu\":\"" ++ (p ++ (codes "\",\"error_text_bytes\":\"" ++ (h
    ++ (codes "\",\"error_text\":" ++ l))))

front_plain : (p h l : List ℕ) → IsPlain p → IsPlain h →
    before_text_field p h (escaped l) ≡ escaped (before_text_field p h l)
front_plain p h l a b =
    sym (
    plain_front (codes ",\"erroneous_pdu\":\"") _ (plain_by _ refl)
    ∙ ap (λ m. codes ",\"erroneous_pdu\":\"" ++ m) (plain_front p _ a
    ∙ ap (λ m. p ++ m) (plain_front (codes "\",\"error_text_bytes\":\"") _ (plain_by _ refl)
    ∙ ap (λ m. codes "\",\"error_text_bytes\":\"" ++ m) (plain_front h _ b
    ∙ ap (λ m. h ++ m) (plain_front (codes "\",\"error_text\":") l (plain_by _ refl))))))

printed_text : (b : Bool) (p h text : List ℕ) → escape p ≡ p → escape h ≡ h →
    before_text_field p h (token_text (if b then string text else null) ++ codes "}")
    ≡ print_from true (text_field (codes "erroneous_pdu") p
    ++ text_field (codes "error_text_bytes") h
    ++ key (codes "error_text") ∷ (if b then string text else null) ∷ [] ++ end_object ∷ [])
unfolding print_from escape_byte
printed_text true p h text e f =
    rw (e, f, append_assoc p (34 ∷ []), append_assoc h (34 ∷ [])) refl
printed_text false p h text e f =
    rw (e, f, append_assoc p (34 ∷ []), append_assoc h (34 ∷ [])) refl

pub parts_said : (p h text : List ℕ) → escape p ≡ p → escape h ≡ h → IsPlain p → IsPlain h →
    codes ",\"erroneous_pdu\":\"" ++ (p ++ (codes "\",\"error_text_bytes\":\"" ++ (h
    ++ (codes "\",\"error_text\":" ++ escaped (token_text (text_token text) ++ codes "}")))))
    ≡ escaped (print_from true (text_field (codes "erroneous_pdu") p
    ++ text_field (codes "error_text_bytes") h
    ++ key (codes "error_text") ∷ text_token text ∷ [] ++ end_object ∷ []))
parts_said p h text e f a b =
    front_plain p h (token_text (text_token text) ++ codes "}") a b
    ∙ ap escaped (printed_text (is_utf8 text) p h text e f)

pub no_parts_said :
    codes ",\"erroneous_pdu\":null,\"error_text_bytes\":null" ++ codes ",\"error_text\":null}"
    ≡ escaped (print_from true (report_tokens None ++ end_object ∷ []))
unfolding print_from escape_byte
no_parts_said =
    sym (plain_stays (print_from true (report_tokens None ++ end_object ∷ [])) (plain_by _ refl))

pub error_said : (n : ℕ) (ts : List Token) →
    (codes ",\"error_code\":" ++ decimal n) ++ escaped (print_from true ts)
    ≡ escaped (print_from true (number_field (codes "error_code") n ++ ts))
unfolding print_from escape_byte
error_said n ts =
    sym (plain_front (codes ",\"error_code\":" ++ decimal n) (print_from true ts)
    (plain_both (plain_by (codes ",\"error_code\":") refl) (plain_decimal n)))
