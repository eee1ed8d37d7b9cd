-- Objects of units, piece by piece.
use Rattle.std.proofs.Common.{◌≡◌, ℕ, ◌*◌, ◌/◌, Bool, true, List, [], ◌∷◌, ◌++◌, codes}
use Rattle.std.proofs.Common.{decimal, length, refl, sym, ap, ◌∙◌, arith, append_assoc}
use Rattle.std.proofs.Common.{Option, Some, None}
use Rattle.json.specs.Token.{Token, begin_object, end_object}
use Rattle.json.specs.Print.{ends, escape, escape_byte, print, print_from, separator, token_text}
use Rattle.rtr_base.specs.declared.timing.Timing.{Timing}
use Rattle.rtr_base.specs.Actions.{act}
use Rattle.rtr_base.specs.Addresses.{Family, v4, v6}
use Rattle.rtr_base.specs.Bytes.{words}
use Rattle.rtr_base.specs.PlainTexts.{action_text}
use Rattle.rtr_base.proofs.Numbers.{length-words}
use Rattle.rtr_payload.specs.Providers.{words_of}
use Rattle.rtr_payload.specs.UnitFields.{Fields, prefix_unit, key_unit, aspa_unit}
use Rattle.unit_any.specs.AnyFields.{AnyFields, serial_notify, serial_query, reset_query}
use Rattle.unit_any.specs.AnyFields.{cache_response, payload, end_of_data, cache_reset}
use Rattle.unit_any.specs.AnyFields.{error_report, any_list, any_session}
use Rattle.text_lines.specs.ControlEscapes.{escaped}
use Rattle.text_lines.specs.JsonLines.{family_kind, kind_name, number_field, numbers_field}
use Rattle.text_lines.specs.JsonLines.{own_tokens}
use Rattle.text_lines.specs.JsonLines.{parts_tokens, payload_kind, payload_tokens, payload_zeros}
use Rattle.text_lines.specs.JsonLines.{session_tokens, text_field, timing_tokens, tokens_of}
use Rattle.text_lines.specs.JsonLines.{unit_json}
use Rattle.text_lines.specs.TextLines.{fields_version, payload_flags}
use Rattle.text_lines.proofs.EscapedTexts.{plain_front}
use Rattle.text_lines.proofs.JsonPieces.{clean_action, clean_kind}
use Rattle.text_lines.proofs.PlainTexts.{IsPlain, plain_both, plain_by, plain_decimal}
use Rattle.text_lines.proofs.PlainTokens.{plain_payload, plain_said, plain_session, plain_state}
use Rattle.text_lines.proofs.PlainTokens.{plain_zero}

-- ---- what is printed of two lists of tokens

-- whether a value has just ended, after these tokens
abbrev after : Bool → List Token → Bool
after a [] = a
after a (t ∷ ts) = after (ends t) ts

print_both : (a : Bool) (xs ys : List Token) →
    print_from a xs ++ print_from (after a xs) ys ≡ print_from a (xs ++ ys)
unfolding print_from
print_both a [] ys = refl
print_both a (t ∷ xs) ys =
    append_assoc (separator a t) (token_text t ++ print_from (ends t) xs)
    (print_from (after (ends t) xs) ys)
    ∙ ap (λ l. separator a t ++ l)
    (append_assoc (token_text t) (print_from (ends t) xs) (print_from (after (ends t) xs) ys)
    ∙ ap (λ l. token_text t ++ l) (print_both (ends t) xs ys))

-- ---- sizes

four_each : (bytes : List ℕ) → 4 * length (words_of bytes) ≡ length bytes / 4 * 4
four_each [] = refl
four_each (a ∷ []) = refl
four_each (a ∷ b ∷ []) = refl
four_each (a ∷ b ∷ c ∷ []) = refl
four_each (a ∷ b ∷ c ∷ d ∷ bytes) = omega (arith, four_each bytes)

-- the bytes of whole providers
pub words_size : (bytes : List ℕ) → length (words (words_of bytes)) ≡ length bytes / 4 * 4
words_size bytes = length-words (words_of bytes) ∙ four_each bytes

-- ---- units without a payload

pub session_said : (n : ℕ) → (codes ",\"session_id\":" ++ decimal n) ++ codes "}"
    ≡ escaped (print_from true (session_tokens (Some n) ++ end_object ∷ []))
unfolding print_from escape_byte
session_said n = plain_said (session_tokens (Some n) ++ end_object ∷ []) (plain_session n)

pub zero_said : (n : ℕ) → print_from true (numbers_field (codes "zero") (n ∷ [])) ++ codes "}"
    ≡ escaped (print_from true (numbers_field (codes "zero") (n ∷ []) ++ end_object ∷ []))
unfolding print_from
zero_said n =
    print_both true (numbers_field (codes "zero") (n ∷ [])) (end_object ∷ [])
    ∙ plain_said (numbers_field (codes "zero") (n ∷ []) ++ end_object ∷ []) (plain_zero n)

pub state_said : (m n : ℕ) (t : Option Timing) →
    (codes ",\"session_id\":" ++ decimal m) ++ ((codes ",\"serial_number\":" ++ decimal n)
    ++ print_from true (timing_tokens t ++ end_object ∷ []))
    ≡ escaped (print_from true (session_tokens (Some m) ++ number_field (codes "serial_number") n
    ++ timing_tokens t ++ end_object ∷ []))
unfolding print_from escape_byte
state_said m n t = plain_said (session_tokens (Some m)
    ++ number_field (codes "serial_number") n ++ timing_tokens t ++ end_object ∷ [])
    (plain_state m n t)

pub intervals_said : (t : Timing) →
    (codes ",\"refresh_interval\":" ++ decimal t.refresh)
    ++ ((codes ",\"retry_interval\":" ++ decimal t.retry)
    ++ ((codes ",\"expire_interval\":" ++ decimal t.expire) ++ codes "}"))
    ≡ print_from true (timing_tokens (Some t) ++ end_object ∷ [])
unfolding print_from escape_byte
intervals_said t = refl

pub no_intervals_said : (t : Option Timing) → None ≡ t →
    codes "}" ≡ print_from true (timing_tokens t ++ end_object ∷ [])
unfolding print_from
no_intervals_said t e = ap (λ o. print_from true (timing_tokens o ++ end_object ∷ [])) e

-- ---- payload units

pub one_zero_said : (n : ℕ) → (codes ",\"zero\":[" ++ decimal n) ++ codes "]"
    ≡ print_from true (numbers_field (codes "zero") (n ∷ []))
unfolding print_from escape_byte
one_zero_said n = refl

pub two_zeros_said : (m n : ℕ) →
    (codes ",\"zero\":[" ++ decimal m) ++ ((codes "," ++ decimal n) ++ codes "]")
    ≡ print_from true (numbers_field (codes "zero") (m ∷ n ∷ []))
unfolding print_from escape_byte
two_zeros_said m n = refl

flags_said : (n : ℕ) (a : List ℕ) (ts : List Token) → escape a ≡ a →
    (codes ",\"flags\":" ++ decimal n) ++ ((codes ",\"action\":\"" ++ a ++ codes "\"")
    ++ print_from true ts)
    ≡ print_from true (number_field (codes "flags") n ++ text_field (codes "action") a ++ ts)
unfolding print_from escape_byte
flags_said n a ts e = rw e refl

zeros_end : (f : Fields) → after true (numbers_field (codes "zero") (payload_zeros f)) ≡ true
zeros_end (prefix_unit u) = refl
zeros_end (key_unit u) = refl
zeros_end (aspa_unit u) = refl

zeros_said : (f : Fields) (ts : List Token) →
    print_from true (numbers_field (codes "zero") (payload_zeros f)) ++ print_from true ts
    ≡ print_from true (numbers_field (codes "zero") (payload_zeros f) ++ ts)
zeros_said f ts =
    ap (λ a. print_from true (numbers_field (codes "zero") (payload_zeros f)) ++ print_from a ts)
    (sym (zeros_end f))
    ∙ print_both true (numbers_field (codes "zero") (payload_zeros f)) ts

pub payload_said : (f : Fields) →
    (codes ",\"flags\":" ++ decimal (payload_flags f))
    ++ ((codes ",\"action\":\"" ++ action_text (act (payload_flags f)) ++ codes "\"")
    ++ (print_from true (numbers_field (codes "zero") (payload_zeros f))
    ++ print_from true (parts_tokens f ++ end_object ∷ [])))
    ≡ escaped (print_from true (payload_tokens f ++ end_object ∷ []))
payload_said f =
    let flags = payload_flags f in
    let zero = numbers_field (codes "zero") (payload_zeros f) in
    ap (λ l. (codes ",\"flags\":" ++ decimal flags)
    ++ ((codes ",\"action\":\"" ++ action_text (act flags) ++ codes "\"") ++ l))
    (zeros_said f (parts_tokens f ++ end_object ∷ []))
    ∙ flags_said flags (action_text (act flags)) (zero ++ (parts_tokens f ++ end_object ∷ []))
    (clean_action (act flags))
    ∙ ap (λ ts. print_from true (number_field (codes "flags") flags
    ++ text_field (codes "action") (action_text (act flags)) ++ ts))
    (sym (append_assoc zero (parts_tokens f) (end_object ∷ [])))
    ∙ plain_said (payload_tokens f ++ end_object ∷ []) (plain_payload f)

-- ---- the fields that all units have

plain_family : (f : Family) → IsPlain (family_kind f)
plain_family v4 = plain_by (codes "ipv4_prefix") refl
plain_family v6 = plain_by (codes "ipv6_prefix") refl

plain_kind : (f : Fields) → IsPlain (payload_kind f)
plain_kind (prefix_unit u) = plain_family u.origin.family
plain_kind (key_unit u) = plain_by (codes "router_key") refl
plain_kind (aspa_unit u) = plain_by (codes "aspa") refl

clean_name : (f : AnyFields) → escape (kind_name f) ≡ kind_name f
unfolding escape_byte
clean_name (serial_notify version session serial) = refl
clean_name (serial_query version session serial) = refl
clean_name (reset_query version session) = refl
clean_name (cache_response version session) = refl
clean_name (payload fields) = clean_kind fields
clean_name (end_of_data meaning) = refl
clean_name (cache_reset version session) = refl
clean_name (error_report version code body) = refl

plain_name : (f : AnyFields) → IsPlain (kind_name f)
plain_name (serial_notify version session serial) = plain_by (codes "serial_notify") refl
plain_name (serial_query version session serial) = plain_by (codes "serial_query") refl
plain_name (reset_query version session) = plain_by (codes "reset_query") refl
plain_name (cache_response version session) = plain_by (codes "cache_response") refl
plain_name (payload fields) = plain_kind fields
plain_name (end_of_data meaning) = plain_by (codes "end_of_data") refl
plain_name (cache_reset version session) = plain_by (codes "cache_reset") refl
plain_name (error_report version code body) = plain_by (codes "error_report") refl

abbrev front : (o n : ℕ) (k : List ℕ) → ℕ → List ℕ → List ℕ
front o n k v rest =
    (codes "{\"offset\":" ++ decimal o) ++ ((codes ",\"length\":" ++ decimal n)
    ++ ((codes ",\"kind\":\"" ++ k ++ codes "\"") ++ ((codes ",\"version\":" ++ decimal v)
    ++ rest)))

front_printed : (o n : ℕ) (k : List ℕ) (v : ℕ) (ts : List Token) → escape k ≡ k →
    front o n k v (print_from true ts)
    ≡ print (begin_object ∷ (number_field (codes "offset") o ++ number_field (codes "length") n
    ++ text_field (codes "kind") k ++ number_field (codes "version") v ++ ts))
unfolding print_from escape_byte
front_printed o n k v ts e = rw e refl

front_plain : (o n : ℕ) (k : List ℕ) (v : ℕ) (l : List ℕ) → IsPlain k →
    front o n k v (escaped l) ≡ escaped (front o n k v l)
front_plain o n k v l h =
    let number = plain_decimal in
    sym (
    plain_front (codes "{\"offset\":" ++ decimal o) _
    (plain_both (plain_by (codes "{\"offset\":") refl) (number o))
    ∙ ap (λ m. (codes "{\"offset\":" ++ decimal o) ++ m)
    (plain_front (codes ",\"length\":" ++ decimal n) _
    (plain_both (plain_by (codes ",\"length\":") refl) (number n))
    ∙ ap (λ m. (codes ",\"length\":" ++ decimal n) ++ m)
    (plain_front (codes ",\"kind\":\"" ++ k ++ codes "\"") _
    (plain_both (plain_both (plain_by (codes ",\"kind\":\"") refl) h)
    (plain_by (codes "\"") refl))
    ∙ ap (λ m. (codes ",\"kind\":\"" ++ k ++ codes "\"") ++ m)
    (plain_front (codes ",\"version\":" ++ decimal v) l
    (plain_both (plain_by (codes ",\"version\":") refl) (number v))))))

pub unit_said : (offset : ℕ) (f : AnyFields) →
    (codes "{\"offset\":" ++ decimal offset)
    ++ ((codes ",\"length\":" ++ decimal (length (any_list f)))
    ++ ((codes ",\"kind\":\"" ++ kind_name f ++ codes "\"")
    ++ ((codes ",\"version\":" ++ decimal (fields_version f))
    ++ escaped (print_from true (session_tokens (any_session f) ++ own_tokens f
    ++ end_object ∷ [])))))
    ≡ unit_json offset f
unfolding tokens_of
unit_said offset f =
    let ts = session_tokens (any_session f) ++ own_tokens f ++ end_object ∷ [] in
    front_plain offset (length (any_list f)) (kind_name f) (fields_version f)
    (print_from true ts) (plain_name f)
    ∙ ap escaped (front_printed offset (length (any_list f)) (kind_name f) (fields_version f) ts
    (clean_name f))
