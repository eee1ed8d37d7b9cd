-- Fields of units that are printed without bytes above those that ASCII prints.
use Rattle.std.proofs.Common.{◌≡◌, ℕ, ◌<◌, ◌/◌, ◌%◌, ◌*◌, ◌+◌, ◌&&◌, Bool, true, false, List}
use Rattle.std.proofs.Common.{[], ◌∷◌}
use Rattle.std.proofs.Common.{◌++◌, refl, sym, codes, cond, arith, slice_index}
use Rattle.std.specs.Prelude.{⊤}
use Rattle.std.proofs.Common.{Option, Some, None}
use Rattle.std.proofs.lemmas.Bool.Decides.{nat_tests}
use Rattle.base64.specs.Engines.{url_safe_no_pad}
use Rattle.base64.specs.GeneralPurpose.{encode_of}
use Rattle.base64.specs.Rfc4648.{encode_symbols}
use Rattle.json.specs.Token.{Token, key, end_array, end_object}
use Rattle.json.specs.Print.{begins, ends, escape, escape_byte, print_from, quoted, token_text}
use Rattle.rtr_base.specs.declared.action.Action.{Action}
use Rattle.rtr_base.specs.declared.action.Action.TheVariants.{Announce, Withdraw}
use Rattle.rtr_base.specs.declared.timing.Timing.{Timing}
use Rattle.rtr_base.specs.Actions.{act}
use Rattle.rtr_base.specs.PlainTexts.{action_text}
use Rattle.rtr_payload.specs.UnitFields.{Fields, prefix_unit, key_unit, aspa_unit}
use Rattle.text_lines.specs.ControlEscapes.{escaped}
use Rattle.text_lines.specs.JsonLines.{number_field, number_tokens, numbers_field, parts_tokens}
use Rattle.text_lines.specs.JsonLines.{payload_tokens, payload_zeros, session_tokens, text_field}
use Rattle.text_lines.specs.JsonLines.{timing_tokens}
use Rattle.text_lines.specs.TextLines.{payload_flags}
use Rattle.text_lines.proofs.CleanTexts.{Clean, IsClean, clean_address}
use Rattle.text_lines.proofs.EscapedStrings.{below_plain}
use Rattle.text_lines.proofs.EscapedTexts.{plain_stays}
use Rattle.text_lines.proofs.PlainTexts.{IsPlain, all_plain, plain_both, plain_by, plain_decimal}
use Rattle.text_lines.proofs.PlainTexts.{plain_head, plain_hex, plain_more, plain_none}
use Rattle.text_lines.proofs.PlainTexts.{plain_symbol}
use Rattle.text_lines.proofs.PlainTexts.{plain_tail}

-- ---- tokens

abbrev pub PlainEach : List Token → Type 0
PlainEach [] = ⊤
PlainEach (t ∷ ts) = IsPlain (token_text t) × PlainEach ts

-- the texts of all these tokens are so, in a record so that antt reads the list off a goal
pub record ArePlain (ts : List Token) : Type 0 where
  pub each : PlainEach ts

no_tokens : ArePlain []
no_tokens = record { each = tt }

first : {t : Token} {ts : List Token} → IsPlain (token_text t) → ArePlain ts → ArePlain (t ∷ ts)
first h k = record { each = (h, k.each) }

plain_comma : (b : Bool) → IsPlain (cond b (44 ∷ []) [])
plain_comma true = plain_by (44 ∷ []) refl
plain_comma false = plain_none

plain_printed : (a : Bool) (ts : List Token) → PlainEach ts → IsPlain (print_from a ts)
unfolding print_from
plain_printed a [] h = plain_none
plain_printed a (t ∷ ts) h =
    plain_both (plain_comma (a && begins t)) (plain_both h.0 (plain_printed (ends t) ts h.1))

-- such tokens are printed without an escape for a control character
pub plain_said : (ts : List Token) → ArePlain ts → print_from true ts ≡ escaped (print_from true ts)
plain_said ts h = sym (plain_stays (print_from true ts) (plain_printed true ts h.each))

each_of : (xs ys : List Token) → PlainEach xs → PlainEach ys → PlainEach (xs ++ ys)
each_of [] ys h k = k
each_of (x ∷ xs) ys h k = (h.0, each_of xs ys h.1 k)

both_tokens : (xs ys : List Token) → ArePlain xs → ArePlain ys → ArePlain (xs ++ ys)
both_tokens xs ys h k = record { each = each_of xs ys h.each k.each }

plain_escaped : (s : List ℕ) → IsPlain s → IsPlain (escape s)
plain_escaped [] h = plain_none
plain_escaped (x ∷ s) h =
    plain_both (below_plain x (plain_head x s h)) (plain_escaped s (plain_tail x s h))

pub plain_quoted : (s : List ℕ) → IsPlain s → IsPlain (quoted s)
plain_quoted s h =
    plain_more (omega arith) (plain_both (plain_escaped s h) (plain_by (34 ∷ []) refl))

plain_key : (name : List ℕ) → all_plain (quoted name) ≡ true → IsPlain (token_text (key name))
plain_key name e = plain_both (plain_by (quoted name) e) (plain_by (58 ∷ []) refl)

plain_numbers : (ns : List ℕ) → ArePlain (number_tokens ns)
plain_numbers [] = no_tokens
plain_numbers (n ∷ ns) = first (plain_decimal n) (plain_numbers ns)

plain_array : (name ns : List ℕ) → all_plain (quoted name) ≡ true →
    ArePlain (numbers_field name ns)
plain_array name ns e =
    first (plain_key name e)
    (first (plain_by (91 ∷ []) refl)
    (both_tokens (number_tokens ns) (end_array ∷ []) (plain_numbers ns)
    (first (plain_by (93 ∷ []) refl) no_tokens)))

-- ---- texts of values

clean_below : (c : ℕ) → IsClean c → c < 127
clean_below c h = grind (arith, nat_tests)

clean_plain : (xs : List ℕ) → Clean xs → IsPlain xs
clean_plain xs h = record { all = λ k d lt. clean_below _ (h.all k d lt) }

pub plain_action : (a : Action) → IsPlain (action_text a)
plain_action Announce = plain_by (codes "announce") refl
plain_action Withdraw = plain_by (codes "withdraw") refl

abbrev table : List ℕ
table = url_safe_no_pad.encode_table

symbol : (k : ℕ) → slice_index table k < 127
symbol k = plain_symbol table k (plain_by table refl)

plain_symbols : (bs : List ℕ) → IsPlain (encode_symbols table bs)
unfolding encode_symbols
plain_symbols [] = plain_none
plain_symbols (a ∷ []) =
    plain_more (symbol (a / 4)) (plain_more (symbol (a % 4 * 16)) plain_none)
plain_symbols (a ∷ b ∷ []) =
    plain_more (symbol (a / 4)) (plain_more (symbol (a % 4 * 16 + b / 16))
    (plain_more (symbol (b % 16 * 4)) plain_none))
plain_symbols (a ∷ b ∷ c ∷ bs) =
    plain_more (symbol (a / 4)) (plain_more (symbol (a % 4 * 16 + b / 16))
    (plain_more (symbol (b % 16 * 4 + c / 64)) (plain_more (symbol (c % 64))
    (plain_symbols bs))))

plain_base64 : (bs : List ℕ) → IsPlain (encode_of url_safe_no_pad bs)
plain_base64 bs = plain_both (plain_symbols bs) plain_none

-- ---- fields

plain_parts : (f : Fields) → ArePlain (parts_tokens f)
unfolding escape_byte
plain_parts (prefix_unit u) =
    first (plain_key (codes "prefix") refl)
    (first (plain_quoted _ (clean_plain _ (clean_address u.origin.family u.origin.address)))
    (first (plain_key (codes "prefix_length") refl)
    (first (plain_decimal u.origin.prefix_len)
    (first (plain_key (codes "max_length") refl)
    (first (plain_decimal u.origin.max_len)
    (first (plain_key (codes "asn") refl)
    (first (plain_decimal u.origin.asn) no_tokens)))))))
plain_parts (key_unit u) =
    first (plain_key (codes "subject_key_identifier") refl)
    (first (plain_quoted _ (plain_hex u.key.identifier))
    (first (plain_key (codes "asn") refl)
    (first (plain_decimal u.key.asn)
    (first (plain_key (codes "subject_public_key_info") refl)
    (first (plain_quoted _ (plain_base64 u.key.info)) no_tokens)))))
plain_parts (aspa_unit u) =
    first (plain_key (codes "customer_asn") refl)
    (first (plain_decimal u.aspa.customer)
    (plain_array (codes "provider_asns") u.aspa.providers refl))

end_plain : ArePlain (end_object ∷ [])
end_plain = first (plain_by (125 ∷ []) refl) no_tokens

-- the fields of a payload unit, and the end of its object
pub plain_payload : (f : Fields) → ArePlain (payload_tokens f ++ end_object ∷ [])
unfolding escape_byte
plain_payload f =
    let flags = payload_flags f in
    both_tokens (payload_tokens f) (end_object ∷ [])
    (both_tokens (number_field (codes "flags") flags
    ++ text_field (codes "action") (action_text (act flags))
    ++ numbers_field (codes "zero") (payload_zeros f)) (parts_tokens f)
    (first (plain_key (codes "flags") refl)
    (first (plain_decimal flags)
    (first (plain_key (codes "action") refl)
    (first (plain_quoted _ (plain_action (act flags)))
    (plain_array (codes "zero") (payload_zeros f) refl)))))
    (plain_parts f))
    end_plain

pub plain_zero : (n : ℕ) →
    ArePlain (numbers_field (codes "zero") (n ∷ []) ++ end_object ∷ [])
unfolding escape_byte
plain_zero n =
    both_tokens (numbers_field (codes "zero") (n ∷ [])) (end_object ∷ [])
    (plain_array (codes "zero") (n ∷ []) refl) end_plain

pub plain_session : (n : ℕ) → ArePlain (session_tokens (Some n) ++ end_object ∷ [])
unfolding escape_byte
plain_session n = first (plain_key (codes "session_id") refl) (first (plain_decimal n) end_plain)

plain_timing : (t : Option Timing) → ArePlain (timing_tokens t ++ end_object ∷ [])
unfolding escape_byte
plain_timing None = end_plain
plain_timing (Some t) =
    first (plain_key (codes "refresh_interval") refl)
    (first (plain_decimal t.refresh)
    (first (plain_key (codes "retry_interval") refl)
    (first (plain_decimal t.retry)
    (first (plain_key (codes "expire_interval") refl)
    (first (plain_decimal t.expire) end_plain)))))

pub plain_state : (m n : ℕ) (t : Option Timing) →
    ArePlain (session_tokens (Some m) ++ number_field (codes "serial_number") n
    ++ timing_tokens t ++ end_object ∷ [])
unfolding escape_byte
plain_state m n t =
    first (plain_key (codes "session_id") refl)
    (first (plain_decimal m)
    (first (plain_key (codes "serial_number") refl) (first (plain_decimal n) (plain_timing t))))
