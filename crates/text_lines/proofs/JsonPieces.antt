-- Objects of JSON, piece by piece.
use Rattle.std.proofs.Common.{◌≡◌, ◌≤◌, ◌<◌, ℕ, true, false, List, [], ◌∷◌, ◌++◌, codes, decimal}
use Rattle.std.proofs.Common.{length, take, drop, refl, sym, ap, ◌∙◌, arith, append_assoc}
use Rattle.json.specs.Token.{Token, begin_object, end_object, end_array}
use Rattle.json.specs.Print.{escape, escape_byte, print, print_from}
use Rattle.rtr_base.specs.Bytes.{value}
use Rattle.rtr_base.specs.Addresses.{Family, v4, v6}
use Rattle.rtr_base.specs.Actions.{act}
use Rattle.rtr_base.specs.PlainTexts.{action_text}
use Rattle.rtr_base.specs.declared.action.Action.{Action}
use Rattle.rtr_base.specs.declared.action.Action.TheVariants.{Announce, Withdraw}
use Rattle.rtr_payload.specs.Providers.{words_of}
use Rattle.rtr_payload.specs.UnitFields.{Fields, prefix_unit, key_unit, aspa_unit}
use Rattle.text_lines.specs.JsonLines.{family_kind, number_field, number_tokens}
use Rattle.text_lines.specs.JsonLines.{numbers_field, parts_tokens, payload_kind}
use Rattle.text_lines.specs.JsonLines.{text_field}
use Rattle.text_lines.specs.PayloadLines.{payload_json, payload_object}
use Rattle.text_lines.specs.TextLines.{payload_flags}

-- ---- the front of the object of a change

front_said : (k a : List ℕ) (ts : List Token) → escape k ≡ k → escape a ≡ a →
    (codes "{\"kind\":\"" ++ k ++ codes "\"")
    ++ ((codes ",\"action\":\"" ++ a ++ codes "\"") ++ print_from true ts)
    ≡ print (begin_object ∷ (text_field (codes "kind") k ++ text_field (codes "action") a ++ ts))
unfolding print_from escape_byte
front_said k a ts e f = rw (e, f) refl

clean_family : (f : Family) → escape (family_kind f) ≡ family_kind f
unfolding escape_byte
clean_family v4 = refl
clean_family v6 = refl

pub clean_kind : (f : Fields) → escape (payload_kind f) ≡ payload_kind f
unfolding escape_byte
clean_kind (prefix_unit u) = clean_family _
clean_kind (key_unit u) = refl
clean_kind (aspa_unit u) = refl

pub clean_action : (a : Action) → escape (action_text a) ≡ action_text a
unfolding escape_byte
clean_action Announce = refl
clean_action Withdraw = refl

pub object_said : (f : Fields) →
    (codes "{\"kind\":\"" ++ payload_kind f ++ codes "\"")
    ++ ((codes ",\"action\":\"" ++ action_text (act (payload_flags f)) ++ codes "\"")
    ++ print_from true (parts_tokens f ++ end_object ∷ []))
    ≡ payload_json f
unfolding payload_object
object_said f =
    front_said _ _ (parts_tokens f ++ end_object ∷ []) (clean_kind f) (clean_action _)

-- ---- prefixes

pub origin_numbers : (p m n : ℕ) →
    (codes "\",\"prefix_length\":" ++ decimal p) ++ ((codes ",\"max_length\":" ++ decimal m)
    ++ ((codes ",\"asn\":" ++ decimal n) ++ codes "}"))
    ≡ codes "\"" ++ print_from true (number_field (codes "prefix_length") p
    ++ number_field (codes "max_length") m ++ number_field (codes "asn") n ++ end_object ∷ [])
unfolding print_from escape_byte
origin_numbers p m n = refl

pub origin_said : (a : List ℕ) (ts : List Token) → escape a ≡ a →
    codes ",\"prefix\":\"" ++ (a ++ (codes "\"" ++ print_from true ts))
    ≡ print_from true (text_field (codes "prefix") a ++ ts)
unfolding print_from escape_byte
origin_said a ts e =
    rw e (ap (λ l. codes ",\"prefix\":\"" ++ l) (sym (append_assoc a (codes "\"")
    (print_from true ts))))

-- ---- router keys

pub key_said : (n : ℕ) (i b : List ℕ) → escape i ≡ i → escape b ≡ b →
    codes ",\"subject_key_identifier\":\"" ++ (i ++ ((codes "\",\"asn\":" ++ decimal n)
    ++ (codes ",\"subject_public_key_info\":\"" ++ (b ++ codes "\"}"))))
    ≡ print_from true (text_field (codes "subject_key_identifier") i
    ++ number_field (codes "asn") n ++ text_field (codes "subject_public_key_info") b
    ++ end_object ∷ [])
unfolding print_from escape_byte
key_said n i b e f =
    rw (e, f, append_assoc i (34 ∷ []), append_assoc b (34 ∷ [])) refl

-- ---- ASPAs

pub aspa_said : (c : ℕ) (ns : List ℕ) →
    (codes ",\"customer_asn\":" ++ decimal c) ++ (codes ",\"provider_asns\":["
    ++ print_from false (number_tokens ns ++ end_array ∷ end_object ∷ []))
    ≡ print_from true (number_field (codes "customer_asn") c
    ++ numbers_field (codes "provider_asns") ns ++ end_object ∷ [])
unfolding print_from escape_byte
aspa_said c ns =
    ap (λ ts. (codes ",\"customer_asn\":" ++ decimal c) ++ (codes ",\"provider_asns\":["
    ++ print_from false ts))
    (sym (append_assoc (number_tokens ns) (end_array ∷ []) (end_object ∷ [])))

-- the numbers of providers, and the end
abbrev pub providers_said : List ℕ → List ℕ
providers_said bytes =
    print_from true (number_tokens (words_of bytes) ++ end_array ∷ end_object ∷ [])

pub few_more : (left : List ℕ) → length left < 4 → codes "]}" ≡ providers_said left
unfolding print_from
few_more [] h = refl
few_more (a ∷ []) h = refl
few_more (a ∷ b ∷ []) h = refl
few_more (a ∷ b ∷ c ∷ []) h = refl
few_more (a ∷ b ∷ c ∷ d ∷ left) h = absurd (omega (arith, h))

pub few_first : (left : List ℕ) → length left < 4 → codes "]}"
    ≡ print_from false (number_tokens (words_of left) ++ end_array ∷ end_object ∷ [])
unfolding print_from
few_first [] h = refl
few_first (a ∷ []) h = refl
few_first (a ∷ b ∷ []) h = refl
few_first (a ∷ b ∷ c ∷ []) h = refl
few_first (a ∷ b ∷ c ∷ d ∷ left) h = absurd (omega (arith, h))

pub next_provider : (left front back : List ℕ) (n : ℕ) → 4 ≤ length left → front ≡ take 4 left →
    back ≡ drop 4 left → n ≡ value (take 4 (drop 0 front)) →
    (codes "," ++ decimal n) ++ providers_said back ≡ providers_said left
unfolding print_from
next_provider [] front back n h f k e = absurd (omega (arith, h))
next_provider (a ∷ []) front back n h f k e = absurd (omega (arith, h))
next_provider (a ∷ b ∷ []) front back n h f k e = absurd (omega (arith, h))
next_provider (a ∷ b ∷ c ∷ []) front back n h f k e = absurd (omega (arith, h))
next_provider (a ∷ b ∷ c ∷ d ∷ left) front back n h f k e =
    λ i. (codes "," ++ decimal ((e ∙ ap (λ l. value (take 4 l)) f) i)) ++ providers_said (k i)

pub first_provider : (left front back : List ℕ) (n : ℕ) → 4 ≤ length left → front ≡ take 4 left →
    back ≡ drop 4 left → n ≡ value (take 4 (drop 0 front)) →
    decimal n ++ providers_said back
    ≡ print_from false (number_tokens (words_of left) ++ end_array ∷ end_object ∷ [])
unfolding print_from
first_provider [] front back n h f k e = absurd (omega (arith, h))
first_provider (a ∷ []) front back n h f k e = absurd (omega (arith, h))
first_provider (a ∷ b ∷ []) front back n h f k e = absurd (omega (arith, h))
first_provider (a ∷ b ∷ c ∷ []) front back n h f k e = absurd (omega (arith, h))
first_provider (a ∷ b ∷ c ∷ d ∷ left) front back n h f k e =
    λ i. decimal ((e ∙ ap (λ l. value (take 4 l)) f) i) ++ providers_said (k i)
