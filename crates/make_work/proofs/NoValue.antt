-- Why a value is refused that isn't what was looked for.
use Rattle.std.proofs.Common.{◌≡◌, ◌≢◌, ◌⊎◌, ℕ, List, length, IsOk, MatchResult, true}
use Rattle.std.proofs.Common.{Result, Ok, Err, Vec, [], inl, inr, refl, sym, ap}
use Rattle.std.proofs.Common.{subst, ◌∙◌}
use Rattle.std.specs.Result.{result_unwrap_or}
use Rattle.base64.specs.Engines.{standard_pad_indifferent, url_safe_pad_indifferent}
use Rattle.base64.specs.GeneralPurpose.{decode_of}
use Rattle.base64.specs.declared.decode.DecodeError.{DecodeError}
use Rattle.std.specs.List.{AllPass}
use Rattle.hex.specs.Hex.{decode_sized, is_hex_digit}
use Rattle.hex.proofs.HexLemmas.{IsOk-decode_sized}
use Rattle.json.specs.Json.{Json, string}
use Rattle.rtr_base.specs.ReadTexts.{RefusesKey}
use Rattle.rtr_base.specs.declared.parse.ParseKeyIdentifierError.{ParseKeyIdentifierError}
use Rattle.rtr_base.specs.declared.parse.ParseKeyIdentifierError.TheVariants.{Digit, Length}
use Rattle.make_work.specs.JsonRefusals.{IsNoBase64, OrMemory, RefusesKeyIdentifier, RefusesKeyInfo}
use Rattle.make_work.specs.JsonRefusals.{RefusesPrefixValue, TellsNoIdentifier, has_base64_length}
use Rattle.make_work.specs.JsonValues.{IsBase64, IsKeyIdentifierValue}
use Rattle.make_work.specs.PrivateJson.{IsNoIdentifier, IsNoText, IsUndecoded}
use Rattle.make_work.specs.declared.item.Reason.{Reason}
use Rattle.make_work.specs.declared.item.Reason.TheVariants.{Base64, KeyIdentifier, Memory}

-- ---- no text

pub no_text_prefix : (j : Json) (why : Reason) → IsNoText j why → RefusesPrefixValue j why
no_text_prefix (string s) why h = absurd h
no_text_prefix other why h = h

pub no_text_key : (j : Json) (why : Reason) → IsNoText j why → OrMemory (RefusesKeyInfo j) why
no_text_key (string s) why h = absurd h
no_text_key other why h = inr h

pub no_text_identifier : (j : Json) (why : Reason) → IsNoText j why →
    OrMemory (RefusesKeyIdentifier j) why
no_text_identifier (string s) why h = absurd h
no_text_identifier other why h = inr h

-- ---- a text that isn't what was looked for

pub text_no_key : (j : Json) (s : List ℕ) (why : Reason) → j ≡ string s →
    OrMemory (λ w. (w ≡ Base64) × IsNoBase64 s) why → OrMemory (RefusesKeyInfo j) why
text_no_key j s why is (inl e) = inl e
text_no_key j s why is (inr h) = inr (subst (λ i. RefusesKeyInfo i why) (sym is) (inl h))

-- what doesn't read as 40 hex digits isn't read
is_read : (s k : List ℕ) → decode_sized s 20 ≡ Ok k → (length s ≡ 40) × AllPass is_hex_digit s
is_read s k e = (IsOk-decode_sized s 20).0 (subst (λ r. IsOk r) (sym e) refl)

no_digits : (s k : List ℕ) (e : ParseKeyIdentifierError) → RefusesKey s e →
    decode_sized s 20 ≢ Ok k
no_digits s k Length r p = r (is_read s k p).0
no_digits s k Digit r p = r.1 (is_read s k p).1

neither : (s : List ℕ) (e : ParseKeyIdentifierError) (why : Reason) → RefusesKey s e →
    IsNoIdentifier s e why → (k : List ℕ) → ¬ IsKeyIdentifierValue (string s) k
neither s e why r n k (inl p) = no_digits s k e r p
neither s e why r n k (inr b) = n.none k b.0 b.1

tells : (s : List ℕ) (e : ParseKeyIdentifierError) (why : Reason) → RefusesKey s e →
    (why ≡ KeyIdentifier e) ⊎ ((why ≡ Base64) × (has_base64_length s ≡ true) × IsNoBase64 s) →
    TellsNoIdentifier s why
tells s e why r (inl is) = inl (e, is, r)
tells s e why r (inr h) = inr h

-- a text that isn't an identifier in either way
text_no_identifier : (j : Json) (s : List ℕ) (e : ParseKeyIdentifierError) (why : Reason) →
    j ≡ string s → RefusesKey s e → OrMemory (IsNoIdentifier s e) why →
    OrMemory (RefusesKeyIdentifier j) why
text_no_identifier j s e why is r (inl m) = inl m
text_no_identifier j s e why is r (inr n) =
    inr (subst (λ i. RefusesKeyIdentifier i why) (sym is)
    (neither s e why r n, tells s e why r n.told))

-- what isn't hex digits is base64, or no identifier
pub by_base64 : (r : Result (List ℕ) Reason) (j : Json) (s : List ℕ)
    (e : ParseKeyIdentifierError) → j ≡ string s → RefusesKey s e →
    MatchResult r (λ k. IsBase64 s k × (length k ≡ 20)) (OrMemory (IsNoIdentifier s e)) →
    MatchResult r (λ k. IsKeyIdentifierValue j k) (OrMemory (RefusesKeyIdentifier j))
by_base64 (Ok k) j s e is refused h = subst (λ i. IsKeyIdentifierValue i k) (sym is) (inr h)
by_base64 (Err why) j s e is refused h = text_no_identifier j s e why is refused h

-- ---- base64

not_ok : {E T : Type 0} (e : E) (x : T) → ¬ (◌≡◌ {A = Result T E} (Err e) (Ok x))
not_ok e x h = absurd cc

no_base64 : (text : List ℕ) (e g : DecodeError) → decode_of standard_pad_indifferent text ≡ Err e →
    decode_of url_safe_pad_indifferent text ≡ Err g → IsNoBase64 text
no_base64 text e g f h bytes (inl p) = not_ok e bytes (sym f ∙ p)
no_base64 text e g f h bytes (inr p) = not_ok g bytes (sym h ∙ p.1)

-- what one alphabet lacks the other has, or neither
pub by_other : {A : Type 0} (r : Result (Vec ℕ A) Reason) (text : List ℕ) (e : DecodeError) →
    decode_of standard_pad_indifferent text ≡ Err e →
    MatchResult r (λ v. decode_of url_safe_pad_indifferent text ≡ Ok v.items)
    (OrMemory (λ why. (why ≡ Base64) × IsUndecoded url_safe_pad_indifferent text)) →
    MatchResult r (λ v. IsBase64 text v.items)
    (OrMemory (λ why. (why ≡ Base64) × IsNoBase64 text))
by_other (Ok v) text e f h = inr ((e, f), h)
by_other (Err why) text e f (inl m) = inl m
by_other (Err why) text e f (inr (is, (g, undecoded))) = inr (is, no_base64 text e g f undecoded)

same_ok : {E : Type 0} (x y : List ℕ) → ◌≡◌ {A = Result (List ℕ) E} (Ok x) (Ok y) → x ≡ y
same_ok {E} x y e = ap (λ (r : Result (List ℕ) E). result_unwrap_or r []) e

-- a text is base64 of one list of bytes at most
pub one_base64 : (text a b : List ℕ) → IsBase64 text a → IsBase64 text b → a ≡ b
one_base64 text a b (inl p) (inl q) = same_ok a b (sym p ∙ q)
one_base64 text a b (inl p) (inr q) = absurd (not_ok q.0.0 a (sym q.0.1 ∙ p))
one_base64 text a b (inr p) (inl q) = absurd (not_ok p.0.0 b (sym p.0.1 ∙ q))
one_base64 text a b (inr p) (inr q) = same_ok a b (sym p.1 ∙ q.1)

-- ---- why base64 is no identifier

not_memory : Base64 ≢ Memory
not_memory e = absurd cc

pub no_bytes : (text : List ℕ) (why : Reason) →
    OrMemory (λ w. (w ≡ Base64) × IsNoBase64 text) why → why ≡ Base64 → IsNoBase64 text
no_bytes text why (inl m) is = absurd (not_memory (sym is ∙ m))
no_bytes text why (inr h) is = h.1

pub told_as_base64 : (text : List ℕ) (e : ParseKeyIdentifierError) → IsNoBase64 text →
    has_base64_length text ≡ true → OrMemory (IsNoIdentifier text e) Base64
told_as_base64 text e none long =
    inr (record { none = λ k b n. none k b; told = inr (refl, long, none) })

pub told_as_digits : (text : List ℕ) (e : ParseKeyIdentifierError) → IsNoBase64 text →
    OrMemory (IsNoIdentifier text e) (KeyIdentifier e)
told_as_digits text e none = inr (record { none = λ k b n. none k b; told = inl refl })

-- bytes that aren't 20
pub other_length : (text bytes : List ℕ) (e : ParseKeyIdentifierError) → IsBase64 text bytes →
    length bytes ≢ 20 → OrMemory (IsNoIdentifier text e) (KeyIdentifier e)
other_length text bytes e is other = inr (record {
  none = λ k b n. other (ap length (one_base64 text bytes k is b) ∙ n);
  told = inl refl;
})
