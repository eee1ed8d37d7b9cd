-- The bytes of providers.
use Rattle.std.proofs.Common.{◌≡◌, ℕ, ◌+◌, ◌*◌, ◌%◌, ◌^◌, ◌<◌, ◌≤◌, List, [], ◌∷◌, ◌++◌, length}
use Rattle.std.proofs.Common.{take, drop, Option, Some, refl, sym}
use Rattle.std.proofs.Common.{ap, ◌∙◌, subst, arith, length-append}
use Rattle.std.specs.Prelude.{nat_eq}
use Rattle.std.specs.Ordering.{nat_cmp, is_eq}
use Rattle.std.specs.Cmp.Lexicographic.{pointwise, slice_cmp, texts_ties}
use Rattle.std.specs.Iterator.{Yields}
use Rattle.rtr_base.specs.Bytes.{be, value, words, IsBytes}
use Rattle.rtr_base.proofs.Numbers.{length-words, slice_cmp-words}
use Rattle.rtr_payload.specs.Providers.{words_of}
use Rattle.rtr_payload.specs.Providers.{AreProviderBytes}
use Rattle.rtr_payload.specs.Payloads.{AreProviders}
use Rattle.rtr_payload.proofs.FieldsRead.{words_of-words, below_push, is_words}

pub words-push : (ps : List ℕ) (p : ℕ) → words (ps ++ p ∷ []) ≡ words ps ++ be p 4
words-push [] p = refl
words-push (q ∷ ps) p = ap (λ (l : List ℕ). be q 4 ++ l) (words-push ps p)

-- the bytes of providers are four to each
pub provider_bytes : (ps : List ℕ) → AreProviders ps → AreProviderBytes (words ps)
provider_bytes ps h =
    let e = words_of-words ps h.each in
    let P : List ℕ → Type 0 = λ qs. AreProviders qs in
    record { providers = subst P (sym e) h; again = ap words e }

pub provider_count : (bytes : List ℕ) → AreProviderBytes bytes →
    length bytes ≡ 4 * length (words_of bytes)
provider_count bytes h = ap length (sym h.again) ∙ length-words (words_of bytes)

-- bytes of providers, and the bytes of one more
pub record Pushed (bytes more : List ℕ) (p : ℕ) : Type 0 where
  pub numbers : words_of more ≡ words_of bytes ++ p ∷ []
  pub fit : AreProviderBytes more
  pub count : length (words_of more) ≡ length (words_of bytes) + 1

pub provider_push : (bytes more : List ℕ) (p : ℕ) → AreProviderBytes bytes → p < 2 ^ 32 →
    length (words_of bytes) < 16380 → more ≡ bytes ++ be p 4 → Pushed bytes more p
provider_push bytes more p h lt room e =
    let ps = words_of bytes in
    let each = below_push ps p h.providers.each lt in
    let joined : more ≡ words (ps ++ p ∷ []) =
    e ∙ ap (λ (l : List ℕ). l ++ be p 4) (sym h.again) ∙ sym (words-push ps p) in
    let len : length (ps ++ p ∷ []) ≡ length ps + 1 = length-append ps (p ∷ []) in
    let numbers : words_of more ≡ ps ++ p ∷ [] =
    ap words_of joined ∙ words_of-words (ps ++ p ∷ []) each in
    record {
      numbers = numbers;
      fit = rw joined (provider_bytes (ps ++ p ∷ []) (record { count = omega arith; each = each }));
      count = ap length numbers ∙ len;
    }

-- providers compare as their bytes
pub provider_cmp : (a b : List ℕ) → AreProviderBytes a → AreProviderBytes b →
    slice_cmp nat_cmp a b ≡ slice_cmp nat_cmp (words_of a) (words_of b)
provider_cmp a b h k =
    (λ i. slice_cmp nat_cmp (sym h.again i) (sym k.again i))
    ∙ slice_cmp-words (words_of a) (words_of b) h.providers.each k.providers.each

pub provider_eq : (a b : List ℕ) → AreProviderBytes a → AreProviderBytes b →
    pointwise nat_eq a b ≡ pointwise nat_eq (words_of a) (words_of b)
provider_eq a b h k =
    texts_ties a b ∙ ap is_eq (provider_cmp a b h k) ∙ sym (texts_ties (words_of a) (words_of b))

-- one more item
pub Yields-more : {S A : Type 0} (steps : S → Option A → S → Type 0) (s : S) (xs : List A) (t : S)
    (x : A) (u : S) → Yields steps s xs t → steps t (Some x) u → Yields steps s (xs ++ (x ∷ [])) u
Yields-more steps s [] t x u y p =
    let P = λ (k : _). steps k (Some x) u in
    (u, subst P (sym y) p, refl)
Yields-more steps s (z ∷ xs) t x u y p = (y.0, y.1, Yields-more steps y.0 xs t x u y.2 p)

-- four bytes or more are a number, and those of the rest
pub words_of-split : (b : List ℕ) → 4 ≤ length b →
    words_of b ≡ value (take 4 b) ∷ words_of (drop 4 b)
words_of-split (a ∷ b ∷ c ∷ d ∷ bs) h = refl
words_of-split bs h = absurd (omega arith)

pub words_of-shorter : (b rest : List ℕ) → 4 ≤ length b → rest ≡ drop 4 b →
    length (words_of rest) < length (words_of b)
words_of-shorter b rest h e = let l = ap length (words_of-split b h) in rw e (omega arith)

-- bytes that are four to each number, and not too many, are those of providers
pub provider_bytes_of : (b : List ℕ) → IsBytes b → length b % 4 ≡ 0 → length b ≤ 65520 →
    AreProviderBytes b
provider_bytes_of b h even small =
    let w = is_words b h even in
    record {
      providers = record { count = omega (arith, w.count); each = w.each };
      again = sym w.bytes;
    }
