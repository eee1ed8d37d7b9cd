-- The providers of an ASPA (as in the Rust crate).
use Rattle.std.specs.Prelude.{◌≡◌, ℕ, List, [], ◌∷◌, length, Option, ⊤}
use Rattle.std.specs.Iterator.{Yields}
use Rattle.rtr_base.specs.Bytes.{value, words}
use Rattle.rtr_payload.specs.Payloads.{AreProviders}
use Rattle.rtr_payload.specs.declared.pdu.providers.ProviderIterError.{ProviderIterError}
use Rattle.rtr_payload.specs.declared.pdu.providers.ProviderIterError.TheVariants.{Count, Memory}

-- the numbers that bytes are, four bytes each
abbrev pub words_of : List ℕ → List ℕ
words_of (a ∷ b ∷ c ∷ d ∷ bs) = value (a ∷ b ∷ c ∷ d ∷ []) ∷ words_of bs
words_of bs = []

-- bytes are those of providers, four to each (as in the Rust crate)
pub record AreProviderBytes (bytes : List ℕ) : Type 0 where
  pub providers : AreProviders (words_of bytes)
  pub again : words (words_of bytes) ≡ bytes

-- Why no providers were made of the items of an iterator in the state s: one more came than an ASPA
-- may name, or memory was refused (this library's own). Of a refusal nothing is said: it comes
-- before or after any item, the allocator alone decides, and the iterator was taken by value, so
-- that a caller never sees how far it went.
abbrev pub StopsTaking : {S : Type 0} → (S → Option ℕ → S → Type 0) → S → ProviderIterError → Type 0
StopsTaking {S} steps s (Count e) = (xs : List ℕ) × (t : S) × Yields steps s xs t ×
    (length xs ≡ 16381)
StopsTaking {S} steps s Memory = ⊤
