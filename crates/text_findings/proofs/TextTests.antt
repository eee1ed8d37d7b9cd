-- The test of UTF-8, as the standard library answers it.
use Rattle.std.proofs.Common.{◌≡◌, refl, sym}
use Rattle.std.specs.Prelude.{ℕ, List, Bool, true, false}
use Rattle.std.specs.Str.{IsUtf8, is_utf8}
use Rattle.std.proofs.lemmas.Str.{IsUtf8-from_is_utf8, is_utf8-from_IsUtf8}

refused : (bytes : List ℕ) → (IsUtf8 bytes → ⊥) → (b : Bool) → is_utf8 bytes ≡ b →
    false ≡ is_utf8 bytes
refused bytes broken true e = absurd (broken (IsUtf8-from_is_utf8 bytes e))
refused bytes broken false e = sym e

pub text_passes : (bytes : List ℕ) → IsUtf8 bytes → is_utf8 bytes ≡ true
text_passes bytes is = is_utf8-from_IsUtf8 bytes is

pub text_fails : (bytes : List ℕ) → (IsUtf8 bytes → ⊥) → false ≡ is_utf8 bytes
text_fails bytes broken = refused bytes broken (is_utf8 bytes) refl
