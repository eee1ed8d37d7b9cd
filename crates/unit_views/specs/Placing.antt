-- What a call leaves that writes a list of bytes into a slice, where there is room for it (this
-- library's own).
use Rattle.std.specs.Prelude.{◌≡◌, ℕ, ◌<◌, ◌≤◌, List, ◌++◌, length, drop, Option, Some, None}

-- All of it was written to the front of the slice, and what follows is as it was; or there was no
-- room for all, and the slice is as it was.
abbrev pub Places : Option ℕ → (piece before after : List ℕ) → Type 0
Places (Some n) piece before after =
    (n ≡ length piece) × (n ≤ length before) × (after ≡ piece ++ drop n before)
Places None piece before after = (length before < length piece) × (after ≡ before)
