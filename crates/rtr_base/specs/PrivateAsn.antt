-- What calls inside this crate leave. Only contracts of private functions cite these.
use Rattle.std.specs.Prelude.{codes, ◌≡◌, ◌≢◌, ◌⊎◌, ℕ, List, ◌++◌}

-- the text after AS or as, where it begins so
abbrev pub IsWithoutAs : List ℕ → List ℕ → Type 0
IsWithoutAs text digits = (text ≡ codes "AS" ++ digits) ⊎ ((text ≡ codes "as" ++ digits)
    ⊎ ((text ≡ digits) × ((rest : List ℕ) → text ≢ codes "AS" ++ rest)
    × ((rest : List ℕ) → text ≢ codes "as" ++ rest)))
