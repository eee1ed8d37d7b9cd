-- What a value's `Display` adds to a line.
use Rattle.std.proofs.Common.{◌≡◌, ℕ, List, ◌++◌, Option, Some, None}
use Rattle.std.specs.Fmt.{WritesText, AppendsText}
use Rattle.std.proofs.lemmas.Fmt.{contents_after_writes}

abbrev Adds : List ℕ → List ℕ → List ℕ → Type 0
Adds before text after = after ≡ before ++ text

pub appended : (o : Option (List ℕ)) (before after : List ℕ) → WritesText Adds before o after →
    AppendsText before after o
appended None before after h = tt
appended (Some text) before after h =
    contents_after_writes Adds (λ line. line) (λ w bs v e. e) before text after h
