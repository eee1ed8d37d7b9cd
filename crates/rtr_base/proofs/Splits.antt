-- Texts that are cut at a character.
use Rattle.std.proofs.Common.{ℕ, ◌<◌, List, Some, None, Bor}
use Rattle.std.proofs.lemmas.Str.Pattern.{IsSplitOnceResult, split_parts}
use Rattle.rtr_base.specs.ReadTexts.{SplitsAt, Lacks}

pub cut_at : (c : ℕ) (text : List ℕ) (x y : Bor (List ℕ)) → IsSplitOnceResult c text (Some (x, y)) →
    c < 128 → SplitsAt c text x.now y.now
cut_at c text x y h low =
    let p = split_parts c text (Some (x, y)) h low in
    record { parts = p.0; first = p.1 }

pub not_cut : (c : ℕ) (text : List ℕ) → IsSplitOnceResult c text None → c < 128 → Lacks c text
not_cut c text h low = split_parts c text None h low
