-- Texts that are lent, as their bytes. Only contracts of private functions cite these.
use Rattle.std.specs.Borrow.{Bor}
use Rattle.std.specs.Prelude.{ℕ, List}

abbrev pub only_text : Bor (List ℕ) → List ℕ
only_text text = text.now

abbrev pub both_texts : Bor (List ℕ) × Bor (List ℕ) → List ℕ × List ℕ
both_texts p = (p.0.now, p.1.now)
