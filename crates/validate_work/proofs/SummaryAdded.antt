-- The text of a summary, piece by piece.
use Rattle.std.proofs.Common.{◌≡◌, ℕ, Bool, false, List, ◌++◌, None, length, refl, sym, subst}
use Rattle.validate_work.specs.PrivateCounts.{AddsSummary}
use Rattle.validate_work.specs.RouteOrigins.{AddsRows, rows_text}
use Rattle.validate_work.specs.SummaryTexts.{by_origin_text, form_counts_text, most_origins}
use Rattle.validate_work.specs.SummaryTexts.{origins_end, origins_head}
use Rattle.validate_work.specs.declared.counts.Summary.{Summary}
use Rattle.validate_work.specs.declared.form.Form.{Form}
use Rattle.validate_work.proofs.Said.{then_said}

pub adds_summary : (form : Form) (compared : Bool) (s : Summary) (n : ℕ)
    (old one two three new word : List ℕ) → compared ≡ false → n ≡ length s.origins.entries →
    one ≡ old ++ form_counts_text form s.counts → two ≡ one ++ origins_head form n →
    AddsRows form most_origins s.origins.entries None two three → word ≡ origins_end form →
    new ≡ three ++ word → AddsSummary form compared s old new
adds_summary form compared s n old one two three new word plain count a b (rows, are, c) end d =
    let second : two ≡ one ++ origins_head form (length s.origins.entries) =
    subst (λ k. two ≡ one ++ origins_head form k) count b in
    let head = then_said old one two _ (origins_head form (length s.origins.entries)) _ refl a
    second in
    let body = then_said old two three _ (rows_text form None rows) _ refl head c in
    subst (λ b. AddsSummary form b s old new) (sym plain) (
      by_origin_text form s rows,
      (rows, are, refl),
      then_said old three new _ word (origins_end form) end body d,
    )
