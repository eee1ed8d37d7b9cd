use Rattle.std.proofs.Common.{◌≡◌, ◌∙◌, ap}
use Rattle.rtr_c.specs.Compared.{comparison_told}
use Rattle.rtr_c.specs.declared.compare.RtrComparison.{RtrComparison}
use Rattle.rtr_c.proofs.compare.rtr_same_meaning_nonnull.Goals as goal
use Rattle.rtr_c.proofs.compare.rtr_same_meaning_nonnull.Goals.{
  in-Ok,
  in-Err+in-Left,
  in-Err+in-Right,
}

pub returns : goal.returns
returns c =
    let answer = c.match-compare_meanings.answer in
    let told : answer ≡ comparison_told c.compare_meanings.result c.args.left.now
    c.args.right.now =
    elim c.match-compare_meanings.branch [
      | in-Ok w ↦ rw w.in-Ok.is (w.answer-is ∙ w.accepted.ensures)
      | in-Err+in-Left w ↦ rw (w.in-Err.is, w.in-Left.is)
          (w.answer-is ∙ w.refused.ensures)
      | in-Err+in-Right w ↦ rw (w.in-Err.is, w.in-Right.is)
          (w.answer-is ∙ w.refused-in-Right.ensures)
    ] in (
      c.compare_meanings.result,
      c.compare_meanings.ensures,
      (told, ap (λ (a : RtrComparison). a.status) told),
    )
