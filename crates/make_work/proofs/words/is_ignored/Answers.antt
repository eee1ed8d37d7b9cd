use Rattle.std.proofs.Common.{not, ◌&&◌, ◌+◌, bytes_eq, codes, sym, ap, subst, ◌∙◌}
use Rattle.make_work.proofs.IgnoredSoFar.{NotYet, passed}
use Rattle.make_work.proofs.words.is_ignored.Goals as goal

pub loop-word-preserved : goal.loop-word-preserved
loop-word-preserved c =
    let words = c.args.words.now in
    let name = c.args.name.now in
    let i = c.loop-word.word-index in
    let said = c.loop-word.follows in
    let word = c.as_str-word.ensures.value in
    subst (λ b. NotYet words name (i + 1) b)
    (sym (c.is_both-follows.ensures ∙ ap (λ k. not said && k)
    (c.eq-in-loop-word.ensures ∙ ap (λ t. bytes_eq t (codes "--ignore")) word)))
    (passed words name i c.word-item.result said c.loop-word-test.true c.word-item.is
    (sym (c.is_both.ensures ∙ ap (λ k. said && k)
    (c.eq.ensures ∙ ap (λ t. bytes_eq t name) word)) ∙ c.if-is_both.false)
    c.loop-word.invariant)
