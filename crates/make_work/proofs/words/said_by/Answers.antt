use Rattle.std.proofs.Common.{sym, ap, ◌∙◌}
use Rattle.make_work.specs.PrivateWords.{word_taken}
use Rattle.make_work.proofs.WordsSoFar.{steps, stops}
use Rattle.make_work.proofs.words.said_by.Goals as goal

pub loop-word-preserved : goal.loop-word-preserved
loop-word-preserved c =
    steps c.args.words.now c.loop-word.word-index c.word-item.result c.loop-word.open _
    c.loop-word.said _ _ c.loop-word-test.true c.word-item.is
    (ap (λ text. word_taken c.loop-word.open text c.loop-word.said) (sym c.as_str.ensures.value)
    ∙ sym c.after.ensures ∙ c.in_ok-said.was) c.loop-word.invariant

pub returns-in_err-said : goal.returns-in_err-said
returns-in_err-said c =
    c.from_residual.ensures
    ∙ sym (stops c.args.words.now c.loop-word.word-index
    c.word-item.result c.loop-word.open c.loop-word.said _ c.loop-word-test.true c.word-item.is
    (ap (λ text. word_taken c.loop-word.open text c.loop-word.said) (sym c.as_str.ensures.value)
    ∙ sym c.after.ensures ∙ c.in_err-said.was) c.loop-word.invariant)
