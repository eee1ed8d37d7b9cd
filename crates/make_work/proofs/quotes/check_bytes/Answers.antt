use Rattle.std.proofs.Common.{refl, sym, subst, ap, arith, ◌∙◌, ◌+◌, get_or}
use Rattle.make_work.specs.CsvQuotes.{RefusesQuotes}
use Rattle.make_work.proofs.QuotesSoFar.{LookedAt, faulty, looked, none_yet, open_quote}
use Rattle.make_work.proofs.QuotesSoFar.{refused_by, well}
use Rattle.make_work.proofs.quotes.check_bytes.Goals as goal

pub loop-byte-init : goal.loop-byte-init
loop-byte-init c = (none_yet c.args.text.now, refl)

pub returns-then-not-is_fine-clause-refused : goal.returns-then-not-is_fine-clause-refused
returns-then-not-is_fine-clause-refused c =
    let fault = faulty c.args.text.now c.loop-byte.byte-index c.loop-byte.closed c.loop-byte.before
    _ c.loop-byte-test.true refl c.loop-byte.invariant.0
    (sym c.is_fine.ensures ∙ c.if-not-is_fine.true) in
    subst (RefusesQuotes c.args.text.now) (sym (c.refusal.ensures ∙ c.reason_at.ensures))
    (refused_by c.args.text.now c.loop-byte.byte-index _ _ refl refl fault)

pub overflow_add-offset : goal.overflow_add-offset
overflow_add-offset c = omega (arith, c.loop-byte.invariant.1, c.loop-byte-test.true)

pub loop-byte-preserved : goal.loop-byte-preserved
loop-byte-preserved c = (
  subst
      (λ k. LookedAt c.args.text.now (c.loop-byte.byte-index + 1) k
      (get_or c.args.text.now c.loop-byte.byte-index 0))
      (sym c.closed_after-closed.ensures)
      (looked c.args.text.now c.loop-byte.byte-index c.loop-byte.closed c.loop-byte.before _
      c.loop-byte-test.true refl c.loop-byte.invariant.0
      (sym c.is_fine.ensures ∙ c.if-not-is_fine.false)),
  ap (λ n. n + 1) c.loop-byte.invariant.1,
)

pub returns-then-closed-clause-fine : goal.returns-then-closed-clause-fine
returns-then-closed-clause-fine c =
    well c.args.text.now c.loop-byte.byte-index c.loop-byte.before c.loop-byte-test.false
    (subst (λ k. LookedAt c.args.text.now c.loop-byte.byte-index k c.loop-byte.before)
    c.if-closed.true c.loop-byte.invariant.0)

pub returns-else-closed-clause-refused : goal.returns-else-closed-clause-refused
returns-else-closed-clause-refused c =
    subst (RefusesQuotes c.args.text.now) (sym c.refusal-else-closed.ensures)
    (open_quote c.args.text.now c.loop-byte.byte-index c.loop-byte.before c.loop-byte-test.false
    (subst (λ k. LookedAt c.args.text.now c.loop-byte.byte-index k c.loop-byte.before)
    c.if-closed.false c.loop-byte.invariant.0))
