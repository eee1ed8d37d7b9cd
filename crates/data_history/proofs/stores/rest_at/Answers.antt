use Rattle.std.proofs.Common.{◌≡◌, ◌∙◌, ◌+◌, ◌-◌, ap, arith, drop, length}
use Rattle.data_history.proofs.Parts.{left_after}
use Rattle.data_history.proofs.stores.rest_at.Goals as goal

pub returns-in-Some-clause-at : goal.returns-in-Some-clause-at
returns-in-Some-clause-at c =
    let b = c.args.parts.now in
    let r = c.in-Some.part.2.now in
    let same : length b - length r ≡ length b - length r + 0 = omega arith in
    ap (λ n. drop n b) same
    ∙ left_after b r 0 c.in-Some.ensures.is_there c.in-Some.ensures.rest
    ∙ c.in-Some.ensures.rest
