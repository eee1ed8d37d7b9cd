use Rattle.std.proofs.Common.{◌++◌, sym, ◌∙◌}
use Rattle.std.proofs.lemmas.List.{take-append-drop}
use Rattle.data_slices.proofs.Units.{next_whole, nothing_left}
use Rattle.data_slices.proofs.item.next_of_type.Goals as goal

pub returns-else-not-is_empty-clause-unit : goal.returns-else-not-is_empty-clause-unit
returns-else-not-is_empty-clause-unit c =
    let e = c.split_at.ensures in
    next_whole c.in-Some.view c.in-Some.after.now c.split_at.result.0.now c.split_at.result.1.now
    c.args.input.now c.in-Some.ensures.unit
    (nothing_left c.in-Some.after.now c.if-not-is_empty.ensures)
    (sym (take-append-drop c.args.size c.args.input.now)
    ∙ (λ i. sym e.front i ++ sym e.back i))
