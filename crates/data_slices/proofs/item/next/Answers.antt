use Rattle.std.proofs.Common.{take, ◌++◌, sym, ap, subst, ◌∙◌}
use Rattle.std.proofs.lemmas.List.{take-append-drop}
use Rattle.data_slices.specs.Items.{IsItem}
use Rattle.data_slices.proofs.Sequences.{item_of_view, shorter}
use Rattle.data_slices.proofs.item.next.Goals as goal

pub returns-in-Ok-clause-item : goal.returns-in-Ok-clause-item
returns-in-Ok-clause-item c =
    let k = c.in-Ok.size in
    let l = c.args.input.now in (
      take k l,
      subst (λ x. IsItem x (take k l)) (sym c.item_of.ensures)
          (item_of_view c.in-Ok.view (take k l) c.in-Ok.ensures.view),
      sym (take-append-drop k l) ∙ ap (λ r. take k l ++ r) (sym c.split_at.ensures.back),
    )

pub returns-in-Ok-clause-shorter : goal.returns-in-Ok-clause-shorter
returns-in-Ok-clause-shorter c =
    let k = c.in-Ok.size in
    let l = c.args.input.now in
    shorter (c.item_of.result) (take k l) l c.split_at.result.1.now
    (subst (λ x. IsItem x (take k l)) (sym c.item_of.ensures)
    (item_of_view c.in-Ok.view (take k l) c.in-Ok.ensures.view))
    (sym (take-append-drop k l) ∙ ap (λ r. take k l ++ r) (sym c.split_at.ensures.back))
