use Rattle.std.proofs.Common.{sym, subst, ◌∙◌, arith}
use Rattle.unit_views.specs.Origins.{IsOriginOf}
use Rattle.unit_views.proofs.Fronts.{typed_shows, typed_in_order, prefix_length, prefix_in_order}
use Rattle.unit_views.proofs.Fronts.{prefix_front, prefix_broken}
use Rattle.unit_views.proofs.origin.OriginView.first.Goals as goal

pub returns-then-u32_at-size-clause-fault : goal.returns-then-u32_at-size-clause-fault
returns-then-u32_at-size-clause-fault g c =
    let (kind, size) = g.met.U.PrefixUnit.typed in
    typed_shows c.args.input.now _ _ c.requires.header c.requires.kind
    (prefix_length g.U.PrefixUnit.family _ _ _
    (λ e. c.if-u32_at-size.true (c.u32_at.ensures ∙ e ∙ sym (c.size.ensures ∙ size))))

pub first_unit-requires-clause-in_order : goal.first_unit-requires-clause-in_order
first_unit-requires-clause-in_order g c =
    let (kind, size) = g.met.U.PrefixUnit.typed in
    typed_in_order c.args.input.now _ c.requires.kind
    (prefix_in_order g.U.PrefixUnit.family _ _ _
    (sym c.u32_at.ensures ∙ c.if-u32_at-size.false ∙ c.size.ensures ∙ size))

pub returns-in-Ok-of-clause-view : goal.returns-in-Ok-of-clause-view
returns-in-Ok-of-clause-view g c =
    let (kind, size) = g.met.U.PrefixUnit.typed in
    let family = g.U.PrefixUnit.family in
    let shape = prefix_front family c.args.input.now c.in-Ok.unit.now
    (λ i. omega (arith, c.type_inv.input i)) c.requires.kind
    (sym c.u32_at.ensures ∙ c.if-u32_at-size.false ∙ c.size.ensures ∙ size)
    c.in-Ok.ensures.unit in
    subst (IsOriginOf family c.in-Ok-of.view) c.in-Ok.ensures.unit.is_first (record {
      shape = shape;
      lengths = c.in-Ok-of.ensures.lengths;
      shows = c.in-Ok-of.ensures.view;
    })

pub returns-in-Err-of-clause-fault : goal.returns-in-Err-of-clause-fault
returns-in-Err-of-clause-fault g c =
    let (kind, size) = g.met.U.PrefixUnit.typed in
    let family = g.U.PrefixUnit.family in
    let shape = prefix_front family c.args.input.now c.in-Ok.unit.now
    (λ i. omega (arith, c.type_inv.input i)) c.requires.kind
    (sym c.u32_at.ensures ∙ c.if-u32_at-size.false ∙ c.size.ensures ∙ size)
    c.in-Ok.ensures.unit in
    prefix_broken family c.args.input.now c.in-Ok.unit.now _ shape c.in-Ok.ensures.unit
    c.in-Err-of.ensures.rule
