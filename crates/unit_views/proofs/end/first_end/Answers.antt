use Rattle.std.proofs.Common.{arith, sym, subst, ◌∙◌}
use Rattle.rtr_units.specs.End.{IsEnd, untimed_meaning, timed_meaning}
use Rattle.unit_views.proofs.Fronts.{typed_shows, typed_in_order, end_version, end_length_0}
use Rattle.unit_views.proofs.Fronts.{end_length_1, end_in_order_0, end_in_order_1, end_front_0}
use Rattle.unit_views.proofs.Fronts.{end_front_1}
use Rattle.unit_views.proofs.end.first_end.Goals as goal

pub returns-then-version-gt-LAST_VERSION-clause-fault :
    goal.returns-then-version-gt-LAST_VERSION-clause-fault
returns-then-version-gt-LAST_VERSION-clause-fault c =
    typed_shows c.args.input.now 7 _ c.requires.header c.requires.kind
    (end_version _ _ _ c.if-version-gt-LAST_VERSION.true)

pub returns-then-size-clause-fault : goal.returns-then-size-clause-fault
returns-then-size-clause-fault c =
    typed_shows c.args.input.now 7 _ c.requires.header c.requires.kind
    (end_length_0 _ _ _ c.if-version-eq0.true
    (λ e. c.if-size.true (c.u32_at-size.ensures ∙ e ∙ sym c.size.ensures)))

pub first_unit-requires-clause-in_order : goal.first_unit-requires-clause-in_order
first_unit-requires-clause-in_order c =
    typed_in_order c.args.input.now 7 c.requires.kind
    (end_in_order_0 _ _ _ c.if-version-eq0.true
    (sym c.u32_at-size.ensures ∙ c.if-size.false ∙ c.size.ensures))

pub returns-then-size-2-clause-fault : goal.returns-then-size-2-clause-fault
returns-then-size-2-clause-fault c =
    typed_shows c.args.input.now 7 _ c.requires.header c.requires.kind
    (end_length_1 _ _ _ c.if-version-gt-LAST_VERSION.false c.if-version-eq0.false
    (λ e. c.if-size-2.true (c.u32_at-size.ensures ∙ e ∙ sym c.size-else-version-eq0.ensures)))

pub first_unit-requires-else-version-eq0-clause-in_order :
    goal.first_unit-requires-else-version-eq0-clause-in_order
first_unit-requires-else-version-eq0-clause-in_order c =
    typed_in_order c.args.input.now 7 c.requires.kind
    (end_in_order_1 _ _ _ c.if-version-gt-LAST_VERSION.false c.if-version-eq0.false
    (sym c.u32_at-size.ensures ∙ c.if-size-2.false ∙ c.size-else-version-eq0.ensures))

pub returns-in-Ok-clause-end : goal.returns-in-Ok-clause-end
returns-in-Ok-clause-end c =
    subst (λ l. IsEnd l (untimed_meaning l)) (sym c.unit_of.ensures)
    (end_front_0 c.args.input.now c.in-Ok.unit.now (λ i. omega (arith, c.type_inv.input i))
    c.requires.kind c.if-version-eq0.true
    (sym c.u32_at-size.ensures ∙ c.if-size.false ∙ c.size.ensures) c.in-Ok.ensures.unit)

pub returns-in-Ok-first_unit-clause-end : goal.returns-in-Ok-first_unit-clause-end
returns-in-Ok-first_unit-clause-end c =
    subst (λ l. IsEnd l (timed_meaning l)) (sym c.unit_of-in-Ok-first_unit.ensures)
    (end_front_1 c.args.input.now c.in-Ok-first_unit.unit.now
    (λ i. omega (arith, c.type_inv.input i)) c.requires.kind c.if-version-gt-LAST_VERSION.false
    c.if-version-eq0.false
    (sym c.u32_at-size.ensures ∙ c.if-size-2.false ∙ c.size-else-version-eq0.ensures)
    c.in-Ok-first_unit.ensures.unit)
