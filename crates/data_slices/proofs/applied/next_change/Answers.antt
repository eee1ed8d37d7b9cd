use Rattle.std.proofs.Common.{refl, sym, ◌∙◌}
use Rattle.data_slices.proofs.Leasts.{least_bound, new_bound, one_bound}
use Rattle.data_slices.proofs.applied.next_change.Goals as goal

pub returns-in-Less : goal.returns-in-Less
returns-in-Less c =
    let (gone, new) = least_bound c.in-Some-next_unit.second c.in-Some-next_unit.field-0-1.now
    c.args.withdrawn.now c.in-Some-next_unit.ensures.unit c.in-Some.first c.in-Some.field-0-1.now
    c.args.new.now c.in-Some.ensures.unit
    (λ e. let no = sym e ∙ sym c.compare_names.ensures ∙ c.in-Less.is in cc) in
    (new, gone)

pub returns-in-Equal : goal.returns-in-Equal
returns-in-Equal c =
    new_bound c.in-Some.first c.in-Some.field-0-1.now c.args.new.now c.in-Some.ensures.unit
    c.in-Some-next_unit.second c.in-Some-next_unit.field-0-1.now c.args.withdrawn.now
    c.in-Some-next_unit.ensures.unit
    (λ e. let no = sym e ∙ sym c.compare_names.ensures ∙ c.in-Equal.is in cc)

pub returns-in-Greater : goal.returns-in-Greater
returns-in-Greater c =
    new_bound c.in-Some.first c.in-Some.field-0-1.now c.args.new.now c.in-Some.ensures.unit
    c.in-Some-next_unit.second c.in-Some-next_unit.field-0-1.now c.args.withdrawn.now
    c.in-Some-next_unit.ensures.unit
    (λ e. let no = sym e ∙ sym c.compare_names.ensures ∙ c.in-Greater.is in cc)

pub returns-in-None-next_unit : goal.returns-in-None-next_unit
returns-in-None-next_unit c =
    one_bound c.in-Some.first c.in-Some.field-0-1.now c.args.new.now c.args.withdrawn.now
    c.in-Some.ensures.unit (c.in-None-next_unit.ensures.none refl)

pub returns-in-Some-next_unit-2 : goal.returns-in-Some-next_unit-2
returns-in-Some-next_unit-2 c =
    let (gone, new) = one_bound c.in-Some-next_unit-2.second c.in-Some-next_unit-2.field-0-1.now
    c.args.withdrawn.now c.args.new.now c.in-Some-next_unit-2.ensures.unit
    (c.in-None.ensures.none refl) in
    (new, gone)

pub returns-in-None-next_unit-2 : goal.returns-in-None-next_unit-2
returns-in-None-next_unit-2 c =
    (c.in-None.ensures.none refl, c.in-None-next_unit-2.ensures.none refl)
