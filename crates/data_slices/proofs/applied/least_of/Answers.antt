use Rattle.std.proofs.Common.{refl, sym, ◌∙◌}
use Rattle.data_slices.proofs.Leasts.{new_alone, new_equal, new_greater, old_alone, old_less}
use Rattle.data_slices.proofs.applied.least_of.Goals as goal

pub returns-in-Less-clause-least : goal.returns-in-Less-clause-least
returns-in-Less-clause-least c =
    old_less c.args.old.now c.args.new.now c.in-Some.first c.in-Some.left.now
    c.in-Some.ensures.unit c.in-Some-next_unit.second c.in-Some-next_unit.right.now
    c.in-Some-next_unit.ensures.unit (sym c.compare_names.ensures ∙ c.in-Less.is)

pub returns-in-Equal-clause-least : goal.returns-in-Equal-clause-least
returns-in-Equal-clause-least c =
    new_equal c.args.old.now c.args.new.now c.in-Some.first c.in-Some.left.now
    c.in-Some.ensures.unit c.in-Some-next_unit.second c.in-Some-next_unit.right.now
    c.in-Some-next_unit.ensures.unit (sym c.compare_names.ensures ∙ c.in-Equal.is)

pub returns-in-Greater-clause-least : goal.returns-in-Greater-clause-least
returns-in-Greater-clause-least c =
    new_greater c.args.old.now c.args.new.now c.in-Some.first c.in-Some.left.now
    c.in-Some.ensures.unit c.in-Some-next_unit.second c.in-Some-next_unit.right.now
    c.in-Some-next_unit.ensures.unit (sym c.compare_names.ensures ∙ c.in-Greater.is)

pub returns-in-None-next_unit-clause-least : goal.returns-in-None-next_unit-clause-least
returns-in-None-next_unit-clause-least c =
    old_alone c.args.old.now c.args.new.now c.in-Some.first c.in-Some.left.now
    c.in-Some.ensures.unit (c.in-None-next_unit.ensures.none refl)

pub returns-in-Some-next_unit-2-clause-least : goal.returns-in-Some-next_unit-2-clause-least
returns-in-Some-next_unit-2-clause-least c =
    new_alone c.args.old.now c.args.new.now c.in-Some-next_unit-2.second
    c.in-Some-next_unit-2.right.now c.in-Some-next_unit-2.ensures.unit
    (c.in-None.ensures.none refl)

pub returns-in-None-next_unit-2-clause-none : goal.returns-in-None-next_unit-2-clause-none
returns-in-None-next_unit-2-clause-none c = λ same.
    (c.in-None.ensures.none refl, c.in-None-next_unit-2.ensures.none refl)
