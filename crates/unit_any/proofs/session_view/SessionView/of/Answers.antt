use Rattle.std.proofs.Common.{arith, ◌≡◌}
use Rattle.rtr_units.specs.Header.{type_field}
use Rattle.unit_any.proofs.Units.{notify_has, query_has}
use Rattle.unit_any.proofs.Viewed.{whole_bounded, whole_sized, plain_ten, whole_report}
use Rattle.unit_any.proofs.session_view.SessionView.of.Goals as goal

pub unit_of-requires : goal.unit_of-requires
unit_of-requires c = (whole_bounded c.args.unit.now c.requires.whole).notify c.in-0.is

pub unit_of-requires-in-1 : goal.unit_of-requires-in-1
unit_of-requires-in-1 c = (whole_bounded c.args.unit.now c.requires.whole).query c.in-1.is

pub unit_of-requires-in-2 : goal.unit_of-requires-in-2
unit_of-requires-in-2 c = (whole_bounded c.args.unit.now c.requires.whole).reset_query c.in-2.is

pub unit_of-requires-in-3 : goal.unit_of-requires-in-3
unit_of-requires-in-3 c = (whole_bounded c.args.unit.now c.requires.whole).response c.in-3.is

pub unit_of-requires-in-8 : goal.unit_of-requires-in-8
unit_of-requires-in-8 c = (whole_bounded c.args.unit.now c.requires.whole).reset c.in-8.is

pub returns-in-0 : goal.returns-in-0
returns-in-0 c =
    let u = c.args.unit.now in (
      c.unit_of.ensures,
      notify_has u
          (whole_sized 12 0 u c.requires.whole c.in-0.is
          ((whole_bounded u c.requires.whole).notify c.in-0.is)),
    )

pub returns-in-1 : goal.returns-in-1
returns-in-1 c =
    let u = c.args.unit.now in (
      c.unit_of-in-1.ensures,
      query_has u
          (whole_sized 12 1 u c.requires.whole c.in-1.is
          ((whole_bounded u c.requires.whole).query c.in-1.is)),
    )

pub invariant_of-result : goal.invariant_of-result
invariant_of-result c =
    let u = c.args.unit.now in
    let ten : type_field u ≡ 10 =
    plain_ten (type_field u) c.requires.kind (omega arith) (omega arith) (omega arith) (omega arith)
    (omega arith) in
    let all = whole_bounded u c.requires.whole in
    record { whole = whole_report u c.requires.whole ten; least = all.report ten; most = all.most }
