use Rattle.std.proofs.Common.{refl, arith}
use Rattle.validate_work.proofs.Splits.{field_here, field_later, field_missing}
use Rattle.validate_work.proofs.table.+field_at.Goals as goal

pub returns-in-Some : goal.returns-in-Some
returns-in-Some t c =
    field_here c.args.index c.args.text.now _ _ (omega (arith, c.if-index-eq0.true))
    c.in-Some.ensures refl

pub returns-in-None : goal.returns-in-None
returns-in-None t c =
    field_here c.args.index c.args.text.now _ _ (omega (arith, c.if-index-eq0.true))
    c.in-None.ensures refl

pub returns-in-Some-split : goal.returns-in-Some-split
returns-in-Some-split t c =
    field_later c.args.index c.args.text.now _ _ (omega (arith, c.if-index-eq0.false))
    c.in-Some-split.ensures c.field_at.ensures

pub returns-in-None-split : goal.returns-in-None-split
returns-in-None-split t c =
    field_missing c.args.index c.args.text.now (omega (arith, c.if-index-eq0.false))
    c.in-None-split.ensures
