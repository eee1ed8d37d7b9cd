use Rattle.std.proofs.Common.{subst, sym}
use Rattle.rtr_c.specs.WrittenUnits.{Writes}
use Rattle.rtr_c.proofs.Forms.{key_is}
use Rattle.rtr_c.proofs.write.write_key.Goals as goal

pub returns : goal.returns
returns c =
    subst (λ is. Writes is c.placed.result c.args.output.now c.placed.new.output)
    (key_is c.args.unit.now c.args.input.now c.in-Some.info.now _ (sym c.in-Some.ensures.part)
    c.if-unit-gt1.false c.if-info-gt-MAX_KEY_INFO.false c.key_front.ensures) c.placed.ensures
