use Rattle.std.proofs.Common.{refl, sym, subst}
use Rattle.rtr_base.proofs.Parsing.{reads_number, refuses_others}
use Rattle.rtr_base.specs.Numerals.{IsSerialText}
use Rattle.make_work.proofs.json_values.asn_of_number.Goals as goal

pub returns-in-Ok : goal.returns-in-Ok
returns-in-Ok c =
    subst (IsSerialText c.args.text.now) (sym c.from_u32.ensures)
    (reads_number c.args.text.now c.in-Ok.number c.in-Ok.ensures.value.0)

pub returns-in-Err : goal.returns-in-Err
returns-in-Err c = (refl, refuses_others c.args.text.now c.in-Err.ensures.value.0)
