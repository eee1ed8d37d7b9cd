use Rattle.std.proofs.Common.{sym, ◌∙◌}
use Rattle.rtr_base.proofs.ReadValues.{refused_digit}
use Rattle.rtr_base.proofs.parse.KeyIdentifierFromStr.from_str.Goals as goal

pub returns-in-Err : goal.returns-in-Err
returns-in-Err c =
    let length = c.if-text-ne40.false in (
      length,
      refused_digit c.args.text.now c.in-Err.field-0 length (sym c.from_hex.ensures ∙ c.in-Err.is),
    )
