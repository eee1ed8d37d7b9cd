use Rattle.std.proofs.Common.{rules}
use Rattle.text_lines.proofs.Laid.{lays_both, lays_said}
use Rattle.rtr_c.proofs.Quoting.{quotation_of}
use Rattle.rtr_c.proofs.texts.lay_quotation.Goals as goal

pub returns : goal.returns
returns c =
    lays_said _ _ _ _ _ _
    (quotation_of c.args.text.now c.quoted_front.result.now (search rules)
    c.quoted_front.ensures)
    (lays_both _ _ _ _ _ _ _ _ c.text-begun.ensures
    (lays_both _ _ _ _ _ _ _ _ c.lay_quoted-end.ensures c.text-2.ensures))
