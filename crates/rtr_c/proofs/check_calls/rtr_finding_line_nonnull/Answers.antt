use Rattle.std.proofs.Common.{◌∙◌, ap, arith, sym}
use Rattle.text_lines.proofs.Laid.{lays_none, lays_said}
use Rattle.rtr_c.specs.Checks.{told_line}
use Rattle.rtr_c.proofs.check_calls.rtr_finding_line_nonnull.Goals as goal

pub returns-in-None : goal.returns-in-None
returns-in-None c =
    lays_said _ _ _ _ _ _ (ap (told_line c.args.offset) (sym c.in-None.is ∙ c.finding_from.ensures))
    (lays_none 0 _ (omega arith))
