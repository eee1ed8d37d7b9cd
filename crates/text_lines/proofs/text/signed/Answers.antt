use Rattle.std.proofs.Common.{rules}
use Rattle.text_lines.proofs.Laid.{lays_both, lays_said}
use Rattle.text_lines.proofs.text.signed.Goals as goal

pub returns : goal.returns
returns c =
    lays_said _ _ _ _ _ _ (search rules)
    (lays_both _ _ _ _ _ _ _ _ c.text-at.ensures
    c.describe_payload.ensures)
