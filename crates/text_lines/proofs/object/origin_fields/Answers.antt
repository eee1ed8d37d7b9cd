use Rattle.text_lines.proofs.JsonPieces.{origin_numbers}
use Rattle.text_lines.proofs.Laid.{lays_both, lays_said}
use Rattle.text_lines.proofs.object.origin_fields.Goals as goal

pub returns : goal.returns
returns c =
    lays_said _ _ _ _ _ _ (origin_numbers c.args.prefix_len c.args.max_len c.args.asn)
    (lays_both _ _ _ _ _ _ _ _ c.labelled-at.ensures
    (lays_both _ _ _ _ _ _ _ _ c.labelled-at-2.ensures
    (lays_both _ _ _ _ _ _ _ _ c.labelled-at-3.ensures c.text.ensures)))
