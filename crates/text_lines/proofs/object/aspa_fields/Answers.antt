use Rattle.rtr_payload.specs.Providers.{words_of}
use Rattle.text_lines.proofs.JsonPieces.{aspa_said}
use Rattle.text_lines.proofs.Laid.{lays_both, lays_said}
use Rattle.text_lines.proofs.object.aspa_fields.Goals as goal

pub returns : goal.returns
returns c =
    lays_said _ _ _ _ _ _
    (aspa_said c.args.aspa.now.customer (words_of c.args.aspa.now.providers.now))
    (lays_both _ _ _ _ _ _ _ _ c.labelled-at.ensures
    (lays_both _ _ _ _ _ _ _ _ c.text-at.ensures c.providers.ensures))
