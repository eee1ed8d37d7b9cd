use Rattle.std.proofs.Common.{◌++◌, ◌∷◌, [], ap, true}
use Rattle.json.specs.Print.{print_from}
use Rattle.json.specs.Token.{end_object}
use Rattle.text_lines.specs.ControlEscapes.{escaped}
use Rattle.text_lines.specs.JsonLines.{report_tokens}
use Rattle.text_lines.specs.ReportParts.{report_parts}
use Rattle.text_lines.proofs.Laid.{lays_both, lays_said}
use Rattle.text_lines.proofs.ReportPieces.{error_said}
use Rattle.text_lines.proofs.unit_object.error.Goals as goal

pub returns : goal.returns
returns c =
    lays_said _ _ _ _ _ _
    (error_said c.args.report.now.code
    (report_tokens (report_parts c.args.report.now.body.now) ++ end_object ∷ []))
    (lays_both _ _ _ _ _ _ _ _ c.labelled-at.ensures
    (lays_said _ _ _ _ _ _
    (ap (λ p. escaped (print_from true (report_tokens p ++ end_object ∷ [])))
    c.parts_of.ensures) c.report_fields.ensures))
