use Rattle.std.proofs.Common.{◌≡◌, ◌-◌, ◌∙◌, length, take, ap, subst}
use Rattle.rtr_units.specs.Report.{report}
use Rattle.unit_views.specs.Placing.{Places}
use Rattle.unit_any.specs.HeldReports.{held_unit, held_text}
use Rattle.unit_any.proofs.placing.place_report.Goals as goal

pub returns : goal.returns
returns c =
    let p = c.args.pdu.now in
    let t = c.args.text.now in
    let unit : c.front-pdu.result.now ≡ held_unit p = c.front-pdu.ensures.held in
    let text : c.front-text.result.now ≡ held_text p t =
    c.front-text.ensures.held ∙ ap (λ l. take (65519 - length l) t) unit in
    subst (λ l. Places c.place_parts.result l c.args.output.now c.place_parts.new.output)
    (λ i. report c.args.version c.args.code.0 (unit i) (text i)) c.place_parts.ensures
