use Rattle.std.proofs.Common.{◌≡◌, drop, subst}
use Rattle.unit_any.specs.PrivateHeaders.{IsCounted, IsCutShort}
use Rattle.unit_any.specs.Reports.{IsReport}
use Rattle.unit_any.proofs.Parts.{at_none, none_left, some_left, parts_made}
use Rattle.unit_any.proofs.Parts.{none_cut, none_second, none_more}
use Rattle.unit_any.proofs.report_view.ReportView.parts.Goals as goal

pub returns-in_err-pdu : goal.returns-in_err-pdu
returns-in_err-pdu c =
    let u = c.args.self.now.unit.now in
    let same : c.split_at.result.1.now ≡ drop 8 u =
    c.split_at.ensures.back in
    let is : IsReport u = c.args.self.now.whole in
    at_none c.from_residual.result _ _ c.from_residual.ensures
    (none_cut u is (subst IsCutShort same c.in_err-pdu.ensures))

pub returns-in_err-text : goal.returns-in_err-text
returns-in_err-text c =
    let u = c.args.self.now.unit.now in
    let same : c.split_at.result.1.now ≡ drop 8 u =
    c.split_at.ensures.back in
    let is : IsReport u = c.args.self.now.whole in
    let x = c.in_ok-pdu.pdu.now in
    let r = c.in_ok-pdu.rest.now in
    at_none c.from_residual-in_err-text.result _ _ c.from_residual-in_err-text.ensures
    (none_second u is x r (subst (λ l. IsCounted l x r) same c.in_ok-pdu.ensures)
    c.in_err-text.ensures)

pub returns-then-is_empty : goal.returns-then-is_empty
returns-then-is_empty c =
    let u = c.args.self.now.unit.now in
    let same : c.split_at.result.1.now ≡ drop 8 u =
    c.split_at.ensures.back in
    let is : IsReport u = c.args.self.now.whole in
    let x = c.in_ok-pdu.pdu.now in
    let r = c.in_ok-pdu.rest.now in
    let y = c.in_ok-text.text.now in
    let s = c.in_ok-text.rest.now in
    parts_made u is x r y (subst (λ l. IsCounted l x r) same c.in_ok-pdu.ensures)
    (subst (IsCounted r y) (none_left s c.if-is_empty.ensures) c.in_ok-text.ensures)

pub returns-else-is_empty : goal.returns-else-is_empty
returns-else-is_empty c =
    let u = c.args.self.now.unit.now in
    let same : c.split_at.result.1.now ≡ drop 8 u =
    c.split_at.ensures.back in
    let is : IsReport u = c.args.self.now.whole in
    let x = c.in_ok-pdu.pdu.now in
    let r = c.in_ok-pdu.rest.now in
    let y = c.in_ok-text.text.now in
    let s = c.in_ok-text.rest.now in
    none_more u is x r y s (subst (λ l. IsCounted l x r) same c.in_ok-pdu.ensures)
    c.in_ok-text.ensures (some_left s c.if-is_empty.ensures)
