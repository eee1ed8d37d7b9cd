use Rattle.std.proofs.Common.{subst, sym}
use Rattle.rtr_c.specs.WrittenUnits.{Writes}
use Rattle.rtr_c.proofs.Forms.{report_is}
use Rattle.rtr_c.proofs.write.write_report.Goals as goal

pub returns : goal.returns
returns c =
    subst (λ is. Writes is c.placed_report.result c.args.output.now c.placed_report.new.output)
    (report_is c.args.unit.now c.args.input.now c.in-Some.pdu.now c.in-Some-piece_of.text.now
    (sym c.in-Some.ensures.part) (sym c.in-Some-piece_of.ensures.piece) c.if-unit-gt0.false
    c.if-pdu-text-gt-MAX_REPORTED.false)
    c.placed_report.ensures
