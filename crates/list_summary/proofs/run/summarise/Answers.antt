use Rattle.std.proofs.Common.{refl, inl, inr, subst, is_ok}
use Rattle.rtr_units.specs.StopCauses.{by_cause}
use Rattle.list_lines.specs.ListStatus.{read_status}
use Rattle.program_frame.specs.Questions.{WritesText}
use Rattle.list_summary.proofs.SummaryLines.{text_same}
use Rattle.list_summary.proofs.run.summarise.Goals as goal

pub returns-in-Ok-clause-summarises : goal.returns-in-Ok-clause-summarises
returns-in-Ok-clause-summarises g c =
    let read = c.read_units-answer.ensures in
    let reading = c.read_units-answer.result in
    let same = text_same (is_ok reading) c.is_ok.result c.read_units-answer.new.summary read.0
    c.new-text.result c.add_summary.new.line c.as_bytes.result.now read.2 c.new-text.ensures
    c.is_ok.ensures.value c.in-Ok.ensures.answers c.in-Ok.ensures.ases
    c.in-Ok.ensures.lines c.as_bytes.ensures in
    record {
      units = read.0;
      reading = reading;
      reads = read.1;
      prints =
          inl (subst
          (λ text. WritesText text (read_status (by_cause reading)) 3 c.print.result
          (g.W.Sink.state c.args.output.now) (g.W.Sink.state c.print.new.output))
          same c.print.ensures.writes);
    }

pub returns-clause-summarises : goal.returns-clause-summarises
returns-clause-summarises g c =
    let read = c.read_units-answer.ensures in
    record {
      units = read.0;
      reading = c.read_units-answer.result;
      reads = read.1;
      prints = inr (c.fail.ensures, refl);
    }
