use Rattle.std.proofs.Common.{ℕ, ◌+◌, List, Err, refl, ◌∙◌, subst, arith}
use Rattle.validate_work.proofs.LinesSoFar.{ends_well, goes_on, starts, stops_answering}
use Rattle.validate_work.proofs.LinesSoFar.{stops_reading}
use Rattle.validate_work.specs.PrivateLines.{PassesLine}
use Rattle.validate_work.proofs.lines.answer_lines.Goals as goal

pub returns-in-Err : goal.returns-in-Err
returns-in-Err g c =
    let i = c.lines.invariant in
    stops_reading g.T.Refusals.hears c.args.strict c.args.formats c.args.lists c.lines.count
    c.lines.refused _ _ _ _ _ _ i.so_far i.reads i.writes c.in-Err.fault _ _ c.in-Err.ensures

pub returns-in-Err-pass_line : goal.returns-in-Err-pass_line
returns-in-Err-pass_line g c =
    let i = c.lines.invariant in
    stops_answering g.T.Refusals.hears c.args.strict c.args.formats c.args.lists c.lines.count
    c.lines.refused (g.R.Source.state c.args.input.now) (g.R.Source.state c.lines.input)
    (g.W.Sink.state c.args.output.now) (g.W.Sink.state c.lines.output) c.args.refusals.now
    c.lines.refusals i.so_far i.reads i.writes c.in-Ok.ending c.read_line.new.line
    (c.lines.count + 1) c.in-Err-pass_line.stop (g.R.Source.state c.read_line.new.input)
    (g.W.Sink.state c.pass_line.new.output) c.pass_line.new.refusals c.in-Ok.ensures
    (subst (λ (l : List ℕ). PassesLine g.T.Refusals.hears c.args.strict c.args.formats
    c.args.lists (c.lines.count + 1) l (Err c.in-Err-pass_line.stop)
    (g.W.Sink.state c.lines.output) (g.W.Sink.state c.pass_line.new.output) c.lines.refusals
    c.pass_line.new.refusals) c.as_bytes-line.ensures c.in-Err-pass_line.ensures.passes) refl

pub returns-in-Input : goal.returns-in-Input
returns-in-Input g c =
    let i = c.lines.invariant in
    ends_well g.T.Refusals.hears c.args.strict c.args.formats c.args.lists c.lines.count
    c.lines.refused (g.R.Source.state c.args.input.now) (g.R.Source.state c.lines.input)
    (g.W.Sink.state c.args.output.now) (g.W.Sink.state c.lines.output) c.args.refusals.now
    c.lines.refusals i.so_far i.reads i.writes c.read_line.new.line (c.lines.count + 1)
    c.in-Ok-pass_line.more (c.lines.refused + c.in-Ok-pass_line.more)
    (g.R.Source.state c.read_line.new.input) (g.W.Sink.state c.pass_line.new.output)
    c.pass_line.new.refusals (rw c.in-Input.is at c.in-Ok.ensures)
    (rw c.as_bytes-line.ensures at c.in-Ok-pass_line.ensures.passes) refl refl

pub lines-preserved : goal.lines-preserved
lines-preserved g c =
    let i = c.lines.invariant in
    let read = rw c.in-Feed.is at c.in-Ok.ensures in
    let wrote = rw c.as_bytes-line.ensures at c.in-Ok-pass_line.ensures.passes in
    let ((is, took), taken) = read in
    let (text, since, done, appends, kept, hears, many) = wrote in
    record {
      so_far = goes_on g.T.Refusals.hears c.args.strict c.args.formats c.args.lists
          c.lines.count c.lines.refused c.in-Ok-pass_line.more c.read_line.new.line text since
          _ _ _ _ _ _ _ _ _ i.so_far is took done appends hears many;
      reads = taken ∙ i.reads;
      writes = kept ∙ i.writes;
      most = omega (arith, i.most, c.in-Ok-pass_line.ensures.most);
    }

pub lines-init : goal.lines-init
lines-init g c = record {
  so_far = starts g.T.Refusals.hears c.args.strict c.args.formats c.args.lists _ _ _;
  reads = refl;
  writes = refl;
  most = omega arith;
}
