use Rattle.std.proofs.Common.{Ok, true}
use Rattle.make_work.proofs.make.write.Goals as goal

pub returns-in-Ok-flushed : goal.returns-in-Ok-flushed
returns-in-Ok-flushed g c items gathers = (
  Ok c.in-Ok.left_out,
  true,
  g.W.Sink.state c.write_sequence-answer.new.output,
  c.in-Ok.ensures items gathers,
  (c.in-Ok-flushed.ensures.bytes, c.in-Ok-flushed.ensures.count),
  c.tell_made.ensures,
)
