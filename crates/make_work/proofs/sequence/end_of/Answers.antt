use Rattle.make_work.proofs.AskedFor.{has_timing}
use Rattle.make_work.proofs.sequence.end_of.Goals as goal

pub returns-clause-fits : goal.returns-clause-fits
returns-clause-fits c = record {
  session = c.session-session.ensures.range;
  serial = c.serial-serial.ensures.range;
  timing = has_timing c.args.asked.now.version c.args.asked.now.timing
      c.in_range.ensures.refresh c.in_range.ensures.retry c.in_range.ensures.expire;
}
