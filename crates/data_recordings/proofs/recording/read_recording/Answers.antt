use Rattle.std.proofs.Common.{arith, ◌∙◌}
use Rattle.data_recordings.proofs.RecordingSoFar.{breaks, ends_so, goes_on, refuses}
use Rattle.data_recordings.proofs.recording.read_recording.Goals as goal

pub loop-count-preserved : goal.loop-count-preserved
loop-count-preserved g c =
    let read = rw c.in-Ok-Some.field-0-is at c.in-Ok-Some.ensures.bytes in
    let so_far = c.loop-count.invariant.so_far in
    record {
      so_far =
          goes_on c.loop-count.count c.loop-count.offset _ _ _ _ c.loop-count.held _
          c.in-Ok-Some.unit so_far read.0.0 read.0.1 c.in-Ok.ensures
          (omega (arith, c.saturating_add-offset.ensures, c.from.ensures, c.size-size.ensures));
      reads = read.1 ∙ c.loop-count.invariant.reads;
    }

pub returns-in-Err-take-clause-bytes : goal.returns-in-Err-take-clause-bytes
returns-in-Err-take-clause-bytes g c =
    let read = rw c.in-Ok-Some.field-0-is at c.in-Ok-Some.ensures.bytes in
    let so_far = c.loop-count.invariant.so_far in
    refuses c.loop-count.count c.loop-count.offset _ _ c.loop-count.held _ so_far
    c.in-Err-take.cause c.in-Ok-Some.unit _ read.0.0 read.0.1 c.in-Err-take.ensures
    (read.1 ∙ c.loop-count.invariant.reads)

pub returns-in-Ok-None-clause-bytes : goal.returns-in-Ok-None-clause-bytes
returns-in-Ok-None-clause-bytes g c =
    let read = rw c.in-Ok-None.field-0-is at c.in-Ok-None.ensures.bytes in
    let so_far = c.loop-count.invariant.so_far in
    ends_so c.loop-count.count c.loop-count.offset _ _ c.loop-count.held _ so_far _ read.0
    c.finish.ensures (read.1 ∙ c.loop-count.invariant.reads)

pub returns-in-Err-clause-bytes : goal.returns-in-Err-clause-bytes
returns-in-Err-clause-bytes g c =
    let read = c.in-Err.ensures.bytes in
    let so_far = c.loop-count.invariant.so_far in
    breaks c.loop-count.count c.loop-count.offset _ _ c.loop-count.held _ so_far c.in-Err.fault
    read.0 _ c.loop-count.invariant.reads read.1
