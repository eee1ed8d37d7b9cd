use Rattle.std.proofs.Common.{arith, ◌∙◌}
use Rattle.unit_any.specs.AnyUnits.{any_bytes, any_fields}
use Rattle.list_summary.proofs.SummarisedUnits.{ends, goes_on, stops}
use Rattle.list_summary.proofs.run.read_units.Goals as goal

pub loop-count-preserved : goal.loop-count-preserved
loop-count-preserved g c =
    let read = rw c.in-Ok-Some.field-0-is at c.in-Ok-Some.ensures.bytes in
    record {
      so_far =
          goes_on c.loop-count.count c.loop-count.summary _ (any_fields c.in-Ok-Some.unit)
          (any_bytes c.in-Ok-Some.unit) _ _ _ c.loop-count.invariant.so_far (omega arith)
          read.0.0 read.0.1 (record {
            bytes = c.add.ensures.bytes;
            units = c.add.ensures.units;
            announced = c.add.ensures.announced;
            others = c.add.ensures.others;
            v4_lengths = c.add.ensures.v4_lengths;
            v6_lengths = c.add.ensures.v6_lengths;
            ases = c.add.ensures.ases;
            answers = c.add.ensures.answers;
          });
      reads = read.1 ∙ c.loop-count.invariant.reads;
    }

pub returns-in-Ok-None : goal.returns-in-Ok-None
returns-in-Ok-None g c =
    let read = rw c.in-Ok-None.field-0-is at c.in-Ok-None.ensures.bytes in
    ends c.loop-count.count c.loop-count.summary _ _ _ c.loop-count.invariant.so_far read.0
    (read.1 ∙ c.loop-count.invariant.reads)

pub returns-in-Err : goal.returns-in-Err
returns-in-Err g c =
    let read = c.in-Err.ensures.bytes in
    stops c.loop-count.count c.loop-count.summary c.in-Err.fault _ _ _ _
    c.loop-count.invariant.so_far read.0 c.loop-count.invariant.reads read.1
