use Rattle.std.proofs.Common.{rules}
use Rattle.rtr_clean.specs.PrivateClean.{form_held}
use Rattle.rtr_clean.proofs.Runs.{goes_on, stops}
use Rattle.rtr_clean.proofs.clean.clean.Goals as goal

pub loop-count-preserved : goal.loop-count-preserved
loop-count-preserved g c =
    let moved = rw c.in-Ok-Some.field-0-is at c.in-Ok-Some.ensures.bytes in
    record {
      so_far = goes_on (form_held c.args.wanted) _ c.loop-count.count _ _ _ _ _ _ _ _
          c.loop-count.invariant.so_far moved.2 moved.3 moved.4;
      reads = search rules;
      writes = search rules;
    }

pub returns-in-Err : goal.returns-in-Err
returns-in-Err g c =
    stops (form_held c.args.wanted) c.loop-count.count _ _ _ _ c.in-Err.fault _ _
    c.loop-count.invariant.so_far c.in-Err.ensures.bytes (search rules, search rules)
