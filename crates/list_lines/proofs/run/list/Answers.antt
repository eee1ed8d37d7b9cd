use Rattle.std.proofs.Common.{rules, refl, Err, ◌∙◌}
use Rattle.unit_any.specs.AnyUnits.{any_fields}
use Rattle.list_lines.proofs.Runs.{count_kept, ends, goes_on, starts, stops_at_end}
use Rattle.list_lines.proofs.Runs.{stops_printing, stops_reading}
use Rattle.list_lines.proofs.run.list.Goals as goal

pub loop-count-init : goal.loop-count-init
loop-count-init g c = record {
  so_far = starts c.args.wanted _ _ _ _ c.requires.offset c.requires.checker;
  reads = refl;
  writes = refl;
}

pub loop-count-preserved : goal.loop-count-preserved
loop-count-preserved g c =
    let unit = rw c.in-Ok-Some.field-0-is at c.in-Ok-Some.ensures.bytes in
    record {
      so_far = goes_on c.args.wanted c.loop-count.found c.in-Ok.more c.loop-count.count
          _ _ _ _ (any_fields c.in-Ok-Some.unit) _ _ _ _ _ _ _ c.loop-count.invariant.so_far
          unit.0.0 unit.0.1
          (λ before h. let k = c.in-Ok.ensures.lines before h in (k.0, k.1, k.2.0))
          (λ before h. c.in-Ok.ensures.checks before h)
          c.in-Ok.ensures.moves;
      reads = search rules;
      writes = search rules;
    }

pub returns-in-Err-print : goal.returns-in-Err-print
returns-in-Err-print g c =
    let unit = rw c.in-Ok-Some.field-0-is at c.in-Ok-Some.ensures.bytes in
    stops_printing c.args.wanted c.loop-count.found c.loop-count.count _ _ c.print.new.failure
    (any_fields c.in-Ok-Some.unit) _ _ _ _ _ _ _ c.loop-count.invariant.so_far
    unit.0.0 unit.0.1
    (λ before h. let k = c.in-Err-print.ensures.lines before h in (k.0, k.1, k.2.0))
    (search rules, search rules)

pub returns-in-Err : goal.returns-in-Err
returns-in-Err g c =
    stops_reading c.args.wanted c.loop-count.found c.loop-count.count _ _ c.in-Err.fault
    _ _ _ _ _ c.loop-count.invariant.so_far c.in-Err.ensures.bytes.0 (search rules, search rules)

pub returns-in-Ok-finish : goal.returns-in-Ok-finish
returns-in-Ok-finish g c =
    let read = rw c.in-Ok-None.field-0-is at c.in-Ok-None.ensures.bytes in
    let so_far = c.loop-count.invariant.so_far in
    let last = c.in-Ok-finish.ensures.lines so_far.units so_far.checked so_far.place in
    ends c.args.wanted c.loop-count.found c.in-Ok-finish.more c.loop-count.count _ _ _ _ _ _ _ _
    so_far read.0
    (λ before seen place. let k = c.in-Ok-finish.ensures.lines before seen place in (k.0.0, k.0.1))
    (read.1 ∙ c.loop-count.invariant.reads) (last.1 ∙ c.loop-count.invariant.writes)

pub returns-in-Err-finish : goal.returns-in-Err-finish
returns-in-Err-finish g c =
    let read = rw c.in-Ok-None.field-0-is at c.in-Ok-None.ensures.bytes in
    let so_far = c.loop-count.invariant.so_far in
    let last = c.in-Err-finish.ensures.lines so_far.units so_far.checked so_far.place in
    stops_at_end c.args.wanted c.loop-count.found c.loop-count.count _ _ c.finish.new.failure
    _ _ _ _ _ _ so_far read.0
    (λ before seen place.
    let k = c.in-Err-finish.ensures.lines before seen place in (k.0.0, k.0.1, k.0.2)) (
      search rules,
      count_kept (Err c.finish.new.failure) _ _ _ last.1 c.loop-count.invariant.writes,
    )
