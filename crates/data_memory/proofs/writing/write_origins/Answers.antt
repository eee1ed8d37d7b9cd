use Rattle.std.proofs.Common.{rules}
use Rattle.std.proofs.lemmas.Result.{err_from_is_err_and}
use Rattle.std.specs.Map.Iter.{deref}
use Rattle.rtr_payload.specs.Meanings.{origin_of}
use Rattle.data_memory.proofs.Fronts.{sent_more, sent_front, turn, pushed, cut}
use Rattle.data_memory.proofs.writing.write_origins.Goals as goal

pub loop-origin-preserved : goal.loop-origin-preserved
loop-origin-preserved g c = (
  turn deref c.loop-origin.yielded c.in-Some.origin _ _ _ c.loop-origin.invariant.0
      c.in-Some.ensures.steps,
  sent_more c.args.version c.args.action _ _ _ _ _ (origin_of c.in-Some.origin.now)
      (pushed deref origin_of c.loop-origin.yielded c.in-Some.origin) c.loop-origin.invariant.1
      (rw c.get.ensures at c.in_ok-write_origin.ensures.bytes),
)

pub returns-in_err-write_origin : goal.returns-in_err-write_origin
returns-in_err-write_origin g c =
    let p = err_from_is_err_and c.from_residual.result c.from_residual.ensures.1 in
    rw (p.1, p.2) (record {
      bytes = sent_front c.args.version c.args.action _ _ _ _ _ _ (origin_of c.in-Some.origin.now) _
          (cut deref origin_of c.loop-origin.yielded c.in-Some.origin _ _ _
          c.loop-origin.invariant.0
          c.in-Some.ensures.steps) c.loop-origin.invariant.1
          (rw c.get.ensures at c.in_err-write_origin.ensures.bytes);
      error = search rules;
    })
