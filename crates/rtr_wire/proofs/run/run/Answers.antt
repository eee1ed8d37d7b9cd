use Rattle.std.proofs.lemmas.Result.{err_from_is_err_and}
use Rattle.std.proofs.Common.{ℕ, Err, ◌∙◌, ap, rules, refl, arith}
use Rattle.rtr_units.specs.StopCauses.{cause_of}
use Rattle.rtr_units.specs.StopCauses.{reader_count, writer_count}
use Rattle.rtr_wire.proofs.Calls.{normalises}
use Rattle.rtr_wire.proofs.Stepping.{starts, goes_on, leaves_out, finishes, breaks, reaches_limit}
use Rattle.rtr_wire.proofs.run.run.Goals.{in-Written, in-LeftOut}
use Rattle.rtr_wire.proofs.run.run.Goals as goal

pub loop-count-init : goal.loop-count-init
loop-count-init g c = record {
  so_far = starts (g.S.Writing.what c.args.writing) _ _;
  reads = refl;
  writes = refl;
}

pub loop-count-preserved : goal.loop-count-preserved
loop-count-preserved g c =
    let what = g.S.Writing.what c.args.writing in
    let so_far = c.loop-count.invariant.so_far in
    record {
      so_far = elim c.match-branch-2.branch [
        | in-Written w ↦
            rw w.left_out-is
            (goes_on what c.loop-count.count c.loop-count.left_out _ _ _ _ _ _ so_far
            (rw w.in-Written.is at c.in_ok-step.ensures.bytes))
        | in-LeftOut w ↦
            rw w.left_out-is
            (leaves_out what c.loop-count.count c.loop-count.left_out _ _ _ _ _ _ so_far
            (rw w.in-LeftOut.is at c.in_ok-step.ensures.bytes))
      ];
      reads = search rules;
      writes = search rules;
    }

pub returns-in-End-clause-bytes : goal.returns-in-End-clause-bytes
returns-in-End-clause-bytes g c =
    let what = g.S.Writing.what c.args.writing in
    normalises what c.args.limit _ _ _ _ _
    (finishes what c.args.limit c.loop-count.count c.loop-count.left_out _ _ _ _ _ _
    c.loop-count-test.true c.loop-count.invariant.so_far
    (rw c.in-End.is at c.in_ok-step.ensures.bytes))
    (search rules) (search rules)

pub returns-in_err-step-clause-bytes : goal.returns-in_err-step-clause-bytes
returns-in_err-step-clause-bytes g c =
    let p = err_from_is_err_and c.from_residual.result c.from_residual.ensures.1 in
    let what = g.S.Writing.what c.args.writing in
    let fault = c.in_err-step.field-0.0 in
    let old = c.loop-count.invariant in
    rw (p.1, p.2) (normalises what c.args.limit _ _ _ _ _
    (breaks what c.args.limit c.loop-count.count c.loop-count.left_out fault _ _ _ _ _ _
    c.loop-count-test.true old.so_far c.in_err-step.ensures.bytes)
    (c.in_err-step.ensures.reads ∙ ap (reader_count {T = ℕ} (Err (cause_of fault))) old.reads)
    (c.in_err-step.ensures.writes ∙ ap (writer_count {T = ℕ} (Err (cause_of fault))) old.writes))

pub returns-clause-bytes : goal.returns-clause-bytes
returns-clause-bytes g c =
    let what = g.S.Writing.what c.args.writing in
    normalises what c.args.limit _ _ _ _ _
    (reaches_limit what c.args.limit c.loop-count.count c.loop-count.left_out _ _ _ _
    (omega (arith, c.loop-count.auto.count-end, c.loop-count-test.false))
    c.loop-count.invariant.so_far)
    c.loop-count.invariant.reads c.loop-count.invariant.writes
