use Rattle.std.proofs.Common.{arith}
use Rattle.rtr_wire.proofs.IntoSteps.{along_starts, into_written, into_left_out, into_end}
use Rattle.rtr_wire.proofs.IntoSteps.{into_breaks, into_full}
use Rattle.rtr_wire.proofs.into.run.Goals.{in-Written, in-LeftOut}
use Rattle.rtr_wire.proofs.into.run.Goals as goal

pub loop-units-init : goal.loop-units-init
loop-units-init g c =
    along_starts (g.S.Writing.what c.args.writing) c.args.input.now c.args.output.now

pub loop-units-preserved : goal.loop-units-preserved
loop-units-preserved g c =
    let what = g.S.Writing.what c.args.writing in
    let l = c.loop-units in
    elim c.match-step.branch [
      | in-Written w ↦
          rw w.left_out-is
          (into_written what l.units l.left_out c.args.input.now l.taken c.args.output.now
          l.output l.written l.invariant c.in-Ok.step c.take_step.new.output c.in-Ok.ensures
          w.in-Written.is)
      | in-LeftOut w ↦
          rw w.left_out-is
          (into_left_out what l.units l.left_out c.args.input.now l.taken c.args.output.now
          l.output l.written l.invariant c.in-Ok.step c.take_step.new.output c.in-Ok.ensures
          w.in-LeftOut.is)
    ]

pub returns-in-End : goal.returns-in-End
returns-in-End g c =
    let what = g.S.Writing.what c.args.writing in
    let l = c.loop-units in
    rw c.came.ensures
    (into_end what l.units l.left_out c.args.input.now l.taken c.args.output.now l.output
    l.written l.invariant c.args.limit c.in-Ok.step c.take_step.new.output c.loop-units-test.true
    c.in-End.is c.in-Ok.ensures)

pub returns-in-Err : goal.returns-in-Err
returns-in-Err g c =
    let what = g.S.Writing.what c.args.writing in
    let l = c.loop-units in
    rw c.came-in-Err.ensures
    (into_breaks what l.units l.left_out c.args.input.now l.taken c.args.output.now l.output
    l.written l.invariant c.args.limit c.in-Err.e c.take_step.new.output c.loop-units-test.true
    c.in-Err.ensures.0 c.in-Err.ensures.1)

pub returns : goal.returns
returns g c =
    let what = g.S.Writing.what c.args.writing in
    let l = c.loop-units in
    rw c.came-progress.ensures
    (into_full what l.units l.left_out c.args.input.now l.taken c.args.output.now l.output
    l.written l.invariant c.args.limit (omega (arith, l.auto.units-end, c.loop-units-test.false)))
