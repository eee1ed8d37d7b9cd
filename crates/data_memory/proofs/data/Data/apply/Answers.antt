use Rattle.std.proofs.Common.{sym, subst, refl, ◌∙◌, arith}
use Rattle.data_memory.proofs.Applied.{SoFar, starts, goes_on, finishes, breaks, refuses}
use Rattle.data_memory.proofs.Applied.{reaches_limit, starves}
use Rattle.data_memory.proofs.data.Data.apply.Goals as goal

pub returns-in_default-clause-bytes : goal.returns-in_default-clause-bytes
returns-in_default-clause-bytes g c =
    starves c.args.limit (g.R.Source.state c.args.reader.now) c.args.self.now

pub loop-units-init : goal.loop-units-init
loop-units-init g c =
    let left = (g.R.Source.state c.args.reader.now).left in
    record {
      so_far =
          subst (λ d. SoFar 0 left left c.args.self.now d) (sym c.in-Ok.ensures)
          (starts left c.args.self.now);
      reads = refl;
      same = refl;
    }

pub loop-units-preserved : goal.loop-units-preserved
loop-units-preserved g c =
    let old = c.loop-units.invariant in
    let read = rw c.in-Ok-Ok.field-0-is at c.in-Ok-Ok.ensures.bytes in
    record {
      so_far =
          goes_on c.loop-units.units _ _ _ _ _ _ c.in-Ok-Ok.action c.in-Ok-Ok.payload old.so_far
          read c.in-Ok-change.ensures;
      reads = c.in-Ok-Ok.ensures.count ∙ old.reads;
      same = old.same;
    }

pub returns-in-Err-change-clause-bytes : goal.returns-in-Err-change-clause-bytes
returns-in-Err-change-clause-bytes g c =
    let old = c.loop-units.invariant in
    let read = rw c.in-Ok-Ok.field-0-is at c.in-Ok-Ok.ensures.bytes in
    refuses c.args.limit c.loop-units.units c.in-Err-change.error
    (g.R.Source.state c.args.reader.now) (g.R.Source.state c.loop-units.reader)
    (g.R.Source.state c.read_change.new.reader) c.args.self.now c.loop-units.next
    c.loop-units.self c.change.new.self c.in-Ok-Ok.action c.in-Ok-Ok.payload old.same
    c.loop-units-test.true old.so_far old.reads read c.in-Ok-Ok.ensures.count
    c.in-Err-change.ensures

pub returns-in-Ok-Err-clause-bytes : goal.returns-in-Ok-Err-clause-bytes
returns-in-Ok-Err-clause-bytes g c =
    let old = c.loop-units.invariant in
    let read = rw c.in-Ok-Err.field-0-is at c.in-Ok-Err.ensures.bytes in
    finishes c.args.limit c.loop-units.units c.in-Ok-Err.end (g.R.Source.state c.args.reader.now)
    (g.R.Source.state c.loop-units.reader) (g.R.Source.state c.read_change.new.reader)
    c.args.self.now c.loop-units.next c.loop-units-test.true old.so_far old.reads read
    c.in-Ok-Err.ensures.count

pub returns-in-Err-clause-bytes : goal.returns-in-Err-clause-bytes
returns-in-Err-clause-bytes g c =
    let old = c.loop-units.invariant in
    breaks c.args.limit c.loop-units.units c.in-Err.fault (g.R.Source.state c.args.reader.now)
    (g.R.Source.state c.loop-units.reader) (g.R.Source.state c.read_change.new.reader)
    c.args.self.now c.loop-units.next c.loop-units.self old.same c.loop-units-test.true old.so_far
    old.reads c.in-Err.ensures.bytes c.in-Err.ensures.count

pub returns-clause-bytes : goal.returns-clause-bytes
returns-clause-bytes g c =
    let old = c.loop-units.invariant in
    reaches_limit c.args.limit c.loop-units.units (g.R.Source.state c.args.reader.now)
    (g.R.Source.state c.loop-units.reader) c.args.self.now c.loop-units.next c.loop-units.self
    old.same (omega (arith, c.loop-units.auto.units-end, c.loop-units-test.false)) old.so_far
    old.reads
