use Rattle.std.proofs.Common.{ℕ, refl, ◌∙◌, arith}
use Rattle.rtr_wire.specs.Sequences.{everything}
use Rattle.rtr_wire.proofs.Slices.{slice_ends, slice_fills, slice_breaks, view_writer_count}
use Rattle.rtr_wire.proofs.Stepping.{starts, goes_on}
use Rattle.rtr_wire.proofs.slice.normalise_slice.Goals as goal

pub loop-count-init : goal.loop-count-init
loop-count-init g c = record { so_far = starts everything _ _; writes = refl }

pub loop-count-preserved : goal.loop-count-preserved
loop-count-preserved g c =
    record {
      so_far =
          goes_on everything c.loop-count.count 0 _ _ _ _ _ _ c.loop-count.invariant.so_far
          (rw c.if-not-is_unit.false at c.in-Ok.ensures.unit);
      writes = c.in-Ok.ensures.count ∙ c.loop-count.invariant.writes;
    }

pub returns-then-not-is_unit-clause-bytes : goal.returns-then-not-is_unit-clause-bytes
returns-then-not-is_unit-clause-bytes g c =
    slice_ends c.args.limit c.loop-count.count c.args.input.now c.loop-count.rest.now
    c.in-Ok.left.now _ _ _ c.loop-count-test.true
    c.loop-count.invariant.so_far (rw c.if-not-is_unit.true at c.in-Ok.ensures.unit)
    (c.in-Ok.ensures.count ∙ c.loop-count.invariant.writes)

pub returns-in-Err-clause-bytes : goal.returns-in-Err-clause-bytes
returns-in-Err-clause-bytes g c =
    slice_breaks c.args.limit c.loop-count.count c.in-Err.e c.args.input.now c.loop-count.rest.now _
    _ _ c.loop-count-test.true
    c.loop-count.invariant.so_far c.in-Err.ensures.fault
    (view_writer_count ℕ ℕ c.in-Err.e _ _ _ c.in-Err.ensures.count c.loop-count.invariant.writes)

pub returns-clause-bytes : goal.returns-clause-bytes
returns-clause-bytes g c =
    slice_fills c.args.limit c.loop-count.count c.args.input.now c.loop-count.rest.now _ _
    (omega (arith, c.loop-count.auto.count-end, c.loop-count-test.false))
    c.loop-count.invariant.so_far c.loop-count.invariant.writes
