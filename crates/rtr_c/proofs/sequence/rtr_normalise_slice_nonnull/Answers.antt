use Rattle.rtr_wire.specs.Sequences.{everything}
use Rattle.rtr_c.proofs.Accepted.{accepted, only}
use Rattle.rtr_c.proofs.sequence.rtr_normalise_slice_nonnull.Goals as goal

pub returns-clause-succeeds : goal.returns-clause-succeeds
returns-clause-succeeds c =
    accepted everything c.args.limit _ c.normalise_into-end.result.1
    c.args.input.now c.args.output.now c.normalise_into-end.new.output c.normalise_into-end.result.0
    _ _ c.normalise_into-end.ensures.bytes c.answer_of.ensures c.normalise_into-end.ensures.room

pub returns-clause-succeeds_only : goal.returns-clause-succeeds_only
returns-clause-succeeds_only c =
    only everything c.args.limit c.normalise_into-end.result.1 c.args.input.now c.args.output.now
    c.normalise_into-end.new.output c.normalise_into-end.result.0 _ _
    c.normalise_into-end.ensures.bytes c.answer_of.ensures
