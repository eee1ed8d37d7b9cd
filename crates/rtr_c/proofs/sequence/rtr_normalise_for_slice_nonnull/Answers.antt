use Rattle.std.proofs.Common.{inl, inr}
use Rattle.std.proofs.lemmas.Bool.{cases_lt}
use Rattle.rtr_wire.specs.Sequences.{for_version}
use Rattle.rtr_c.proofs.Accepted.{accepted, only, unknown}
use Rattle.rtr_c.proofs.sequence.rtr_normalise_for_slice_nonnull.Goals as goal

pub returns-clause-succeeds : goal.returns-clause-succeeds
returns-clause-succeeds c known =
    accepted (for_version c.args.version) c.args.limit _
    c.normalise_for_into-end.result.1 c.args.input.now c.args.output.now
    c.normalise_for_into-end.new.output c.normalise_for_into-end.result.0 _ _
    (c.normalise_for_into-end.ensures.known known) c.answer_of.ensures
    (c.normalise_for_into-end.ensures.room known)

pub returns-clause-succeeds_only : goal.returns-clause-succeeds_only
returns-clause-succeeds_only c zero = elim (cases_lt 2 c.args.version) [
  | inl over ↦
      absurd (unknown c.args.version c.normalise_for_into-end.result.1 c.args.input.now
      c.args.output.now
      c.normalise_for_into-end.new.output c.normalise_for_into-end.result.0 _ _
      (c.normalise_for_into-end.ensures.unknown over) c.answer_of.ensures zero)
  | inr known ↦
      only (for_version c.args.version) c.args.limit c.normalise_for_into-end.result.1
      c.args.input.now c.args.output.now c.normalise_for_into-end.new.output
      c.normalise_for_into-end.result.0 _ _ (c.normalise_for_into-end.ensures.known known)
      c.answer_of.ensures zero
]
