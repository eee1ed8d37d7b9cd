use Rattle.data_slices.proofs.Reapplied.{makes_new}
use Rattle.data_slices.proofs.Sent.{holds_delta}
use Rattle.data_slices.proofs.laws.deltas_in_slices.Goals as goal

pub returns-clause-canonical : goal.returns-clause-canonical
returns-clause-canonical c = λ old new rest d d' e e' h j version.
    holds_delta old new d d' e e' h j version rest

pub returns-clause-makes_new : goal.returns-clause-makes_new
returns-clause-makes_new c = makes_new
