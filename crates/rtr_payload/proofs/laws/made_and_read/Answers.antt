use Rattle.rtr_payload.proofs.Made.{made_flags, made_means, made_kept}
use Rattle.rtr_payload.proofs.laws.made_and_read.Goals as goal

pub returns-clause-flags : goal.returns-clause-flags
returns-clause-flags c = made_flags

pub returns-clause-means : goal.returns-clause-means
returns-clause-means c = made_means

pub returns-clause-kept : goal.returns-clause-kept
returns-clause-kept c = made_kept
