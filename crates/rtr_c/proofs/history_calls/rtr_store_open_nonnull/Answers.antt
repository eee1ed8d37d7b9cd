use Rattle.data_history.proofs.Sealing.{opened}
use Rattle.rtr_c.proofs.history_calls.rtr_store_open_nonnull.Goals as goal

pub returns-in-Some-clause-opens : goal.returns-in-Some-clause-opens
returns-in-Some-clause-opens c = λ t.
    opened c.args.file.now c.in-Some.field-0.now c.in-Some.ensures.opens
