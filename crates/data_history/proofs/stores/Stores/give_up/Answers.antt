use Rattle.data_history.specs.Life.{gave_up}
use Rattle.data_history.specs.Stores.{served_store, taken_store}
use Rattle.data_history.proofs.stores.Stores.give_up.Goals as goal

pub returns-clause-life : goal.returns-clause-life
returns-clause-life c = λ xs file first second l.
    gave_up xs file (served_store c.args.self.now first second)
    (taken_store c.args.self.now first second) l
