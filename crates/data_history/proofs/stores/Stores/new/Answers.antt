use Rattle.std.proofs.Common.{refl}
use Rattle.data_history.specs.Life.{was_new}
use Rattle.data_history.proofs.stores.Stores.new.Goals as goal

pub returns : goal.returns
returns c = record { is = refl; life = λ first second. was_new }
