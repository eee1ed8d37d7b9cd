use Rattle.std.proofs.Common.{subst}
use Rattle.data_history.proofs.Living.{Chain, lives, one_of_name}
use Rattle.data_history.proofs.laws.one_data_under_each_name.Goals as goal

pub returns : goal.returns
returns c = λ served front between others file present taken x y life all is at on.
    one_of_name front between others x y
    (subst Chain all (lives served file present taken life).chain) is at on
