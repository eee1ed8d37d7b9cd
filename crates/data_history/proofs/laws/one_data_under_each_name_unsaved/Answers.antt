use Rattle.std.proofs.Common.{subst}
use Rattle.data_history.proofs.Living.{Chain, lives_unsaved, one_of_name}
use Rattle.data_history.proofs.laws.one_data_under_each_name_unsaved.Goals as goal

pub returns : goal.returns
returns c = λ served front between others session present x y life all is at on.
    one_of_name front between others x y
    (subst Chain all (lives_unsaved served session present life).0) is at on
