use Rattle.session_store_laws.proofs.OneName.{one_per_name}
use Rattle.session_store_laws.proofs.laws.stored_data_are_current_again.Goals as goal

pub returns : goal.returns
returns g served older before p k input held c has on are with_data run silent so =
    g.client_current_again.ensures.present before p k input held c
    (one_per_name g.one_data_under_each_name.ensures g.one_data_under_each_name_unsaved.ensures
    served older before.had has on are) with_data run silent so
