use Rattle.session_store_laws.proofs.OneName.{one_per_name}
use Rattle.session_store_laws.proofs.laws.stores_have_one_data_per_name.Goals as goal

pub returns : goal.returns
returns g served before had has on are =
    one_per_name g.one_data_under_each_name.ensures g.one_data_under_each_name_unsaved.ensures
    served before had has on are
