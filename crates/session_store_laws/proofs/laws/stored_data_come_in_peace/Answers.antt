use Rattle.session_store_laws.proofs.OneName.{one_per_name}
use Rattle.session_store_laws.proofs.laws.stored_data_come_in_peace.Goals as goal

pub returns : goal.returns
returns g served before c w n input later start end a after has on are applies run is heard
    listens fresh soon peaceful =
    g.bytes_in_peace.ensures c w n input later start end a after applies
    (one_per_name g.one_data_under_each_name.ensures g.one_data_under_each_name_unsaved.ensures
    served before w.had has on are) run is heard listens fresh soon peaceful
