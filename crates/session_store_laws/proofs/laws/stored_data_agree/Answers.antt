use Rattle.session_store_laws.proofs.OneName.{one_per_name}
use Rattle.session_store_laws.proofs.Shown.{bytes_show, client_shows}
use Rattle.session_store_laws.proofs.laws.stored_data_agree.Goals as goal

pub returns-clause-client : goal.returns-clause-client
returns-clause-client g = λ served before p has on are run with_data.
    let saved = g.one_data_under_each_name.ensures in
    let unsaved = g.one_data_under_each_name_unsaved.ensures in
    client_shows saved unsaved served before has on p are
    (g.data_agree.ensures p (one_per_name saved unsaved served before p.had has on are) run
    with_data)

pub returns-clause-bytes : goal.returns-clause-bytes
returns-clause-bytes g = λ served before c w has on are applies run with_data.
    let saved = g.one_data_under_each_name.ensures in
    let unsaved = g.one_data_under_each_name_unsaved.ensures in
    bytes_show saved unsaved served before has on w are
    (g.bytes_agree.ensures c w applies (one_per_name saved unsaved served before w.had has on are)
    run with_data)
