use Rattle.std.proofs.Common.{rules, refl, codes}
use Rattle.list_tables.proofs.Said.{last_said, number_said, then_said}
use Rattle.list_tables.proofs.json_table.add_aspa.Goals as goal

pub returns : goal.returns
returns c =
    let line = c.args.line.now in
    let customer = number_said line c.labelled.new.self (codes "{\"customer_asid\":") c.from.result
    c.args.customer (search rules) c.in_ok-labelled.ensures in
    let opened = then_said line c.labelled.new.self c.text.new.self _
    (codes ",\"providers\":[") _ refl customer c.in_ok-text.ensures in
    let providers = then_said line c.text.new.self c.add_providers.new.line _ _ _ refl opened
    c.in_ok-add_providers.ensures in
    last_said c.text-2.result line c.add_providers.new.line c.text-2.new.self _ (codes "]}") _ refl
    providers c.text-2.ensures
