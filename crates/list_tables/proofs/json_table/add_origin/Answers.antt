use Rattle.std.proofs.Common.{rules, refl, codes}
use Rattle.rtr_base.specs.Addresses.{resolved_len}
use Rattle.list_tables.proofs.Said.{last_said, number_said, prefix_said, then_both}
use Rattle.list_tables.proofs.json_table.add_origin.Goals as goal

pub returns : goal.returns
returns c =
    let line = c.args.line.now in
    let prefix = prefix_said line c.add_prefix.new.line (codes "{\"prefix\":\"")
    (codes "\",\"maxLength\":")
    c.prefix.result c.args.origin.prefix.prefix c.resolved_max_len-max_len.result
    (resolved_len c.args.origin.prefix) c.prefix.ensures.prefix
    c.resolved_max_len-max_len.ensures.max_len c.in_ok-add_prefix.ensures in
    let asn = number_said c.add_prefix.new.line c.labelled.new.self (codes ",\"asn\":")
    c.from.result c.args.origin.asn (search rules) c.in_ok-labelled.ensures in
    let both = then_both line c.add_prefix.new.line c.labelled.new.self _ (codes ",\"asn\":") _
    prefix asn in
    last_said c.text.result line c.labelled.new.self c.text.new.self _ (codes "}") _ refl both
    c.text.ensures
