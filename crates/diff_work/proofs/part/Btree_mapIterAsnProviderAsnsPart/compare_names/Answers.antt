use Rattle.std.proofs.Common.{sym, ◌∙◌}
use Rattle.data_memory.proofs.Parts.{entry_same}
use Rattle.diff_work.proofs.part.Btree_mapIterAsnProviderAsnsPart.compare_names.Goals as goal

pub returns : goal.returns
returns c =
    let one = c.args.one in
    let other = c.args.other in
    c.cmp.ensures ∙ sym (entry_same (record { customer = one.0.now; providers = one.1.now })
    (other.0.now, other.1.now))
