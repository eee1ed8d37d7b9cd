use Rattle.std.proofs.Common.{sym, ◌∙◌}
use Rattle.data_memory.proofs.Parts.{origin_same}
use Rattle.diff_work.proofs.part.Btree_setIterKeptOriginPart.compare_names.Goals as goal

pub returns : goal.returns
returns c = c.cmp.ensures ∙ sym (origin_same c.args.one.now c.args.other.now)
