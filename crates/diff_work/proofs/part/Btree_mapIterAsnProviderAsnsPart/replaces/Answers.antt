use Rattle.std.proofs.Common.{ap, not, ◌∙◌}
use Rattle.std.specs.Cmp.Lexicographic.{texts_ties}
use Rattle.diff_work.proofs.Passing.{aspa_replaces}
use Rattle.diff_work.proofs.part.Btree_mapIterAsnProviderAsnsPart.replaces.Goals as goal

pub returns : goal.returns
returns c =
    let one = c.args.one in
    let other = c.args.other in
    c.ne.ensures ∙ ap not (texts_ties one.1.now other.1.now)
    ∙ aspa_replaces (one.0.now, one.1.now) (other.0.now, other.1.now) c.requires
