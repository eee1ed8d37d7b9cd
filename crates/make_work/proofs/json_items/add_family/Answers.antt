use Rattle.std.proofs.Common.{false, sym, ap, ◌∙◌}
use Rattle.std.specs.Option.{is_some}
use Rattle.json.specs.Value.{value_view}
use Rattle.make_work.proofs.ByNames.{family_by, unknown}
use Rattle.make_work.proofs.json_items.add_family.Goals as goal

pub returns-in-None : goal.returns-in-None
returns-in-None c =
    let j = value_view c.args.value.now in
    family_by c.args.name.now j false c.check_unknown.result _ _
    (sym c.family_named.ensures ∙ ap is_some c.in-None.is)
    (unknown j c.check_unknown.result _ c.check_unknown.ensures)
