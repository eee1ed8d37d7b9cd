use Rattle.std.proofs.Common.{ap, subst, ◌∙◌}
use Rattle.std.proofs.lemmas.List.{take_rest}
use Rattle.rtr_base.specs.Actions.{act}
use Rattle.unit_views.specs.Placing.{Places}
use Rattle.rtr_payload.proofs.BodyForms.{key_form_in}
use Rattle.unit_views.proofs.router_key.RouterKeyView.place_form_in.Goals as goal

pub returns : goal.returns
returns c =
    subst (λ l. Places c.place_flagged.result l c.args.output.now c.place_flagged.new.output)
    (key_form_in c.args.self.now.unit.now _ _ c.from_flags-action.result c.args.self.now.whole
    (c.from_flags-action.ensures ∙ ap act c.flags.ensures)
    (take_rest c.args.self.now.unit.now 8))
    c.place_flagged.ensures.form
