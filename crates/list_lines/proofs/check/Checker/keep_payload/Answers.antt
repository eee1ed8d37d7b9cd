use Rattle.std.proofs.Common.{◌∙◌, ap, sym}
use Rattle.std.specs.Option.{option_map}
use Rattle.rtr_payload.specs.Meanings.{payload_of}
use Rattle.rtr_payload.specs.UnitBytes.{unit_fields}
use Rattle.list_lines.proofs.Knowing.{action_is, if_ok_both, payload_keeps}
use Rattle.list_lines.proofs.NamedPayloads.{fit_in}
use Rattle.list_lines.proofs.check.Checker.keep_payload.Goals as goal

pub returns-in-Some-clause-keeps : goal.returns-in-Some-clause-keeps
returns-in-Some-clause-keeps c =
    if_ok_both c.count.result c.count.ensures.there c.count.ensures.announced
    (λ there said names.
    payload_keeps c.args.unit.now c.args.self.now.announced c.count.new.self.announced
    (payload_of c.in-Some.payload) _ there c.action.ensures
    (sym (ap (option_map payload_of) c.in-Some.is) ∙ c.in_ok-payload.ensures) said names)

pub count-requires : goal.count-requires
count-requires c =
    λ e. fit_in (unit_fields c.args.unit.now) (payload_of c.in-Some.payload) c.requires.limits
    (sym (ap (option_map payload_of) c.in-Some.is) ∙ c.in_ok-payload.ensures)
    (sym (action_is c.args.unit.now) ∙ sym c.action.ensures ∙ e)
