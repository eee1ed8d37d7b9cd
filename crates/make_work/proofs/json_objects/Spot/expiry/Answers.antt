use Rattle.std.proofs.Common.{ap, subst, sym, ◌∙◌}
use Rattle.json.specs.Value.{members_view}
use Rattle.make_work.specs.JsonPayloads.{expiry_of_values}
use Rattle.make_work.specs.JsonValues.{members_list}
use Rattle.make_work.specs.PrivateJson.{IsOnly}
use Rattle.make_work.specs.declared.json_names.Part.TheVariants.{Expires}
use Rattle.make_work.proofs.ManyTimes.{more_than_one}
use Rattle.make_work.proofs.json_objects.Spot.expiry.Goals as goal

pub returns-in-Ok-Some : goal.returns-in-Ok-Some
returns-in-Ok-Some c =
    let ms = members_list (members_view c.args.members.now) in
    c.expiry_of.ensures ∙ ap expiry_of_values
    (sym (subst (IsOnly Expires ms) c.in-Ok-Some.field-0-is c.in-Ok-Some.ensures))

pub returns-in-Ok-None : goal.returns-in-Ok-None
returns-in-Ok-None c =
    let ms = members_list (members_view c.args.members.now) in
    ap expiry_of_values
    (sym (subst (IsOnly Expires ms) c.in-Ok-None.field-0-is c.in-Ok-None.ensures))

pub returns-in-Err : goal.returns-in-Err
returns-in-Err c = more_than_one _ c.in-Err.ensures.1
