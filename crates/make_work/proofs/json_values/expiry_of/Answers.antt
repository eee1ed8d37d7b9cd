use Rattle.std.proofs.Common.{ap, sym, ◌∙◌}
use Rattle.make_work.specs.JsonValues.{expiry_of_value}
use Rattle.make_work.proofs.JsonSoFar.{number_seen}
use Rattle.make_work.proofs.json_values.expiry_of.Goals as goal

pub returns-in-Number : goal.returns-in-Number
returns-in-Number c =
    c.expiry_of_number.ensures ∙ ap expiry_of_value
    (sym (number_seen c.args.value.now c.in-Number.text c.in-Number.is))
