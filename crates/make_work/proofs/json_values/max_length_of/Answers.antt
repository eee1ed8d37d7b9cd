use Rattle.std.proofs.Common.{MatchResult, sym, subst}
use Rattle.make_work.specs.JsonRefusals.{RefusesMaxLength}
use Rattle.make_work.specs.JsonValues.{IsMaxLengthValue}
use Rattle.make_work.proofs.JsonSoFar.{number_seen}
use Rattle.make_work.proofs.json_values.max_length_of.Goals as goal

pub returns-in-Number : goal.returns-in-Number
returns-in-Number c =
    subst
    (λ j. MatchResult c.length_of_number.result (λ n. IsMaxLengthValue j n) (RefusesMaxLength j))
    (sym (number_seen c.args.value.now c.in-Number.text c.in-Number.is)) c.length_of_number.ensures
