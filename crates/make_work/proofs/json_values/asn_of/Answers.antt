use Rattle.std.proofs.Common.{MatchResult, sym, subst}
use Rattle.make_work.specs.JsonRefusals.{RefusesAsn}
use Rattle.make_work.specs.JsonValues.{IsAsnValue}
use Rattle.make_work.proofs.JsonSoFar.{number_seen, string_seen}
use Rattle.make_work.proofs.json_values.asn_of.Goals as goal

pub returns-in-Number : goal.returns-in-Number
returns-in-Number c =
    subst (λ j. MatchResult c.asn_of_number.result (λ n. IsAsnValue j n) (RefusesAsn j))
    (sym (number_seen c.args.value.now c.in-Number.text c.in-Number.is)) c.asn_of_number.ensures

pub returns-in-String : goal.returns-in-String
returns-in-String c =
    subst (λ j. MatchResult c.asn_of_text.result (λ n. IsAsnValue j n) (RefusesAsn j))
    (sym (string_seen c.args.value.now c.in-String.text c.in-String.is)) c.asn_of_text.ensures
