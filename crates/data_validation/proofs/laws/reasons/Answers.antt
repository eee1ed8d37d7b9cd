use Rattle.data_validation.proofs.Agreeing.{reason_or_match}
use Rattle.data_validation.proofs.laws.reasons.Goals as goal

pub returns : goal.returns
returns c = λ v p asn m h k. reason_or_match v p asn m h k
