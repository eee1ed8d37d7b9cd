use Rattle.std.specs.List.{Contains}
use Rattle.rtr_payload.specs.Payloads.{origin}
use Rattle.data_validation.proofs.Agreeing.{agree}
use Rattle.data_validation.proofs.laws.one_validity.Goals as goal

pub returns : goal.returns
returns c = λ d p asn x y h k. agree (λ v. Contains d (origin v)) p asn x y h k
