use Rattle.session_router.proofs.laws.one_result.Goals as goal
use Rattle.session_router.proofs.OneResult.{one_result}

pub returns : goal.returns
returns c r n e a b r₁ r₂ x y = one_result r n e a b r₁ r₂ x y
