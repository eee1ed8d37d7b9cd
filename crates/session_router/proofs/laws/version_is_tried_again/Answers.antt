use Rattle.session_router.proofs.laws.version_is_tried_again.Goals as goal
use Rattle.std.proofs.Common.{refl}
use Rattle.session_router.proofs.Examples.{by_numbers_again, fresh_low, has_low, has_risen}
use Rattle.session_router.proofs.Examples.{is_served_again, le, may_fall, may_have_tried}
use Rattle.session_router.proofs.Examples.{rises_again}

pub returns-clause-low : goal.returns-clause-low
returns-clause-low c = has_low

pub returns-clause-silent : goal.returns-clause-silent
returns-clause-silent c = (refl, refl, fresh_low)

pub returns-clause-due : goal.returns-clause-due
returns-clause-due c = (le 3600020 30, le 3600050 0, le 1000 3599020)

pub returns-clause-rises : goal.returns-clause-rises
returns-clause-rises c = rises_again

pub returns-clause-run : goal.returns-clause-run
returns-clause-run c = has_risen

pub returns-clause-served : goal.returns-clause-served
returns-clause-served c = is_served_again

pub returns-clause-until : goal.returns-clause-until
returns-clause-until c = by_numbers_again

pub returns-clause-allowed : goal.returns-clause-allowed
returns-clause-allowed c = may_have_tried

pub returns-clause-falls : goal.returns-clause-falls
returns-clause-falls c = may_fall

pub returns-clause-has_data : goal.returns-clause-has_data
returns-clause-has_data c = refl
