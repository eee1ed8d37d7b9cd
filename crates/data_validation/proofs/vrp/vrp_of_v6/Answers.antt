use Rattle.rtr_base.specs.Addresses.{v6, width}
use Rattle.data_validation.proofs.Bits.{cleared_clear}
use Rattle.data_validation.proofs.vrp.vrp_of_v6.Goals as goal

pub returns-clause-clear : goal.returns-clause-clear
returns-clause-clear c =
    rw c.clear_after.ensures.cleared (cleared_clear (width v6) _ _)
