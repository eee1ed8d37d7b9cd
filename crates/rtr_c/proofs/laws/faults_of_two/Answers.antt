use Rattle.rtr_c.proofs.Sides.{of_left, of_right}
use Rattle.rtr_c.proofs.laws.faults_of_two.Goals as goal

pub returns : goal.returns
returns c = record { left = of_left; right = of_right }
