use Rattle.std.proofs.Common.{arith}
use Rattle.std.proofs.lemmas.Bool.Decides.{nat_tests}
use Rattle.rtr_c.specs.Texts.{status_name}
use Rattle.rtr_c.proofs.texts.status_text.Goals as goal

pub returns-else-number-lt256 : goal.returns-else-number-lt256
unfolding status_name
returns-else-number-lt256 c = grind (arith, nat_tests)
