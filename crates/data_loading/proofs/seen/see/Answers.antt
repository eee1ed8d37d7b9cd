use Rattle.data_loading.proofs.Seeing.{sees_report}
use Rattle.data_loading.proofs.seen.see.Goals as goal

pub returns-in-Error : goal.returns-in-Error
returns-in-Error c = λ b shows. let (same, is) = rw c.in-Error.is at shows in sees_report b is
