use Rattle.data_loading.proofs.Seeing.{sees_aspa, sees_end, sees_key, sees_origin}
use Rattle.data_loading.proofs.seen.see_data.Goals as goal

pub returns-in-Origin : goal.returns-in-Origin
returns-in-Origin c = λ b is. sees_origin _ b _ (rw c.in-Origin.is at is) c.version.ensures

pub returns-in-RouterKey : goal.returns-in-RouterKey
returns-in-RouterKey c =
    λ b is. sees_key c.in-RouterKey.view b _ (rw c.in-RouterKey.is at is)
    c.version-in-RouterKey.ensures

pub returns-in-Aspa : goal.returns-in-Aspa
returns-in-Aspa c = λ b is. sees_aspa c.in-Aspa.view b _ (rw c.in-Aspa.is at is)
    c.version-in-Aspa.ensures

pub returns-in-End : goal.returns-in-End
returns-in-End c = λ b is. sees_end c.in-End.end b (rw c.in-End.is at is)
