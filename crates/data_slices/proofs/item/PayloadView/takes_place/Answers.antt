use Rattle.data_slices.proofs.Items.{aspa_takes, key_stays, origin_stays}
use Rattle.data_slices.proofs.item.PayloadView.takes_place.Goals as goal

pub returns-in-Origin : goal.returns-in-Origin
returns-in-Origin c = rw c.in-Origin.is (origin_stays _)

pub returns-in-RouterKey : goal.returns-in-RouterKey
returns-in-RouterKey c = rw c.in-RouterKey.is (key_stays _)

pub returns-in-Aspa : goal.returns-in-Aspa
returns-in-Aspa c = rw c.in-Aspa.is (aspa_takes _)
