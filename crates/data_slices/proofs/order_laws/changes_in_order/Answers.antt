use Rattle.std.proofs.Common.{◌≡◌}
use Rattle.rtr_base.specs.declared.action.Action.TheVariants.{Announce, Withdraw}
use Rattle.data_memory.specs.Data.{Change}
use Rattle.data_slices.proofs.OrderRoom.{room_to_order}
use Rattle.data_slices.proofs.Ordering.{leads_alike, never_refused}
use Rattle.data_slices.proofs.order_laws.changes_in_order.Goals as goal

pub returns-clause-leads : goal.returns-clause-leads
returns-clause-leads c = leads_alike

pub returns-clause-not_duplicate : goal.returns-clause-not_duplicate
returns-clause-not_duplicate c = λ input places o cs e d made r sends s h.
    never_refused input places o cs e d made (λ (x : Change). x.action ≡ Announce) r sends s h

pub returns-clause-not_unknown : goal.returns-clause-not_unknown
returns-clause-not_unknown c = λ input places o cs e d made r sends s h.
    never_refused input places o cs e d made (λ (x : Change). x.action ≡ Withdraw) r sends s h

pub returns-clause-fits : goal.returns-clause-fits
returns-clause-fits c = room_to_order
