use Rattle.std.proofs.Common.{Some, length, ◌≤◌}
use Rattle.data_slices.specs.PrivateInOrder.{MadeOf}
use Rattle.data_slices.proofs.AsData.{applicable, applies_all}
use Rattle.data_slices.proofs.AsTheyCame.{of_one, refuses_none}
use Rattle.data_slices.proofs.in_order_laws.changes_as_data_applies_them.Goals as goal

pub returns-clause-written : goal.returns-clause-written
returns-clause-written c = λ r limit places old input b before after d d' cs end end' h s v t n m a.
    refuses_none places old input before after d d' cs end end' h s v t n
    (applies_all limit input b end' d d' cs m s) r a

pub returns-clause-applied : goal.returns-clause-applied
returns-clause-applied c = λ n limit places old input before after d cs end end' h s few a.
    let (d', all, placed) = (of_one old input d cs end end' h s
    (λ d cs e. (length cs ≤ places) × MadeOf (Some n) d cs e before after) a).1 in
    let (b, is) = applicable limit input end' d d' cs s few all in
    (d', b, is, placed)
