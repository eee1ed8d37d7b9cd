use Rattle.std.proofs.Common.{Some, None, length, ◌≤◌}
use Rattle.data_memory.specs.declared.change_error.ChangeError.TheVariants as refusals
use Rattle.data_slices.specs.Apply.{RefusedAt}
use Rattle.data_slices.specs.PrivateInOrder.{MadeOf}
use Rattle.data_slices.proofs.AsTheyCame.{of_one, refused_whole, refuses_it}
use Rattle.data_slices.proofs.AsTheyCame.{refuses_none, writes_data}
use Rattle.data_slices.proofs.RoomInOrder.{room_in_order}
use Rattle.data_slices.proofs.in_order_laws.changes_as_they_came.Goals as goal

pub returns-clause-writes : goal.returns-clause-writes
returns-clause-writes c = λ n places old input before after d cs end end' h s a.
    (of_one old input d cs end end' h s
    (λ d cs e. (length cs ≤ places) × MadeOf (Some n) d cs e before after) a).1

pub returns-clause-no_room : goal.returns-clause-no_room
returns-clause-no_room c = λ places old input before after d cs end end' h s a.
    (of_one old input d cs end end' h s
    (λ d cs e. (length cs ≤ places) × MadeOf None d cs e before after) a).1

pub returns-clause-duplicate : goal.returns-clause-duplicate
returns-clause-duplicate c = λ o places old input before after d cs end end' h s a.
    refused_whole o refusals.Duplicate input d cs end'.version
    (of_one old input d cs end end' h s
    (λ d cs e. (length cs ≤ places)
    × RefusedAt o refusals.Duplicate input d cs e.version) a.0).1

pub returns-clause-unknown : goal.returns-clause-unknown
returns-clause-unknown c = λ o places old input before after d cs end end' h s a.
    refused_whole o refusals.Unknown input d cs end'.version
    (of_one old input d cs end end' h s
    (λ d cs e. (length cs ≤ places)
    × RefusedAt o refusals.Unknown input d cs e.version) a.0).1

pub returns-clause-makes_data : goal.returns-clause-makes_data
returns-clause-makes_data c = λ n places old input before after d d' cs end end' h s v m a.
    writes_data n old input before after d d' cs end end' h s v m
    (of_one old input d cs end end' h s
    (λ d cs e. (length cs ≤ places) × MadeOf (Some n) d cs e before after) a).1

pub returns-clause-refuses_none : goal.returns-clause-refuses_none
returns-clause-refuses_none c = λ r places old input before after d d' cs end end' h s v t n m a.
    refuses_none places old input before after d d' cs end end' h s v t n m r a

pub returns-clause-fits : goal.returns-clause-fits
returns-clause-fits c = room_in_order

pub returns-clause-refuses : goal.returns-clause-refuses
returns-clause-refuses c = λ r places old input before after d cs end end' why h s v t n m a.
    refuses_it places old input before after d cs end end' why h s v t n m r a
