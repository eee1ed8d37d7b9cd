use Rattle.std.proofs.Common.{[], None, Some, inl, refl}
use Rattle.data_history.specs.Parts.{part_rest}
use Rattle.data_history.specs.Stores.{fresh_stores}
use Rattle.data_history.proofs.Examples.{a_told, named, two}
use Rattle.session_store_laws.proofs.Example.{both, both_had, bytes_of, of_serial, turn}
use Rattle.session_store_laws.proofs.ExampleHistory.{both_served, both_unsaved, first_served}
use Rattle.session_store_laws.proofs.ExampleHistory.{first_unsaved, keeps_second, no_life, one}
use Rattle.session_store_laws.proofs.ExampleHistory.{second_store, serves_both, size, store}
use Rattle.session_store_laws.proofs.ExampleHistory.{takes_first, takes_first_unsaved}
use Rattle.session_store_laws.proofs.histories.served_histories_are_written.Goals as goal

pub returns-clause-serves : goal.returns-clause-serves
returns-clause-serves g = (
  both_served,
  part_rest (store two),
  named 7 2,
  named 7 1,
  serves_both,
  second_store.history,
  refl,
)

pub returns-clause-unsaved : goal.returns-clause-unsaved
returns-clause-unsaved g = (
  both_served,
  7,
  store two,
  named 7 2,
  named 7 1,
  both_unsaved,
  second_store.history,
)

pub returns-clause-keeps : goal.returns-clause-keeps
returns-clause-keeps g = (
  first_served,
  part_rest (store two),
  named 7 2,
  named 7 1,
  keeps_second,
  second_store.history,
  refl,
)

pub returns-clause-takes : goal.returns-clause-takes
returns-clause-takes g = (
  0,
  0,
  size,
  fresh_stores None None,
  [],
  store one,
  named 7 1,
  refl,
  refl,
  takes_first,
  no_life,
)

pub returns-clause-takes_unsaved : goal.returns-clause-takes_unsaved
returns-clause-takes_unsaved g = (
  0,
  0,
  size,
  7,
  fresh_stores None (Some 7),
  [],
  store one,
  named 7 1,
  refl,
  takes_first_unsaved,
  first_unsaved,
)

pub returns-clause-writes : goal.returns-clause-writes
returns-clause-writes g = (
  both_served,
  both,
  turn,
  part_rest (store two),
  bytes_of 1,
  bytes_of 2,
  named 7 2,
  named 7 1,
  serves_both,
  second_store.history,
  both_had,
  inl refl,
  of_serial 2,
  refl,
  refl,
  a_told,
  refl,
)
