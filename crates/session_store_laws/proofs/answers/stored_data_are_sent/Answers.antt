use Rattle.std.proofs.Common.{inl, refl}
use Rattle.data_history.proofs.Examples.{a_history, a_told, named, two}
use Rattle.session_cache.proofs.Examples.{cache₀}
use Rattle.session_server.specs.Limits.{usual_server_settings}
use Rattle.session_bytes.proofs.Examples.{data_bytes}
use Rattle.session_server_laws.proofs.Example.{all_turn, had, run, service₆}
use Rattle.session_store_laws.proofs.Example.{all_progress, all_written, are_served_there}
use Rattle.session_store_laws.proofs.Example.{holds_later, is_edition_there, later, served}
use Rattle.session_store_laws.proofs.Example.{both, both_had, bytes_of, informed_cache, is_asked}
use Rattle.session_store_laws.proofs.Example.{of_serial, query, turn, with_serial}
use Rattle.session_store_laws.proofs.answers.stored_data_are_sent.Goals as goal

pub returns-clause-asked : goal.returns-clause-asked
returns-clause-asked g = (
  cache₀,
  informed_cache,
  query,
  named 7 2,
  named 7 1,
  with_serial 2,
  of_serial 2,
  is_asked,
)

pub returns-clause-written : goal.returns-clause-written
returns-clause-written g = (
  both,
  turn,
  two,
  bytes_of 1,
  bytes_of 2,
  named 7 2,
  named 7 1,
  a_history,
  both_had,
  inl refl,
  of_serial 2,
  refl,
  refl,
  a_told,
  refl,
)

pub returns-clause-all : goal.returns-clause-all
returns-clause-all g = (
  had,
  all_turn,
  data_bytes,
  data_bytes,
  data_bytes,
  all_progress,
  later,
  holds_later,
  inl refl,
  is_edition_there,
  refl,
  refl,
  all_written,
  refl,
)

pub returns-clause-sent : goal.returns-clause-sent
returns-clause-sent g =
    (usual_server_settings, served, had, service₆, are_served_there, run, refl)
