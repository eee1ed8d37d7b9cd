use Rattle.std.proofs.Common.{[], ◌++◌, refl}
use Rattle.session_router.specs.Exchange.{none_yet}
use Rattle.session_cache.proofs.ExampleWorlds.{reading}
use Rattle.session_bytes.proofs.Examples.{data_bytes, response_bytes}
use Rattle.session_client_laws.proofs.Example.{begins, client₇, exchange₅, is_again, pair₀, pair₆}
use Rattle.session_client_laws.proofs.Example.{came₃, comes_then, pair₇, run, shows_answer}
use Rattle.session_store_laws.proofs.Example.{are_served, are_served_first, has_served, served}
use Rattle.session_store_laws.proofs.Example.{acts_first, are_served_then, asked_in_time}
use Rattle.session_store_laws.proofs.Example.{is_peaceful, is_talking, stay}
use Rattle.session_store_laws.proofs.laws.stored_data_are_shown.Goals as goal

pub returns-clause-run : goal.returns-clause-run
returns-clause-run g =
    (served, [], pair₇, has_served, stay, are_served, run, refl, refl, refl)

pub returns-clause-bytes : goal.returns-clause-bytes
returns-clause-bytes g =
    let t = g.runs_in_bytes.ensures pair₇ run in
    (served, [], t.caller, _, has_served, stay, are_served, t.applies, t.run, refl)

pub returns-clause-peace : goal.returns-clause-peace
returns-clause-peace g =
    let t = g.runs_in_bytes.ensures came₃ comes_then in (
      served,
      [],
      t.caller,
      _,
      response_bytes ++ data_bytes,
      [],
      reading,
      acts_first,
      has_served,
      stay,
      are_served_then,
      t.applies,
      t.run,
      t.comes is_talking,
      tt,
      (λ e. cc),
      asked_in_time,
      is_peaceful,
    )

pub returns-clause-again : goal.returns-clause-again
returns-clause-again g = (
  served,
  [],
  pair₀,
  pair₆,
  client₇,
  data_bytes,
  data_bytes,
  has_served,
  stay,
  are_served_first,
  refl,
  begins,
  refl,
  g.client_current_again.ensures.settled 2 0 pair₀ pair₆ none_yet exchange₅ 32 is_again,
  shows_answer,
)
