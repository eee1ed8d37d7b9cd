use Rattle.std.proofs.Common.{lit≤, refl}
use Rattle.session_router.specs.Exchange.{none_yet}
use Rattle.session_cache.proofs.ExampleWorlds.{settings}
use Rattle.session_client_laws.proofs.Called.{called_of}
use Rattle.session_bytes.proofs.Examples.{data_bytes}
use Rattle.session_laws.proofs.Examples.{is_one}
use Rattle.session_client_laws.proofs.Example.{begins, client₀, client₆, client₇, exchange₅}
use Rattle.session_client_laws.proofs.Example.{is_again, is_served, new₀, pair₀, pair₆}
use Rattle.session_client_laws.proofs.Example.{pair₇, run, shows_answer}
use Rattle.session_client_laws.proofs.laws.data_are_shown.Goals as goal

pub returns-clause-run : goal.returns-clause-run
returns-clause-run c = (pair₇, run, is_one, refl, refl)

pub returns-clause-served : goal.returns-clause-served
returns-clause-served c = (client₀, client₆, exchange₅, refl, lit≤ tt, is_served)

pub returns-clause-called : goal.returns-clause-called
returns-clause-called c =
    (settings, client₆, called_of settings 2 client₀ none_yet client₆ exchange₅ 32 new₀ is_served)

pub returns-clause-again : goal.returns-clause-again
returns-clause-again c = (
  pair₀,
  pair₆,
  exchange₅,
  client₇,
  data_bytes,
  data_bytes,
  is_one,
  refl,
  begins,
  refl,
  is_again,
  shows_answer,
)
