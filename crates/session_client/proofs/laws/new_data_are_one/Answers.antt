use Rattle.session_client.proofs.Makings.{shows_once, shows_within}
use Rattle.session_client.proofs.laws.new_data_are_one.Goals as goal

pub returns-clause-one : goal.returns-clause-one
returns-clause-one c = shows_once

pub returns-clause-within : goal.returns-clause-within
returns-clause-within c = shows_within
