use Rattle.session_router.proofs.laws.data_are_shown.Goals as goal
use Rattle.session_router.proofs.Examples.{begins_new, by_numbers, is_beside, is_run, is_served}
use Rattle.session_router.proofs.Examples.{is_timed, shows}

pub returns-clause-new : goal.returns-clause-new
returns-clause-new c = begins_new

pub returns-clause-run : goal.returns-clause-run
returns-clause-run c = is_run

pub returns-clause-timed : goal.returns-clause-timed
returns-clause-timed c = is_timed

pub returns-clause-served : goal.returns-clause-served
returns-clause-served c = is_served

pub returns-clause-shows : goal.returns-clause-shows
returns-clause-shows c = shows

pub returns-clause-beside : goal.returns-clause-beside
returns-clause-beside c = is_beside

pub returns-clause-until : goal.returns-clause-until
returns-clause-until c = by_numbers
