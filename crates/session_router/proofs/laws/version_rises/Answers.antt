use Rattle.session_router.proofs.laws.version_rises.Goals as goal
use Rattle.session_router.proofs.Exchanges.{highest_then}
use Rattle.session_router.proofs.Rising.{rises_sooner, rises_soon, rises_then}

pub returns-clause-highest : goal.returns-clause-highest
returns-clause-highest c k ms before h most start r x now then after was off fell run w =
    highest_then k ms before h most start r x now then after was off fell run w

pub returns-clause-again : goal.returns-clause-again
returns-clause-again c k ms r h n a after run w fresh q silent rises due pause =
    rises_then k ms r h n a after run w fresh q silent rises due pause

pub returns-clause-soon : goal.returns-clause-soon
returns-clause-soon c k ms r h run timed = rises_soon k ms r h run timed

pub returns-clause-sooner : goal.returns-clause-sooner
returns-clause-sooner c k ms r h n after run w first = rises_sooner k ms r h n after run w first
