use Rattle.session_router.proofs.laws.data_come.Goals as goal
use Rattle.session_router.proofs.Progress.{shown_soon}

pub returns : goal.returns
returns c k ms before h most spoken start r x now was timed late f connect response small soon run =
    shown_soon k ms before h most spoken start r x now was timed late f connect response small soon
    run
