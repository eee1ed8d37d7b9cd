use Rattle.session_router.proofs.laws.recovers.Goals as goal
use Rattle.session_router.proofs.Exchanges.{recovers_from_offline, recovers_then}
use Rattle.session_router.proofs.Expiring.{recovers_with_data}
use Rattle.session_router.proofs.Numbers.{with_data, without_data}

pub returns-clause-after : goal.returns-clause-after
returns-clause-after c k history before h most spoken start r x now was f run =
    recovers_then k history before h most spoken start r x now was f run

pub returns-clause-offline : goal.returns-clause-offline
returns-clause-offline c most before none start r x now offline out f run =
    recovers_from_offline most before none start r x now offline out f run

pub returns-clause-expired : goal.returns-clause-expired
returns-clause-expired c k history before h most spoken start r x now was has run =
    recovers_with_data k history before h most spoken start r x now was has run

pub returns-clause-without_data : goal.returns-clause-without_data
returns-clause-without_data c r u fell none = without_data r u fell none

pub returns-clause-with_data : goal.returns-clause-with_data
returns-clause-with_data c r u fell some changes = with_data r u fell some changes
