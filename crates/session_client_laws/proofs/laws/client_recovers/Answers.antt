use Rattle.session_client_laws.proofs.Served.{beside}
use Rattle.session_client_laws.proofs.laws.client_recovers.Goals as goal

pub returns-clause-after : goal.returns-clause-after
returns-clause-after g = λ c history h most spoken start k k' x now was floor run.
    g.recovers.ensures.after c history k.router h most spoken start k'.router x now was floor
    (beside most k _ start k' x now run)

pub returns-clause-offline : goal.returns-clause-offline
returns-clause-offline g = λ most start k k' none x now offline phase floor run.
    g.recovers.ensures.offline most k.router none start k'.router x now offline phase floor
    (beside most k none start k' x now run)

pub returns-clause-expired : goal.returns-clause-expired
returns-clause-expired g = λ c history h most spoken start k k' x now was has run.
    g.recovers.ensures.expired c history k.router h most spoken start k'.router x now was has
    (beside most k _ start k' x now run)
