use Rattle.session_client_laws.proofs.Again.{served_again, settled, shows_these}
use Rattle.session_client_laws.proofs.Served.{beside}
use Rattle.session_client_laws.proofs.laws.client_current_again.Goals as goal

pub returns-clause-soon : goal.returns-clause-soon
returns-clause-soon g = λ most start before p none x now offline phase floor run.
    g.recovers.ensures.offline most before.client.router none start p.client.router x now offline
    phase floor
    (beside most before.client none start p.client x now
    (served_again most before none start p x now run))

pub returns-clause-settled : goal.returns-clause-settled
returns-clause-settled g = λ most start before p none x now run.
    settled most before none start p x now run

pub returns-clause-present : goal.returns-clause-present
returns-clause-present g = λ before p k input held c one has was silent so.
    shows_these g.bytes_agree.ensures before p k input held c one has was silent so
