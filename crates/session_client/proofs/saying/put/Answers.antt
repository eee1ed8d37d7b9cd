use Rattle.session_client.proofs.saying.put.Goals as goal

pub returns-in-Ask-clause-room : goal.returns-in-Ask-clause-room
returns-in-Ask-clause-room c = c.put_query.ensures.1

pub returns-in-End-clause-room : goal.returns-in-End-clause-room
returns-in-End-clause-room c = c.put_report.ensures.1
