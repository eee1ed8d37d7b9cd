use Rattle.session_cache.proofs.laws.current_again.Goals as goal
use Rattle.session_cache.proofs.Calm.{shown, soon}
use Rattle.session_cache.proofs.News.{news, notified}

pub returns-clause-soon : goal.returns-clause-soon
returns-clause-soon g = λ c S before w start n is one old rest run.
    soon g.row.D.Denot g.row.C.Denot S before is one start old rest w n run

pub returns-clause-present : goal.returns-clause-present
returns-clause-present g = λ c S before w start n later d after is one old rest run made step.
    shown g.row.D.Denot g.row.C.Denot S before is one start old rest w n later d after run made step

pub returns-clause-notified : goal.returns-clause-notified
returns-clause-notified g = λ c r p u n a after is fresh soon step.
    notified r p u n a after is fresh soon step

pub returns-clause-news : goal.returns-clause-news
returns-clause-news g = λ k S before w start d heard n c r is one old rest told run.
    news g.row.D.Denot g.row.C.Denot S before is one start d heard c r old rest told w n run
