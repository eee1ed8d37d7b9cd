use Rattle.session_cache.proofs.Bases.{base_had}
use Rattle.session_cache.proofs.Peace.{queries_answered}
use Rattle.session_cache.proofs.laws.queries_are_answered.Goals as goal

pub returns-clause-answer : goal.returns-clause-answer
returns-clause-answer g = λ c S w u rest kept n a after source one run is asked most answering step.
    queries_answered g.row.D.Denot g.row.C.Denot S w source one u rest kept n a after run is asked
    most answering step

pub returns-clause-base : goal.returns-clause-base
returns-clause-base g = λ c S w u rest kept n since after source one run is rule.
    base_had g.row.D.Denot g.row.C.Denot S w source one u rest kept n since after run is rule
