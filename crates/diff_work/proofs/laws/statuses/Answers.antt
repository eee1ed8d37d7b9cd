use Rattle.diff_work.proofs.Statuses.{else_3, different, same}
use Rattle.diff_work.proofs.laws.statuses.Goals as goal

pub returns-clause-same : goal.returns-clause-same
returns-clause-same c = same

pub returns-clause-different : goal.returns-clause-different
returns-clause-different c = different

pub returns-clause-trouble : goal.returns-clause-trouble
returns-clause-trouble c = else_3
