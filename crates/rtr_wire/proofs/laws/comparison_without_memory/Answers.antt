use Rattle.rtr_wire.proofs.Comparing.{none_at_limit_0, none_before_header, none_at_header}
use Rattle.rtr_wire.proofs.laws.comparison_without_memory.Goals as goal

pub returns-clause-limit : goal.returns-clause-limit
returns-clause-limit c = none_at_limit_0

pub returns-clause-short_header : goal.returns-clause-short_header
returns-clause-short_header c = none_before_header

pub returns-clause-header : goal.returns-clause-header
returns-clause-header c = none_at_header
