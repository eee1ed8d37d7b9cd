use Rattle.data_loading.proofs.UnitsTaken.{report_refused, report_taken}
use Rattle.data_loading.proofs.taking.report.Goals as goal

pub refuse-requires-clause-right : goal.refuse-requires-clause-right
refuse-requires-clause-right c =
    report_refused c.args.held.now c.in-Some.field-0 c.in-Some.is c.args.at c.args.size
    c.args.input.now c.requires.within c.requires.unit

pub returns-in-None-clause-takes : goal.returns-in-None-clause-takes
returns-in-None-clause-takes c = λ room.
    report_taken c.args.held.now c.args.at c.args.size c.args.input.now c.args.index.now
    c.args.output.now c.requires.stands c.requires.within c.in-None.is c.requires.unit
