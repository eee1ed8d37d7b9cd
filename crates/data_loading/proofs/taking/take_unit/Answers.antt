use Rattle.data_loading.proofs.UnitsTaken.{asks_all_taken, asks_changes_taken, notify_taken}
use Rattle.data_loading.proofs.taking.take_unit.Goals as goal

pub returns-in-AsksAll-clause-takes : goal.returns-in-AsksAll-clause-takes
returns-in-AsksAll-clause-takes c =
    asks_all_taken c.args.held.now c.args.at c.args.size c.args.input.now c.args.index.now
    c.args.output.now c.requires.stands c.requires.within (rw c.in-AsksAll.is at c.requires.unit)

pub returns-in-AsksChanges-clause-takes : goal.returns-in-AsksChanges-clause-takes
returns-in-AsksChanges-clause-takes c =
    asks_changes_taken c.args.held.now c.args.at c.args.size c.args.input.now c.args.index.now
    c.args.output.now c.requires.stands c.requires.within
    (rw c.in-AsksChanges.is at c.requires.unit)

pub returns-in-Notifies-clause-takes : goal.returns-in-Notifies-clause-takes
returns-in-Notifies-clause-takes c =
    notify_taken c.args.held.now c.args.at c.args.size c.args.input.now c.args.index.now
    c.args.output.now c.requires.stands c.requires.within (rw c.in-Notifies.is at c.requires.unit)
