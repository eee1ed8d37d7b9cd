use Rattle.std.proofs.Common.{[]}
use Rattle.data_memory.proofs.Accepted.{all_sequence, delta_sequence}
use Rattle.data_memory.proofs.Outcomes.{forms_lead}
use Rattle.data_memory.proofs.Versions.{all_lead, delta_leads}
use Rattle.data_memory.specs.Deltas.{all_for, changes_for, data_for}
use Rattle.data_memory.proofs.laws.deltas_are_applied.Goals as goal

pub returns-clause-delta : goal.returns-clause-delta
returns-clause-delta c = λ v limit e rest result r s after byte fits few is p blames.
    let old = c.args.old.now in
    let new = c.args.new.now in
    forms_lead v limit (changes_for v old new) e rest result r s (data_for v old) after
    (data_for v new)
    (delta_sequence v byte old new e c.members_are_sendable.ensures
    c.members_are_sendable-2.ensures fits)
    (delta_leads v old new c.parts-old.ensures.ordered c.parts-new.ensures.ordered) few is p blames

pub returns-clause-all : goal.returns-clause-all
returns-clause-all c = λ v limit e rest result r s after byte fits few is p blames.
    let new = c.args.new.now in
    forms_lead v limit (all_for v new) e rest result r s [] after (data_for v new)
    (all_sequence v byte new e c.members_are_sendable-2.ensures fits)
    (all_lead v new c.parts-new.ensures.ordered) few is p blames
