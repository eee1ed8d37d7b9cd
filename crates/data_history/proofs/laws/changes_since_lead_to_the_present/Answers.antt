use Rattle.std.proofs.Common.{Ok, refl, subst}
use Rattle.rtr_wire.specs.Sequences.{end_for}
use Rattle.data_memory.specs.Deltas.{changes_for, data_for}
use Rattle.data_history.specs.Parts.{part_bytes, part_rest}
use Rattle.data_history.specs.Since.{WritesChangesSince}
use Rattle.data_history.proofs.Telling.{alike, as_sent, leads_on}
use Rattle.data_history.proofs.laws.changes_since_lead_to_the_present.Goals as goal

pub returns-clause-leads : goal.returns-clause-leads
returns-clause-leads c =
    λ history old changed unwritten before after v n m serial places x y ys le h is told j w.
    let told' = subst (λ o. WritesChangesSince v (Ok n) o x unwritten changed) is told in
    c.changes_as_they_came.ensures.makes_data m places old changed before after
    (data_for v y.payloads) (data_for v x.payloads) (changes_for v y.payloads x.payloads)
    (end_for v y.end) (end_for v x.end) j
    (as_sent v old (part_bytes history) changed unwritten n x y le j h.holds told') refl
    (leads_on v old (part_bytes history) x y le j h.holds) w

pub returns-clause-refuses_none : goal.returns-clause-refuses_none
returns-clause-refuses_none c =
    λ r history old changed unwritten before after v n serial places x y ys le h is told j enough w.
    let a = alike serial (part_rest history) x y ys h.back is in
    let told' = subst (λ o. WritesChangesSince v (Ok n) o x unwritten changed) is told in
    c.changes_as_they_came.ensures.refuses_none r places old changed before after
    (data_for v y.payloads) (data_for v x.payloads) (changes_for v y.payloads x.payloads)
    (end_for v y.end) (end_for v x.end) j
    (as_sent v old (part_bytes history) changed unwritten n x y le j h.holds told') refl
    a.session enough (leads_on v old (part_bytes history) x y le j h.holds) w
