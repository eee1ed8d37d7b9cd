use Rattle.std.proofs.Common.{ap, subst, sym, ◌∙◌}
use Rattle.data_memory.specs.Data.{IsData}
use Rattle.diff_work.specs.PrivateChanges.{behind}
use Rattle.diff_work.proofs.Passing.{is_above, is_below, is_replaced, is_same, later_ordered}
use Rattle.diff_work.proofs.Passing.{no_other, none_changed, none_ordered, other_taken}
use Rattle.diff_work.proofs.Passing.{passing_begins, passing_on, rest_ordered}
use Rattle.diff_work.proofs.beside.Beside.next_changed.Goals as goal

pub returns-in_default-clause-takes : goal.returns-in_default-clause-takes
returns-in_default-clause-takes g c =
    (none_changed _ _ _ c.in_default.ensures.0, none_changed _ _ _ c.in_default.ensures.1)

pub members-init : goal.members-init
members-init g c = passing_begins _ _ _ _ _ c.in-Some.ensures c.requires.members c.requires.others

pub returns-in_default-other-clause-members : goal.returns-in_default-other-clause-members
returns-in_default-other-clause-members g c = rest_ordered _ _ c.members.invariant.members

pub returns-in_default-other-clause-others : goal.returns-in_default-other-clause-others
returns-in_default-other-clause-others g c = c.members.invariant.others

pub returns-in_default-other-clause-takes : goal.returns-in_default-other-clause-takes
returns-in_default-other-clause-takes g c =
    no_other _ _ _ _ _ c.members.invariant
    (ap (λ o. behind g.P.Part.meant o (g.P.Part.left c.members.self.others)) c.in_default-other.is)

pub returns-in-Less-clause-members : goal.returns-in-Less-clause-members
returns-in-Less-clause-members g c = rest_ordered _ _ c.members.invariant.members

pub returns-in-Less-clause-others : goal.returns-in-Less-clause-others
returns-in-Less-clause-others g c = c.members.invariant.others

pub returns-in-Less-clause-takes : goal.returns-in-Less-clause-takes
returns-in-Less-clause-takes g c =
    is_below _ _ _ _ _ _ _ c.members.invariant
    (ap (λ o. behind g.P.Part.meant o (g.P.Part.left c.members.self.others)) c.in-Some-other.is)
    (sym c.in-Less.ensures)

pub members-preserved-in-Greater : goal.members-preserved-in-Greater
members-preserved-in-Greater g c =
    is_above _ _ _ _ _ _ _ c.members.invariant
    (other_taken g.P.Part.meant _ _ _ _ _ c.in-Some-other.is c.next_lent-self.ensures)
    (sym c.in-Greater.ensures)

pub returns-then-is_replaced-clause-members : goal.returns-then-is_replaced-clause-members
returns-then-is_replaced-clause-members g c = rest_ordered _ _ c.members.invariant.members

pub returns-then-is_replaced-clause-others : goal.returns-then-is_replaced-clause-others
returns-then-is_replaced-clause-others g c =
    later_ordered _ _ _
    (other_taken g.P.Part.meant _ _ _ _ _ c.in-Some-other.is c.next_lent-self-in-Equal.ensures)
    c.members.invariant.others

pub returns-then-is_replaced-clause-takes : goal.returns-then-is_replaced-clause-takes
returns-then-is_replaced-clause-takes g c =
    is_replaced _ _ _ _ _ _ _ c.members.invariant
    (other_taken g.P.Part.meant _ _ _ _ _ c.in-Some-other.is c.next_lent-self-in-Equal.ensures)
    (sym c.in-Equal.ensures) (sym c.is_replaced.ensures ∙ c.if-is_replaced.true)

pub returns-in_default-next_lent-clause-members : goal.returns-in_default-next_lent-clause-members
returns-in_default-next_lent-clause-members g c =
    subst (λ l. IsData l) (sym c.in_default-next_lent.ensures.1) none_ordered

pub returns-in_default-next_lent-clause-others : goal.returns-in_default-next_lent-clause-others
returns-in_default-next_lent-clause-others g c =
    later_ordered _ _ _
    (other_taken g.P.Part.meant _ _ _ _ _ c.in-Some-other.is c.next_lent-self-in-Equal.ensures)
    c.members.invariant.others

pub returns-in_default-next_lent-clause-takes : goal.returns-in_default-next_lent-clause-takes
returns-in_default-next_lent-clause-takes g c = (
  is_same _ _ _ _ _ _ _ c.members.invariant
      (other_taken g.P.Part.meant _ _ _ _ _ c.in-Some-other.is c.next_lent-self-in-Equal.ensures)
      (sym c.in-Equal.ensures) (sym c.is_replaced.ensures ∙ c.if-is_replaced.false)
      ∙ none_changed _ _ _ c.in_default-next_lent.ensures.0,
  none_changed _ _ _ c.in_default-next_lent.ensures.1,
)

pub members-preserved : goal.members-preserved
members-preserved g c =
    let other = other_taken g.P.Part.meant _ _ _ _ _ c.in-Some-other.is
    c.next_lent-self-in-Equal.ensures in
    let i = c.members.invariant in
    passing_on _ _ _ _ _ _
    (is_same _ _ _ _ _ _ _ i other (sym c.in-Equal.ensures)
    (sym c.is_replaced.ensures ∙ c.if-is_replaced.false))
    c.in-Some-next_lent.ensures (rest_ordered _ _ i.members) (later_ordered _ _ _ other i.others)
