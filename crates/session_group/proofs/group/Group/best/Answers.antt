use Rattle.std.proofs.Common.{rules, sym, ◌∙◌}
use Rattle.session_group.specs.Groups.{has_data}
use Rattle.session_group.proofs.Last.{here, none_at_0, not_here}
use Rattle.session_group.proofs.group.Group.best.Goals as goal
use Rattle.session_group.proofs.group.Group.best.Goals.{then-has_data, else-has_data}

pub loop-member-init : goal.loop-member-init
loop-member-init c = sym (none_at_0 (has_data c.args.self.now))

pub loop-member-preserved : goal.loop-member-preserved
loop-member-preserved c = elim c.if-has_data.branch [
  | then-has_data w ↦ w.best-is
      ∙ sym (here (has_data c.args.self.now) c.loop-member.member (search rules))
  | else-has_data w ↦ w.best-is ∙ c.loop-member.invariant
      ∙ sym (not_here (has_data c.args.self.now) c.loop-member.member (search rules))
]
