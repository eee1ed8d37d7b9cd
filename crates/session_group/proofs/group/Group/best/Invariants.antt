use Rattle.std.proofs.Common.{◌≡◌}
use Rattle.session_group.specs.Groups.{has_data, last}
use Rattle.session_group.proofs.group.Group.best.Given as goal

abbrev pub invariant-loop-member : goal.invariant-loop-member
invariant-loop-member l = l.best ≡ last (has_data l.self) l.member
