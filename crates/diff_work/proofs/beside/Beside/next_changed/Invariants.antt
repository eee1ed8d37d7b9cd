use Rattle.std.proofs.Common.{◌+◌, length}
use Rattle.diff_work.specs.PrivateChanges.{behind, changed_in}
use Rattle.diff_work.proofs.Passing.{Passing}
use Rattle.diff_work.proofs.beside.Beside.next_changed.Given as goal

abbrev pub invariant-members : goal.invariant-members
invariant-members g l =
    Passing l.fn.action
    (changed_in l.fn.action
    (behind g.P.Part.meant l.fn.self.other (g.P.Part.left l.fn.self.others))
    (g.P.Part.left l.fn.self.members))
    (g.P.Part.meant l.member) (g.P.Part.left l.self.members)
    (behind g.P.Part.meant l.self.other (g.P.Part.left l.self.others))

abbrev pub decreases-members : goal.decreases-members
decreases-members g l =
    length (g.P.Part.left l.self.members)
    + length (behind g.P.Part.meant l.self.other (g.P.Part.left l.self.others))
