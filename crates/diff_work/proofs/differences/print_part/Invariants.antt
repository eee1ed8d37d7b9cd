use Rattle.std.proofs.Common.{◌≡◌, length}
use Rattle.data_memory.specs.Data.{IsData}
use Rattle.diff_work.specs.PrivateChanges.{behind, changed_in}
use Rattle.diff_work.proofs.Going.{Going}
use Rattle.diff_work.proofs.differences.print_part.Given as goal

abbrev pub invariant-changes : goal.invariant-changes
invariant-changes g l = record {
  going : Going l.fn.printer.form l.fn.printer.version l.action (g.W.Sink.state l.fn.output)
      (g.W.Sink.state l.output) l.any
      (changed_in l.action (g.P.Part.left l.fn.others) (g.P.Part.left l.fn.members))
      (changed_in l.action
      (behind g.P.Part.meant l.beside.other (g.P.Part.left l.beside.others))
      (g.P.Part.left l.beside.members));
  members : IsData (g.P.Part.left l.beside.members);
  others : IsData (behind g.P.Part.meant l.beside.other (g.P.Part.left l.beside.others));
  form : l.printer.form ≡ l.fn.printer.form;
  version : l.printer.version ≡ l.fn.printer.version;
}

abbrev pub decreases-changes : goal.decreases-changes
decreases-changes g l =
    length (changed_in l.action
    (behind g.P.Part.meant l.beside.other (g.P.Part.left l.beside.others))
    (g.P.Part.left l.beside.members))
