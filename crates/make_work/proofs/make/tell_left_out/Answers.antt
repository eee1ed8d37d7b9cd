use Rattle.std.proofs.Common.{ℕ, Bool, OnOk, subst}
use Rattle.std.specs.Io.KnownBytes.{Appends}
use Rattle.make_work.specs.MakeStatus.{expired_said, lacking_line}
use Rattle.make_work.proofs.Lines.{both_told}
use Rattle.make_work.proofs.make.tell_left_out.Goals as goal

pub returns-in-Ok : goal.returns-in-Ok
returns-in-Ok g c =
    both_told c.tell_expired.result (g.F.Write.contents c.args.faults.now)
    (g.F.Write.contents c.tell_lacking.new.faults) (g.F.Write.contents c.tell_expired.new.faults)
    _ _
    (subst (λ (v : ℕ). Appends (g.F.Write.contents c.args.faults.now)
    (g.F.Write.contents c.tell_lacking.new.faults) (lacking_line v c.args.left_out))
    c.number.ensures c.in-Ok.ensures)
    (subst (λ (b : Bool). OnOk c.tell_expired.result
    (Appends (g.F.Write.contents c.tell_lacking.new.faults)
    (g.F.Write.contents c.tell_expired.new.faults) (expired_said b c.args.expired)))
    c.is_some.ensures c.tell_expired.ensures)
