use Rattle.std.proofs.Common.{sym, ◌∙◌}
use Rattle.make_work.proofs.Takings.{takes_removed, took_kept}
use Rattle.make_work.proofs.gathering.Gathering.take.Goals as goal

pub returns-then-removes : goal.returns-then-removes
returns-then-removes c =
    takes_removed c.args.item c.args.self.now (sym c.removes.ensures ∙ c.if-removes.true)

pub returns : goal.returns
returns c =
    took_kept c.keep.result c.args.item c.args.self.now _
    (sym c.removes.ensures ∙ c.if-removes.false) c.keep.ensures
