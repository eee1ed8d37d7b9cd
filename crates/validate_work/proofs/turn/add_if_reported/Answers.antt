use Rattle.std.proofs.Common.{sym, ◌∙◌}
use Rattle.validate_work.proofs.Answering.{if_added}
use Rattle.validate_work.proofs.Turning.{is_turned, none_told}
use Rattle.validate_work.proofs.turn.add_if_reported.Goals as goal

pub returns-then-not-is_reported : goal.returns-then-not-is_reported
returns-then-not-is_reported c =
    none_told c.args.other.now c.args.route.now.prefix c.args.route.now.origin c.args.state
    c.args.next c.args.line.now c.args.form (sym c.is_reported.ensures ∙ c.if-not-is_reported.true)
