use Rattle.std.proofs.Common.{sym, ◌∙◌, true, false}
use Rattle.make_work.proofs.Marks.{from_third, rest}
use Rattle.validate_work.proofs.file.without_mark.Goals as goal

pub returns-then-has_mark : goal.returns-then-has_mark
returns-then-has_mark c =
    from_third c.args.text.now
    ∙ rest c.args.text.now true (sym c.if-has_mark.true ∙ c.has_mark.ensures)

pub returns-else-has_mark : goal.returns-else-has_mark
returns-else-has_mark c =
    rest c.args.text.now false (sym c.if-has_mark.false ∙ c.has_mark.ensures)
