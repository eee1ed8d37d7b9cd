use Rattle.std.proofs.lemmas.Str.Pattern.{strip_prefix_char}
use Rattle.validate_work.proofs.Splits.{begins_after}
use Rattle.validate_work.proofs.table.after_char.Goals as goal

pub returns : goal.returns
returns c =
    begins_after c.args.byte c.args.text.now c.strip_prefix.result
    (strip_prefix_char c.args.byte c.args.text.now c.strip_prefix.result
    c.strip_prefix.ensures.cases c.requires)
