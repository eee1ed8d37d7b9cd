use Rattle.validate_work.proofs.Splits.{splits_first}
use Rattle.validate_work.proofs.table.split_first.Goals as goal

pub returns : goal.returns
returns c =
    splits_first c.args.at c.args.text.now c.split_once.result c.split_once.ensures.cases
    c.requires
