use Rattle.validate_work.proofs.Splits.{splits_last}
use Rattle.validate_work.proofs.table.split_last.Goals as goal

pub returns : goal.returns
returns c =
    splits_last c.args.at c.args.text.now c.rsplit_once.result c.rsplit_once.ensures.cases
    c.requires
