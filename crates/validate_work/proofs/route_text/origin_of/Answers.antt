use Rattle.validate_work.proofs.AsSets.{not_origin}
use Rattle.validate_work.proofs.route_text.origin_of.Goals as goal

pub returns-in-Err-2 : goal.returns-in-Err-2
returns-in-Err-2 c =
    not_origin c.args.word.now c.is_as_set.result c.in-Err.ensures.value c.is_as_set.ensures
    c.if-is_as_set.false
