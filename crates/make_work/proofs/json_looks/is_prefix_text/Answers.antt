use Rattle.std.proofs.Common.{sym, subst, Decides}
use Rattle.make_work.specs.JsonValues.{IsLikePrefixText}
use Rattle.make_work.proofs.Looks.{prefix_told}
use Rattle.make_work.proofs.json_looks.is_prefix_text.Goals as goal

pub returns : goal.returns
returns c =
    subst (λ b. Decides b (IsLikePrefixText c.args.text.now)) (sym c.is_ok.ensures.value)
    (prefix_told c.parse.result c.args.text.now c.parse.ensures.value)
