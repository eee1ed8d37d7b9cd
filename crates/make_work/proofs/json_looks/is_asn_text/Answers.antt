use Rattle.std.proofs.Common.{sym, subst, Decides}
use Rattle.make_work.specs.JsonValues.{IsLikeAsnText}
use Rattle.make_work.proofs.Looks.{asn_told}
use Rattle.make_work.proofs.json_looks.is_asn_text.Goals as goal

pub returns : goal.returns
returns c =
    subst (λ b. Decides b (IsLikeAsnText c.args.text.now)) (sym c.is_ok.ensures.value)
    (asn_told c.parse.result c.args.text.now c.parse.ensures.value)
