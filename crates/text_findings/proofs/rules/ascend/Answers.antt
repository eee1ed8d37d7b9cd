use Rattle.std.proofs.Common.{rules}
use Rattle.text_findings.specs.Rules.{ascend}
use Rattle.rtr_payload.specs.Providers.{words_of}
use Rattle.text_findings.proofs.ProviderOrder.{ascend_more}
use Rattle.text_findings.proofs.rules.ascend.Goals as goal

pub each-preserved : goal.each-preserved
each-preserved c =
    ascend_more c.each.last c.each.left.now c.split_at.result.1.now c.u32_at-provider.result
    (ascend (words_of c.args.providers.now)) (search rules) c.u32_at-provider.ensures
    (search rules) (search rules) c.each.invariant
