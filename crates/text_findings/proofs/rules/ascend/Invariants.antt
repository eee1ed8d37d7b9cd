use Rattle.std.proofs.Common.{◌≡◌, length}
use Rattle.rtr_payload.specs.Providers.{words_of}
use Rattle.text_findings.specs.Rules.{ascend}
use Rattle.text_findings.proofs.ProviderOrder.{ascend_after}
use Rattle.text_findings.proofs.rules.ascend.Given as goal

-- the rest decides, after the last one that was seen
abbrev pub invariant-each : goal.invariant-each
invariant-each l =
    ascend_after l.last (words_of l.left) ≡ ascend (words_of l.providers)

abbrev pub decreases-each : goal.decreases-each
decreases-each l = length l.left
