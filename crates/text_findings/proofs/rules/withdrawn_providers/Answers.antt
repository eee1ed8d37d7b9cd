use Rattle.std.proofs.Common.{◌∙◌, ap, refl, sym}
use Rattle.std.specs.Prelude.{nat_lt}
use Rattle.text_findings.specs.PrivateSteps.{aspa_parts}
use Rattle.text_findings.specs.Rules.{told, withdrawn_providers}
use Rattle.text_findings.specs.declared.finding.Finding.TheVariants as broken
use Rattle.text_findings.proofs.ProviderOrder.{words_count}
use Rattle.text_findings.proofs.rules.withdrawn_providers.Goals as goal

pub returns-in-Withdraw : goal.returns-in-Withdraw
returns-in-Withdraw c =
    let u = aspa_parts c.args.aspa.now in
    let count = words_count c.args.aspa.now.providers.now in
    let layout = c.layout.ensures u refl refl refl count in
    c.told.ensures
    ∙ (λ i. told (nat_lt 0 (sym count i)) (broken.WithdrawnProviders (layout i)))
    ∙ ap (λ x. withdrawn_providers x u) (sym c.in-Withdraw.is ∙ c.from_flags.ensures)
