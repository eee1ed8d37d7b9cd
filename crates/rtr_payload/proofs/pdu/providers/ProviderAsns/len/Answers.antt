use Rattle.std.proofs.Common.{◌∙◌}
use Rattle.rtr_payload.proofs.ProviderBytes.{provider_count}
use Rattle.rtr_payload.proofs.pdu.providers.ProviderAsns.len.Goals as goal

pub returns-clause-value : goal.returns-clause-value
returns-clause-value c =
    rw (← c.self.view_is) (c.len.ensures.value ∙ provider_count c.self.inside.0 c.self.invariant)
