use Rattle.std.proofs.Common.{◌∙◌}
use Rattle.rtr_payload.proofs.ProviderBytes.{provider_eq}
use Rattle.rtr_payload.proofs.pdu.providers.ProviderAsnsPartialEq.eq.Goals as goal

pub returns : goal.returns
returns c =
    rw (← c.self.view_is, ← c.other.view_is)
    (c.eq.ensures ∙ provider_eq c.self.inside.0 c.other.inside.0 c.self.invariant c.other.invariant)
