use Rattle.std.proofs.Common.{◌∙◌}
use Rattle.rtr_payload.proofs.ProviderBytes.{provider_cmp}
use Rattle.rtr_payload.proofs.pdu.providers.ProviderAsnsOrd.cmp.Goals as goal

pub returns : goal.returns
returns c =
    rw (← c.self.view_is, ← c.other.view_is)
    (c.cmp.ensures
    ∙ provider_cmp c.self.inside.0 c.other.inside.0 c.self.invariant c.other.invariant)
