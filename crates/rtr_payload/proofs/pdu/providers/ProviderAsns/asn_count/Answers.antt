use Rattle.std.proofs.Common.{arith}
use Rattle.rtr_payload.proofs.ProviderBytes.{provider_count}
use Rattle.rtr_payload.proofs.pdu.providers.ProviderAsns.asn_count.Goals as goal

pub overflow_cast-result : goal.overflow_cast-result
overflow_cast-result c = let e = provider_count c.self.inside.0 c.self.invariant in omega arith

pub returns-clause-value : goal.returns-clause-value
returns-clause-value c =
    rw (← c.self.view_is) (let e = provider_count c.self.inside.0 c.self.invariant in omega arith)
