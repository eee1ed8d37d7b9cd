use Rattle.std.proofs.Common.{ap}
use Rattle.rtr_payload.specs.Providers.{words_of}
use Rattle.rtr_payload.proofs.pdu.providers.ProviderAsns.from_written.Goals as goal

pub returns-in-Ok : goal.returns-in-Ok
returns-in-Ok c = ap words_of c.in-Ok.ensures.ok
