use Rattle.std.proofs.Common.{arith}
use Rattle.rtr_base.proofs.Numbers.{length-words}
use Rattle.rtr_payload.proofs.pdu.aspa.ProviderAsnsBodyFIXED.as_slice.Goals as goal

pub returns-clause-short : goal.returns-clause-short
returns-clause-short c = omega (arith, length-words c.args.self.now, c.as_slice.ensures.fits.count)
