use Rattle.std.proofs.Common.{arith}
use Rattle.rtr_payload.proofs.ProviderBytes.{words_of-shorter}
use Rattle.rtr_payload.proofs.pdu.providers.ProviderIterIterator.next.Goals as goal

pub returns-clause-goes : goal.returns-clause-goes
returns-clause-goes c = record {
  on = λ h. (
    tt,
    tt,
    rw (← c.self.view_is)
        (words_of-shorter c.self.inside.rest.now c.in_ok-first.rest.now
        (omega (arith, c.in_ok-first.ensures.cases.2)) c.in_ok-first.ensures.cases.1),
  );
  keeps = tt;
  rests = λ h. tt;
}
