use Rattle.std.proofs.Common.{sym, ap, ◌∙◌}
use Rattle.rtr_payload.specs.Providers.{words_of}
use Rattle.rtr_payload.proofs.FieldsRead.{words_of-words}
use Rattle.rtr_payload.proofs.pdu.aspa.Aspa.providers.Goals as goal

pub returns : goal.returns
returns c =
    sym (ap words_of (sym c.body.ensures.value)
    ∙ words_of-words c.body.result.now c.body.ensures.valid.each)
