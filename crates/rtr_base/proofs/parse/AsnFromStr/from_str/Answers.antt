use Rattle.rtr_base.proofs.Parsing.{reads_number, refuses_others}
use Rattle.rtr_base.proofs.ReadValues.{asn_read, asn_refused}
use Rattle.rtr_base.proofs.parse.AsnFromStr.from_str.Goals as goal

pub returns-in-Ok : goal.returns-in-Ok
returns-in-Ok c =
    let read = reads_number c.without_as.result.now c.in-Ok.number c.in-Ok.ensures.value.0 in
    rw c.from_u32.ensures
    (asn_read c.args.text.now c.without_as.result.now c.in-Ok.number c.without_as.ensures read)

pub returns-in-Err : goal.returns-in-Err
returns-in-Err c =
    asn_refused c.args.text.now c.without_as.result.now c.without_as.ensures
    (refuses_others c.without_as.result.now c.in-Err.ensures.value.0)
