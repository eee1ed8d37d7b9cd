use Rattle.std.proofs.lemmas.List.{take_rest}
use Rattle.rtr_payload.proofs.BodyForms.{key_form_in}
use Rattle.rtr_payload.proofs.pdu.router_key.RouterKeyInfoBodyFIXED.form_parts.Goals as goal

pub returns : goal.returns
returns c =
    rw (c.flagged_parts.ensures.header, c.flagged_parts.ensures.rest)
    (key_form_in c.args.unit.now _ c.args.version c.from_flags-action.result c.requires.whole
    c.from_flags-action.ensures (take_rest c.args.unit.now 8))
