use Rattle.unit_any.proofs.Plain.{refused_type, other_refused}
use Rattle.unit_any.proofs.Viewed.{view_length}
use Rattle.unit_any.proofs.session_view.SessionView.first.Goals as goal

pub first_plain-requires-clause-kind : goal.first_plain-requires-clause-kind
first_plain-requires-clause-kind c =
    refused_type c.args.input.now c.in-UnitType.field-0
    (rw c.in-UnitType.is at c.in-Err.ensures.fault)

pub returns-in-Ok-clause-size : goal.returns-in-Ok-clause-size
returns-in-Ok-clause-size c =
    view_length c.in-Ok.view c.args.input.now c.in-Ok.size c.in-Ok.ensures.within
    c.in-Ok.ensures.view

pub returns-in_default-clause-fault : goal.returns-in_default-clause-fault
returns-in_default-clause-fault c =
    other_refused c.args.input.now c.in-Err.fault c.refused.result.fault c.u32_at.result
    c.refused.result.size c.if-input-lt-HEADER_SIZE.false c.in_default.not-UnitType c.u32_at.ensures
    c.in-Err.ensures.fault c.refused.ensures.fault c.refused.ensures.size
