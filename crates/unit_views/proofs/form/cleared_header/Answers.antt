use Rattle.std.proofs.Common.{arith, ap, ◌∙◌}
use Rattle.rtr_base.specs.Actions.{flags_of}
use Rattle.unit_views.proofs.Forms.{header_cleared}
use Rattle.unit_views.proofs.form.cleared_header.Goals as goal

pub returns : goal.returns
returns c =
    header_cleared c.args.unit.now c.copy_from_slice.new.self c.into_flags.result
    (λ i. omega (arith, c.type_inv.unit i)) c.requires c.copy_from_slice.ensures.after
    (c.into_flags.ensures.flags ∙ ap flags_of c.from_flags.ensures)
