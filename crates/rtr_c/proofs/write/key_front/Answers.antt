use Rattle.rtr_c.proofs.Forms.{key_parts}
use Rattle.rtr_c.proofs.write.key_front.Goals as goal

pub returns : goal.returns
returns c =
    rw (
      c.copy_from_slice.ensures.after,
      c.flagged_header-header.ensures,
      c.copy_from_slice-2.ensures.after,
      c.copy_from_slice-3.ensures.after,
      c.to_be_bytes.ensures,
    )
    (key_parts c.args.unit.now.version c.args.unit.now.action c.args.size c.args.unit.now.asn
    c.args.unit.now.key_identifier
    (rw (
      c.copy_from_slice-2.ensures.after,
      c.copy_from_slice.ensures.after,
      c.flagged_header-header.ensures,
    )
    at c.copy_from_slice-2.ensures.len))
