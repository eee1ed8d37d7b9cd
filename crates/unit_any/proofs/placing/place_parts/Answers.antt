use Rattle.std.proofs.Common.{◌∙◌, refl, length, arith, length-append, ◌++◌}
use Rattle.rtr_base.specs.Bytes.{be}
use Rattle.unit_any.proofs.LaidReports.{laid}
use Rattle.unit_any.proofs.placing.place_parts.Goals as goal

pub returns-then-output-size : goal.returns-then-output-size
returns-then-output-size c =
    let p = c.args.pdu.now in
    let t = c.args.text.now in (
      omega (
        arith,
        length-append (p ++ be (length t) 4) t,
        length-append p (be (length t) 4),
        c.if-output-size.true,
      ),
      refl,
    )

pub returns : goal.returns
returns c =
    let p = c.args.pdu.now in
    let t = c.args.text.now in (
      omega (arith, length-append (p ++ be (length t) 4) t, length-append p (be (length t) 4)),
      omega (arith, c.if-output-size.false),
      laid c.args.version c.args.code.0 p t c.args.output.now _ _ _ _ _ _
          (c.copy_from_slice.ensures.after ∙ c.as_ref.ensures.bytes ∙ c.new-header.ensures)
          c.lay_counted.ensures c.lay_counted-2.ensures c.split_at_mut-head.ensures.back
          c.split_at_mut-middle.ensures.back c.split_at_mut-last.ensures.back,
    )
