use Rattle.std.proofs.Common.{Ok, Err, sym, ◌∙◌}
use Rattle.make_work.proofs.AskedFor.{gathered_all, made, written}
use Rattle.make_work.proofs.sequence.write_sequence.Goals as goal

pub returns-in-Ok-put_sequence : goal.returns-in-Ok-put_sequence
returns-in-Ok-put_sequence g c items h =
    let a = c.args.asked.now in
    let v = c.number-version.ensures in
    let all = gathered_all a items _ _ c.in-Ok.is h in (
      c.in-Ok.gathered.payloads,
      made a items _ _ v _ _ all c.has_none.ensures
          (sym c.lacks_payloads.ensures ∙ c.if-lacks_payloads.false) c.end_of-end.ensures.fits,
      written a items c.in-Ok.gathered.payloads _ v (Ok _) _ _ _
          c.end_of-end.ensures.bytes c.in-Ok-put_sequence.ensures,
    )

pub returns : goal.returns
returns g c items h =
    let a = c.args.asked.now in
    let v = c.number-version.ensures in
    let all = gathered_all a items _ _ c.in-Ok.is h in (
      c.in-Ok.gathered.payloads,
      c.in-Ok.gathered.left_out,
      made a items _ _ v _ _ all c.has_none.ensures
          (sym c.lacks_payloads.ensures ∙ c.if-lacks_payloads.false) c.end_of-end.ensures.fits,
      written a items c.in-Ok.gathered.payloads _ v (Err c.in-Err-put_sequence.fault)
          _ _ _ c.end_of-end.ensures.bytes c.in-Err-put_sequence.ensures,
    )
