use Rattle.std.proofs.Common.{max, subst, sym, ◌∙◌}
use Rattle.rtr_units.specs.AnyEnd.{end_meaning}
use Rattle.data_slices.specs.Delta.{ChangesBetween}
use Rattle.data_slices.proofs.AnyVersions.{to_data, told}
use Rattle.data_slices.proofs.between.to_data.Goals as goal

pub returns : goal.returns
returns c =
    let (d, h) = c.in-Ok.ensures.data in
    let (d', j) = c.in-Ok-check_data.ensures.data in
    subst
    (λ r. ChangesBetween r c.args.old.now c.args.new.now c.args.output.now
    c.place_delta.new.output)
    (sym c.ok_or.ensures.value)
    (told c.place_delta.result c.args.old.now c.args.new.now c.args.output.now
    c.place_delta.new.output
    (to_data c.place_delta.result c.args.old.now c.args.new.now c.as_ref.result.now
    c.args.output.now c.place_delta.new.output c.max-version.result d d' (end_meaning c.in-Ok.end)
    (end_meaning c.in-Ok-check_data.end)
    (c.max-version.ensures ∙ (λ i. max (c.version.ensures i) (c.version-2.ensures i)))
    (c.as_ref.ensures.bytes ∙ c.end_in-end.ensures) h j c.place_delta.ensures))
