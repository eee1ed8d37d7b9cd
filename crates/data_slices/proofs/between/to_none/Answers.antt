use Rattle.std.proofs.Common.{[], refl, subst, sym}
use Rattle.rtr_units.specs.AnyEnd.{end_meaning}
use Rattle.rtr_units.specs.End.{IsEnd}
use Rattle.data_slices.specs.Delta.{ChangesBetween}
use Rattle.data_slices.proofs.AnyVersions.{alone, to_none, told}
use Rattle.data_slices.proofs.between.to_none.Goals as goal

pub place_delta-requires-clause-new : goal.place_delta-requires-clause-new
place_delta-requires-clause-new c =
    let end : IsEnd c.as_ref-last.result.now (end_meaning c.in-Ok.end) =
    subst (λ b. IsEnd b (end_meaning c.in-Ok.end)) (sym c.as_ref-last.ensures.bytes)
    c.in-Ok.ensures.end in
    ([], end_meaning c.in-Ok.end, alone c.as_ref-last.result.now (end_meaning c.in-Ok.end) end)

pub returns : goal.returns
returns c =
    let (d, h) = c.in-Ok.ensures.data in
    let end : IsEnd c.as_ref-last.result.now (end_meaning c.in-Ok.end) =
    subst (λ b. IsEnd b (end_meaning c.in-Ok.end)) (sym c.as_ref-last.ensures.bytes)
    c.in-Ok.ensures.end in
    subst
    (λ r. ChangesBetween r c.args.old.now [] c.args.output.now c.place_delta.new.output)
    (sym c.ok_or.ensures.value)
    (told c.place_delta.result c.args.old.now [] c.args.output.now c.place_delta.new.output
    (to_none c.place_delta.result c.args.old.now [] c.as_ref-last.result.now c.args.output.now
    c.place_delta.new.output c.version.result d (end_meaning c.in-Ok.end) refl c.version.ensures
    end h c.place_delta.ensures))
