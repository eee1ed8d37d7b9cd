use Rattle.std.proofs.Common.{take, sym, refl, ◌∙◌, append-nil, arith}
use Rattle.rtr_wire.specs.Sequences.{in_version}
use Rattle.rtr_wire.proofs.IntoSteps.{viewed, step_left_out, step_written, unit_lacks_room}
use Rattle.rtr_wire.proofs.IntoSteps.{end_lacks_room}
use Rattle.rtr_wire.proofs.Slices.{first_ends}
use Rattle.rtr_wire.proofs.Written.{none_written, one_written}
use Rattle.rtr_wire.proofs.into.view_step.Goals as goal

pub returns-in-Err : goal.returns-in-Err
returns-in-Err g c = (
  refl,
  first_ends (g.S.Writing.what c.args.writing) c.in-Err.e c.args.rest.now
      (λ i. omega (arith, c.type_inv.rest i)) c.in-Err.ensures.fault,
)

pub returns-then-not-writes : goal.returns-then-not-writes
returns-then-not-writes g c =
    let what = g.S.Writing.what c.args.writing in
    let k = c.in-Ok.first.1 in
    let v =
    viewed c.in-Ok.first.0 (take k c.args.rest.now) c.in_default.not-End c.in-Ok.ensures.view in
    step_left_out what c.args.rest.now k c.in-Ok.ensures.within c.args.output.now v.m v.unit
    (none_written (what.unit v.m)
    (sym (c.writes.ensures v.m (sym (c.smallest_version.ensures v.m v.means)))
    ∙ c.if-not-writes.true))

pub returns-in-None : goal.returns-in-None
returns-in-None g c =
    let k = c.in-Ok.first.1 in
    let view = rw c.in-End.is at c.in-Ok.ensures.view in
    end_lacks_room (g.S.Writing.what c.args.writing) c.args.rest.now k c.in-Ok.ensures.within
    c.args.output.now c.in-End.end view.0 view.1 _
    (append-nil _ ∙ c.as_ref.ensures.bytes ∙ c.end.ensures (rw (sym view.0) at view.1)) _
    c.in-None.ensures

pub returns-in-Some-place_form_in : goal.returns-in-Some-place_form_in
returns-in-Some-place_form_in g c =
    let what = g.S.Writing.what c.args.writing in
    let k = c.in-Ok.first.1 in
    let v =
    viewed c.in-Ok.first.0 (take k c.args.rest.now) c.in_default.not-End c.in-Ok.ensures.view in
    let version = c.version-version.result in
    let some = one_written (what.unit v.m) (in_version version v.m)
    (sym (c.writes.ensures v.m (sym (c.smallest_version.ensures v.m v.means)))
    ∙ c.if-not-writes.false)
    (λ n. c.version-version.ensures v.m n (sym (c.version-came_in.ensures.means v.m v.means))) in
    step_written what c.args.rest.now k c.in-Ok.ensures.within c.args.output.now v.m version _ _
    v.unit some (c.in-Some-place_form_in.ensures.means v.m v.means)

pub returns-in-None-place_form_in : goal.returns-in-None-place_form_in
returns-in-None-place_form_in g c =
    let what = g.S.Writing.what c.args.writing in
    let k = c.in-Ok.first.1 in
    let v =
    viewed c.in-Ok.first.0 (take k c.args.rest.now) c.in_default.not-End c.in-Ok.ensures.view in
    let version = c.version-version.result in
    let some = one_written (what.unit v.m) (in_version version v.m)
    (sym (c.writes.ensures v.m (sym (c.smallest_version.ensures v.m v.means)))
    ∙ c.if-not-writes.false)
    (λ n. c.version-version.ensures v.m n (sym (c.version-came_in.ensures.means v.m v.means))) in
    unit_lacks_room what c.args.rest.now k c.in-Ok.ensures.within c.args.output.now v.m version _
    v.unit some (c.in-None-place_form_in.ensures.means v.m v.means)
