use Rattle.std.proofs.Common.{arith, length, min, Err, refl, sym, subst}
use Rattle.std.proofs.lemmas.List.{length-take-le}
use Rattle.rtr_units.specs.AnyEnd.{end_meaning}
use Rattle.data_slices.specs.AtOffsets.{IsBase}
use Rattle.data_loading.specs.PrivateLoading.{WritesBack}
use Rattle.data_loading.proofs.WrittenBack.{no_room_back, written_back, written_within}
use Rattle.data_loading.proofs.closing.write_back.Goals as goal

pub returns-in-Err-Refused-clause-writes : goal.returns-in-Err-Refused-clause-writes
returns-in-Err-Refused-clause-writes c = λ d xs b is l.
    let v = (end_meaning c.args.end.now).version in
    let w = rw c.in-Err-Refused.field-0-is at (c.in-Err-Refused.ensures d xs
    (subst (λ k. IsBase v k d) (sym c.base_of-kept.ensures) b) is l) in
    subst (λ f. WritesBack (Err f) xs d c.args.end.now
    (min (length c.args.work.now) (length c.args.output.now)) c.args.output.now)
    (sym c.change_fault.ensures) (c.in-Err-Refused.action, w.0, refl)

pub returns-in-Err-NoRoom-clause-writes : goal.returns-in-Err-NoRoom-clause-writes
returns-in-Err-NoRoom-clause-writes c = λ d xs b is l.
    let v = (end_meaning c.args.end.now).version in
    let w = rw c.in-Err-NoRoom.field-0-is at (c.in-Err-NoRoom.ensures d xs
    (subst (λ k. IsBase v k d) (sym c.base_of-kept.ensures) b) is l) in
    (w.0, w.1, omega (arith, w.3.0))

pub slice_bounds-place-end : goal.slice_bounds-place-end
slice_bounds-place-end c =
    let v = (end_meaning c.args.end.now).version in
    let q = c.requires.units in
    let b = c.requires.base in
    written_within c.in-Ok.size q.0 b.0 c.args.end.now c.args.work.now c.make_at.new.output
    (c.in-Ok.ensures b.0 q.0 (subst (λ k. IsBase v k b.0) (sym c.base_of-kept.ensures) b.1) q.1 q.2)

pub slice_bounds-place-end-2 : goal.slice_bounds-place-end-2
slice_bounds-place-end-2 c =
    let v = (end_meaning c.args.end.now).version in
    let q = c.requires.units in
    let b = c.requires.base in
    sym
    (length-take-le c.in-Ok.size c.make_at.new.output
    (written_within c.in-Ok.size q.0 b.0 c.args.end.now c.args.work.now c.make_at.new.output
    (c.in-Ok.ensures b.0 q.0 (subst (λ k. IsBase v k b.0) (sym c.base_of-kept.ensures) b.1) q.1
    q.2)))

pub returns-in-Some-clause-writes : goal.returns-in-Some-clause-writes
returns-in-Some-clause-writes c = λ d xs b is l.
    let v = (end_meaning c.args.end.now).version in
    let w = c.in-Ok.ensures d xs (subst (λ k. IsBase v k d) (sym c.base_of-kept.ensures) b) is l in
    written_back c.in-Ok.size xs d c.args.end.now c.args.work.now c.make_at.new.output w
    c.in-Some.field-0 c.args.output.now c.place.new.output
    (min (length c.args.work.now) (length c.args.output.now)) c.in-Some.ensures

pub returns-in-None-clause-writes : goal.returns-in-None-clause-writes
returns-in-None-clause-writes c = λ d xs b is l.
    let v = (end_meaning c.args.end.now).version in
    let w = c.in-Ok.ensures d xs (subst (λ k. IsBase v k d) (sym c.base_of-kept.ensures) b) is l in
    no_room_back c.in-Ok.size xs d c.args.end.now c.args.work.now c.make_at.new.output w
    c.args.output.now c.place.new.output
    (min (length c.args.work.now) (length c.args.output.now)) (omega arith) c.in-None.ensures
