use Rattle.std.proofs.Common.{◌+◌, ◌-◌, length, sym, subst}
use borrow.Rule.Slice.PartMut.{put_mid}
use Rattle.data_slices.proofs.Going.{Settling, all_placed, last_full, next_full, next_placed}
use Rattle.data_slices.proofs.Going.{settling}
use Rattle.data_slices.proofs.settling.place_settled.Goals as goal

pub offsets-init : goal.offsets-init
offsets-init c =
    let f = c.in-Some.first in
    subst (λ x. Settling c.args.action c.args.input.now c.args.offsets.now f.1 f.2.now x
    c.args.output.now c.args.output.now 0) (sym c.action-first.ensures)
    (settling c.args.action c.args.input.now c.args.offsets.now f.0 f.1 f.2.now
    c.args.output.now c.requires c.in-Some.ensures)

pub returns-in_err-written-clause-bytes : goal.returns-in_err-written-clause-bytes
returns-in_err-written-clause-bytes c =
    let l = c.offsets in
    let f = c.in-Some-first_unit.first in
    rw c.from_residual.ensures
    (next_full c.args.action c.args.input.now c.args.offsets.now l.view l.rest.now l.first
    c.args.output.now l.output l.written l.invariant f.0 f.1 f.2.now
    c.in-Some-first_unit.ensures c.same_name-same.result c.same_name-same.ensures
    c.place_last.new.output c.in_err-written.ensures)

pub offsets-preserved : goal.offsets-preserved
offsets-preserved c =
    let l = c.offsets in
    let f = c.in-Some-first_unit.first in
    subst (λ x. Settling c.args.action c.args.input.now c.args.offsets.now f.1 f.2.now x
    c.args.output.now
    (put_mid l.written (length l.output - l.written) l.output c.place_last.new.output)
    (l.written + c.in_ok-written.field-0)) (sym c.first_action-first.ensures)
    (next_placed c.args.action c.args.input.now c.args.offsets.now l.view l.rest.now l.first
    c.args.output.now l.output l.written l.invariant f.0 f.1 f.2.now
    c.in-Some-first_unit.ensures c.same_name-same.result c.same_name-same.ensures
    c.place_last.new.output c.in_ok-written.field-0 c.in_ok-written.ensures)

pub returns-clause-bytes : goal.returns-clause-bytes
returns-clause-bytes c =
    let l = c.offsets in
    all_placed c.args.action c.args.input.now c.args.offsets.now l.view l.rest.now l.first
    c.args.output.now l.output l.written l.invariant c.in-None-first_unit.ensures
    c.place_last-2.new.output c.in_ok-last_size.last_size c.in_ok-last_size.ensures

pub returns-in_err-last_size-clause-bytes : goal.returns-in_err-last_size-clause-bytes
returns-in_err-last_size-clause-bytes c =
    let l = c.offsets in
    rw c.from_residual-in_err-last_size.ensures
    (last_full c.args.action c.args.input.now c.args.offsets.now l.view l.rest.now l.first
    c.args.output.now l.output l.written l.invariant c.in-None-first_unit.ensures
    c.place_last-2.new.output c.in_err-last_size.ensures)
