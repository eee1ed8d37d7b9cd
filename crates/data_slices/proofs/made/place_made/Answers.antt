use Rattle.data_slices.proofs.Composing.{begins, ended, full_at_end, no_room, skips, writes}
use Rattle.data_slices.proofs.made.place_made.Goals as goal

pub offsets-init : goal.offsets-init
offsets-init c =
    begins c.args.«data».now c.args.input.now c.args.offsets.now c.args.output.now c.requires

pub offsets-preserved-then-is_followed : goal.offsets-preserved-then-is_followed
offsets-preserved-then-is_followed c =
    let l = c.offsets in
    let f = c.in-Some.first in
    skips c.args.«data».now c.args.input.now c.args.offsets.now l.rest.now l.data_rest.now
    c.args.output.now l.output l.written l.invariant f.0 f.1 f.2.now c.in-Some.ensures
    c.if-is_followed.ensures

pub offsets-preserved : goal.offsets-preserved
offsets-preserved c =
    let l = c.offsets in
    let f = c.in-Some.first in
    let p = c.in_ok-size in
    writes c.args.«data».now c.args.input.now c.args.offsets.now l.rest.now l.data_rest.now
    c.args.output.now l.output l.written l.invariant f.0 f.1 f.2.now c.in-Some.ensures
    c.if-is_followed.ensures c.place_name.new.output p.size p.data_left p.ensures.bytes
    (p.ensures.within, c.place_name.auto.output)

pub returns-in_err-size-clause-bytes : goal.returns-in_err-size-clause-bytes
returns-in_err-size-clause-bytes c =
    let l = c.offsets in
    let f = c.in-Some.first in
    rw c.from_residual.ensures
    (no_room c.args.«data».now c.args.input.now c.args.offsets.now l.rest.now l.data_rest.now
    c.args.output.now l.output l.written l.invariant f.0 f.1 f.2.now c.in-Some.ensures
    c.if-is_followed.ensures c.place_name.new.output c.in_err-size.ensures.bytes)

pub returns-clause-bytes : goal.returns-clause-bytes
returns-clause-bytes c =
    let l = c.offsets in
    let p = c.in_ok-last_size in
    ended c.args.«data».now c.args.input.now c.args.offsets.now l.rest.now l.data_rest.now
    c.args.output.now l.output l.written l.invariant c.in-None.ensures c.place_name-2.new.output
    p.last_size p.field-0-1 p.ensures.bytes

pub returns-in_err-last_size-clause-bytes : goal.returns-in_err-last_size-clause-bytes
returns-in_err-last_size-clause-bytes c =
    let l = c.offsets in
    rw c.from_residual-in_err-last_size.ensures
    (full_at_end c.args.«data».now c.args.input.now c.args.offsets.now l.rest.now l.data_rest.now
    c.args.output.now l.output l.written l.invariant c.in-None.ensures c.place_name-2.new.output
    c.in_err-last_size.ensures.bytes)
