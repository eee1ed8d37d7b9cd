use Rattle.data_slices.proofs.Merging.{begins, data_item, finished, goes_equal, goes_greater}
use Rattle.data_slices.proofs.Merging.{goes_less, stops, well}
use Rattle.data_slices.proofs.Sharing.{shares}
use Rattle.data_slices.specs.declared.item.Item.TheVariants as items
use Rattle.data_slices.proofs.missing.place_missing.Goals as goal

pub units-init : goal.units-init
units-init c =
    begins c.args.version c.args.action c.args.these.now c.args.those.now c.args.output.now
    c.requires.these
    c.requires.those

pub units-preserved-in-Some : goal.units-preserved-in-Some
units-preserved-in-Some c =
    let u = c.units in
    shares c.args.version c.args.action c.args.these.now c.args.those.now u.these_rest.now
    u.those_rest.now
    c.args.output.now u.output u.written u.invariant c.in-Some.these_left.now
    c.in-Some.those_left.now c.in-Some.ensures.shared

pub next_of_data-item-requires : goal.next_of_data-item-requires
next_of_data-item-requires c =
    let m = c.units.invariant in well c.units.these_rest.now m.xs m.d m.these_left

pub next_of_data-second-requires : goal.next_of_data-second-requires
next_of_data-second-requires c =
    let m = c.units.invariant in well c.units.those_rest.now m.ys m.e m.those_left

pub returns-in-End-clause-bytes : goal.returns-in-End-clause-bytes
returns-in-End-clause-bytes c =
    let u = c.units in
    let (b, is, parts) = rw c.in-End.is at c.next_of_data-item.ensures.item in
    finished c.args.version c.args.action c.args.these.now c.args.those.now u.these_rest.now
    u.those_rest.now
    c.args.output.now u.output u.written u.invariant c.in-End.field-0 b
    c.next_of_data-item.result.1.now is parts

pub place_lacking-requires-clause-first : goal.place_lacking-requires-clause-first
place_lacking-requires-clause-first c =
    let m = c.units.invariant in
    let (b, is, parts) = rw c.in-Unit.is at c.next_of_data-item.ensures.item in
    data_item (items.Unit c.in-Unit.view) b c.units.these_rest.now
    c.next_of_data-item.result.1.now m.xs m.d is parts m.these_left

pub place_lacking-requires-clause-second : goal.place_lacking-requires-clause-second
place_lacking-requires-clause-second c =
    let m = c.units.invariant in
    let (b, is, parts) = c.next_of_data-second.ensures.item in
    data_item c.next_of_data-second.result.0 b c.units.those_rest.now
    c.next_of_data-second.result.1.now m.ys m.e is parts m.those_left

pub returns-in_err-written-clause-bytes : goal.returns-in_err-written-clause-bytes
returns-in_err-written-clause-bytes c =
    let u = c.units in
    let (b, is, parts) = rw c.in-Unit.is at c.next_of_data-item.ensures.item in
    let (b', is', parts') = c.next_of_data-second.ensures.item in
    rw c.from_residual.ensures
    (stops c.args.version c.args.action c.args.these.now c.args.those.now u.these_rest.now
    u.those_rest.now
    c.args.output.now u.output u.written u.invariant c.in-Unit.view b
    c.next_of_data-item.result.1.now is parts c.next_of_data-second.result.0 b'
    c.next_of_data-second.result.1.now is' parts' c.place_lacking.new.output
    c.compare_item-order.result c.compare_item-order.ensures c.in_err-written.ensures)

pub units-preserved-in-Less : goal.units-preserved-in-Less
units-preserved-in-Less c =
    let u = c.units in
    let (b, is, parts) = rw c.in-Unit.is at c.next_of_data-item.ensures.item in
    let (b', is', parts') = c.next_of_data-second.ensures.item in
    goes_less c.args.version c.args.action c.args.these.now c.args.those.now u.these_rest.now
    u.those_rest.now
    c.args.output.now u.output u.written u.invariant c.in-Unit.view b
    c.next_of_data-item.result.1.now is parts c.next_of_data-second.result.0 b'
    c.next_of_data-second.result.1.now is' parts' c.place_lacking.new.output
    c.in_ok-written.field-0 c.compare_item-order.result c.compare_item-order.ensures c.in-Less.is
    c.in_ok-written.ensures

pub units-preserved-in-Equal : goal.units-preserved-in-Equal
units-preserved-in-Equal c =
    let u = c.units in
    let (b, is, parts) = rw c.in-Unit.is at c.next_of_data-item.ensures.item in
    let (b', is', parts') = c.next_of_data-second.ensures.item in
    goes_equal c.args.version c.args.action c.args.these.now c.args.those.now u.these_rest.now
    u.those_rest.now
    c.args.output.now u.output u.written u.invariant c.in-Unit.view b
    c.next_of_data-item.result.1.now is parts c.next_of_data-second.result.0 b'
    c.next_of_data-second.result.1.now is' parts' c.place_lacking.new.output
    c.in_ok-written.field-0 c.compare_item-order.result c.compare_item-order.ensures c.in-Equal.is
    c.in_ok-written.ensures

pub units-preserved : goal.units-preserved
units-preserved c =
    let u = c.units in
    let (b, is, parts) = rw c.in-Unit.is at c.next_of_data-item.ensures.item in
    let (b', is', parts') = c.next_of_data-second.ensures.item in
    goes_greater c.args.version c.args.action c.args.these.now c.args.those.now u.these_rest.now
    u.those_rest.now
    c.args.output.now u.output u.written u.invariant c.in-Unit.view b
    c.next_of_data-item.result.1.now is parts c.next_of_data-second.result.0 b'
    c.next_of_data-second.result.1.now is' parts' c.place_lacking.new.output
    c.in_ok-written.field-0 c.compare_item-order.result c.compare_item-order.ensures c.in-Greater.is
    c.in_ok-written.ensures

pub returns-in-End-clause-within : goal.returns-in-End-clause-within
returns-in-End-clause-within c = c.units.invariant.fits
