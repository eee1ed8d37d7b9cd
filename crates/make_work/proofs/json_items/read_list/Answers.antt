use Rattle.std.proofs.Common.{◌≡◌, ◌∷◌, ◌<◌, [], ◌++◌, None, length, subst, arith}
use Rattle.json.specs.Json.{after_end_array, value}
use Rattle.make_work.specs.JsonPayloads.{AreItemPayloads}
use Rattle.make_work.specs.PrivateJson.{AddsPayloads}
use Rattle.make_work.proofs.JsonReading.{item_refused}
use Rattle.make_work.proofs.JsonSoFar.{item_more, nothing, one}
use Rattle.make_work.proofs.JsonTokens.{items_done, items_here, items_next, items_start}
use Rattle.make_work.proofs.JsonTokens.{value_shorter}
use Rattle.make_work.proofs.json_items.read_list.Goals as goal

pub loop-spot-init : goal.loop-spot-init
loop-spot-init c = ([], items_start _ _, nothing _ _ tt)

pub loop-spot-smaller : goal.loop-spot-smaller
loop-spot-smaller c =
    let l = c.loop-spot in
    let going : (after_end_array l.reader ≡ None) × (c.take_end_array.new.self ≡ l.reader) =
    grind arith in
    let read = c.in-Ok.ensures in
    let less : length c.read_item.new.reader < length l.reader =
    rw (← going.1) (value_shorter 126 _ _ read.0 read.1) in
    omega (arith, less)

pub loop-spot-preserved : goal.loop-spot-preserved
loop-spot-preserved c =
    let l = c.loop-spot in
    let done = l.invariant.0 in
    let going : (after_end_array l.reader ≡ None) × (c.take_end_array.new.self ≡ l.reader) =
    grind arith in
    let read = c.in-Ok.ensures in
    let less : length c.read_item.new.reader < length l.reader =
    rw (← going.1) (value_shorter 126 _ _ read.0 read.1) in (
      done ++ read.0 ∷ [],
      items_next (value 126) _ l.reader done l.invariant.1 read.0 _ going.0
          (rw (← going.1) read.1) less,
      one _ _ _ _ _ _ (λ ps p h k. item_more c.args.kind done ps read.0 p h k) l.invariant.2
          read.2,
    )

pub returns-in-Err : goal.returns-in-Err
returns-in-Err c js rest e =
    let l = c.loop-spot in
    let going : (after_end_array l.reader ≡ None) × (c.take_end_array.new.self ≡ l.reader) =
    grind arith in
    item_refused c.args.kind l.reader l.invariant.0 _ _ _ l.invariant.2.payloads
    (items_here (value 126) _ l.reader l.invariant.0 l.invariant.1 js rest going.0 e)
    (rw (← going.1) c.in-Err.ensures)

pub returns : goal.returns
returns c =
    let l = c.loop-spot in
    let all = items_done (value 126) _ l.reader l.invariant.0 l.invariant.1
    c.take_end_array.new.self (grind arith) in (
      all.0,
      all.1,
      subst (λ js. AddsPayloads (AreItemPayloads c.args.kind js) c.args.gathering.now
          l.gathering) all.2 l.invariant.2,
    )
