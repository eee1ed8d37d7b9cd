use Rattle.std.proofs.Common.{◌-◌, ◌≡◌, ◌≢◌, ◌∙◌, ap, inl, inr, arith, false, length, refl, subst}
use Rattle.std.proofs.Common.{sym, true}
use Rattle.std.proofs.lemmas.Bool.{cases_lt}
use Rattle.rtr_units.specs.AnyEnd.{end_meaning}
use Rattle.rtr_units.specs.End.{end_list}
use Rattle.data_history.proofs.Joining.{JoinedSoFar, RoomSoFar, none_joined, not_flawed}
use Rattle.data_history.proofs.Joining.{not_there, reached, room_more, room_so_far, went_on}
use Rattle.data_history.proofs.Parts.{part_sizes}
use Rattle.data_history.proofs.join.join_into.Goals as goal

pub steps-init : goal.steps-init
steps-init c = (
  none_joined c.args.buffer.now c.args.steps.now c.args.wanted,
  room_so_far c.args.steps.now c.args.buffer.now,
)

pub steps-preserved : goal.steps-preserved
steps-preserved c =
    let l = c.steps in
    let h = c.in-Ok.ensures.changes in
    let end = end_meaning c.in-Ok.end in
    let placed = c.in-Some-append.ensures.appends h.0 end h.1 in
    let size : length c.as_ref.result.now ≡ length (end_list end) =
    ap length (c.as_ref.ensures.bytes ∙ c.in-Ok.ensures.end.bytes) in
    let other : end.serial ≢ c.args.wanted =
    λ e. c.if-serial-wanted.false (c.serial.ensures ∙ e) in
    subst (λ k. JoinedSoFar c.args.steps.now c.in-Some.part.2.now c.append.new.buffer c.args.wanted
    (c.in-Some-append.joined - k)
    × RoomSoFar c.args.steps.now c.in-Some.part.2.now c.append.new.buffer
    (c.in-Some-append.joined - k)) (sym size) (
      λ x ys back ne. went_on l.buffer c.append.new.buffer l.rest.now c.in-Some.part.1.now
          c.in-Some.part.2.now c.args.wanted l.size c.in-Some-append.joined x ys end h.0
          (l.invariant.0 x ys back ne) c.in-Some.ensures.is_there c.in-Some.ensures.bytes
          c.in-Some.ensures.rest h.1 placed other,
      (room_more c.args.steps.now l.rest.now l.buffer c.append.new.buffer c.in-Some.part.1.now
          c.in-Some.part.2.now l.size c.in-Some-append.joined end h.0 l.invariant.1
          c.in-Some.ensures.is_there c.in-Some.ensures.bytes c.in-Some.ensures.rest h.1 placed
          c.append.auto.buffer).0,
    )

pub returns-in-None-clause-joins : goal.returns-in-None-clause-joins
returns-in-None-clause-joins c = λ x ys back ne.
    let l = c.steps in
    not_there c.args.steps.now l.rest.now l.buffer l.buffer c.args.wanted l.size x ys l.invariant.0
    (λ part. let k : false ≡ true = c.in-None.ensures.finds part in absurd cc) back ne

pub returns-in-Err-clause-joins : goal.returns-in-Err-clause-joins
returns-in-Err-clause-joins c = λ x ys back ne.
    let l = c.steps in
    not_flawed c.args.steps.now l.rest.now c.in-Some.part.1.now l.buffer c.args.wanted l.size
    c.in-Err.field-0 x ys l.invariant.0 c.in-Some.ensures.is_there c.in-Some.ensures.bytes
    c.in-Err.ensures.flaw back ne

pub returns-in-None-append-clause-rooms : goal.returns-in-None-append-clause-rooms
returns-in-None-append-clause-rooms c =
    let l = c.steps in
    let h = c.in-Ok.ensures.changes in (
      refl,
      elim (cases_lt (length c.args.buffer.now) (length c.args.steps.now)) [
        | inl lt ↦ lt
        | inr le ↦
            let some : false ≡ true =
            c.in-None-append.ensures.enough h.0 (end_meaning c.in-Ok.end) h.1
            (omega (
              arith,
              le,
              l.auto.buffer,
              l.invariant.1.few,
              part_sizes l.rest.now c.in-Some.ensures.is_there,
              ap length c.in-Some.ensures.bytes,
            )) in
            absurd cc
      ],
    )

pub returns-then-serial-wanted-clause-joins : goal.returns-then-serial-wanted-clause-joins
returns-then-serial-wanted-clause-joins c = λ x ys back ne.
    let l = c.steps in
    let h = c.in-Ok.ensures.changes in
    let end = end_meaning c.in-Ok.end in
    reached l.buffer c.append.new.buffer l.rest.now c.in-Some.part.1.now c.in-Some.part.2.now
    c.args.wanted l.size c.in-Some-append.joined x ys end h.0 (l.invariant.0 x ys back ne)
    c.in-Some.ensures.is_there c.in-Some.ensures.bytes c.in-Some.ensures.rest h.1
    (c.in-Some-append.ensures.appends h.0 end h.1) (sym c.serial.ensures ∙ c.if-serial-wanted.true)

pub returns-then-serial-wanted-clause-rooms : goal.returns-then-serial-wanted-clause-rooms
returns-then-serial-wanted-clause-rooms c =
    let l = c.steps in
    let h = c.in-Ok.ensures.changes in
    let end = end_meaning c.in-Ok.end in
    let placed = c.in-Some-append.ensures.appends h.0 end h.1 in (
      (room_more c.args.steps.now l.rest.now l.buffer c.append.new.buffer c.in-Some.part.1.now
          c.in-Some.part.2.now l.size c.in-Some-append.joined end h.0 l.invariant.1
          c.in-Some.ensures.is_there c.in-Some.ensures.bytes c.in-Some.ensures.rest h.1 placed
          c.append.auto.buffer).1,
      omega (arith, placed.1, l.auto.buffer),
    )
