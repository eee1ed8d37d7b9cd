use Rattle.std.proofs.Common.{◌-◌, ◌≡◌, ◌≢◌, ◌∙◌, ap, arith, false, inl, inr, length, refl, subst}
use Rattle.std.proofs.Common.{sym, true}
use Rattle.std.proofs.lemmas.Bool.{cases_lt}
use Rattle.rtr_units.specs.AnyEnd.{end_meaning}
use Rattle.rtr_units.specs.End.{EndMeaning, end_list}
use Rattle.data_history.specs.PrivateChecks.{MayBeNext}
use Rattle.data_history.specs.Snapshots.{Snapshot, behind_by}
use Rattle.data_history.proofs.Checking.{IsChecked, checked_all, checked_more, none_checked}
use Rattle.data_history.proofs.Checking.{not_flawed, not_next, not_there}
use Rattle.data_history.proofs.Joining.{RoomSoFar, room_more, room_so_far}
use Rattle.data_history.proofs.Parts.{part_sizes}
use Rattle.data_history.proofs.check.join_all.Goals as goal

pub steps-init : goal.steps-init
steps-init c = (
  λ x is. none_checked c.args.steps.now c.args.buffer.now x,
  room_so_far c.args.steps.now c.args.buffer.now,
  λ some. some,
)

pub steps-preserved : goal.steps-preserved
steps-preserved c =
    let l = c.steps in
    let h = c.in-Ok.ensures.changes in
    let end = end_meaning c.in-Ok.end in
    let placed = c.in-Some-append.ensures.appends h.0 end h.1 in
    let size : length c.as_ref.result.now ≡ length (end_list end) =
    ap length (c.as_ref.ensures.bytes ∙ c.in-Ok.ensures.end.bytes) in
    subst (λ k. ((x : Snapshot) → end_meaning c.args.newest.now ≡ x.end →
    IsChecked c.args.steps.now c.in-Some.part.2.now c.append.new.buffer
    (c.in-Some-append.joined - k) c.in-Some-behind_last.behind x)
    × RoomSoFar c.args.steps.now c.in-Some.part.2.now c.append.new.buffer
    (c.in-Some-append.joined - k)
    × (length c.args.steps.now ≢ 0 → length c.in-Some.part.2.now ≢ 0)) (sym size) (
      λ x is. checked_more c.args.steps.now l.buffer c.append.new.buffer l.rest.now
          c.in-Some.part.1.now c.in-Some.part.2.now l.size l.last c.in-Some-append.joined
          c.in-Some-behind_last.behind x end h.0 (l.invariant.0 x is) c.in-Some.ensures.is_there
          c.in-Some.ensures.bytes c.in-Some.ensures.rest h.1
          (subst (λ e. MayBeNext c.in-Some-behind_last.behind end e l.last) is
          c.in-Some-behind_last.ensures.is) placed,
      (room_more c.args.steps.now l.rest.now l.buffer c.append.new.buffer c.in-Some.part.1.now
          c.in-Some.part.2.now l.size c.in-Some-append.joined end h.0 l.invariant.1
          c.in-Some.ensures.is_there c.in-Some.ensures.bytes c.in-Some.ensures.rest h.1 placed
          c.append.auto.buffer).0,
      λ some. c.if-left-eq0.false,
    )

pub returns-in-None-clause-joins : goal.returns-in-None-clause-joins
returns-in-None-clause-joins c = λ x is some goes.
    let l = c.steps in
    not_there c.args.steps.now l.rest.now l.buffer l.size l.last x (l.invariant.0 x is) goes
    (l.invariant.2 some)
    (λ part. let k : false ≡ true = c.in-None.ensures.finds part in absurd cc)

pub returns-in-Err-clause-joins : goal.returns-in-Err-clause-joins
returns-in-Err-clause-joins c = λ x is some goes.
    let l = c.steps in
    not_flawed c.args.steps.now l.rest.now l.buffer l.size l.last x (l.invariant.0 x is) goes
    c.in-Some.part.1.now c.in-Err.field-0 c.in-Some.ensures.is_there c.in-Some.ensures.bytes
    c.in-Err.ensures.flaw

pub returns-in-None-behind_last-clause-joins : goal.returns-in-None-behind_last-clause-joins
returns-in-None-behind_last-clause-joins c = λ x is some goes.
    let l = c.steps in
    let h = c.in-Ok.ensures.changes in
    let end = end_meaning c.in-Ok.end in
    not_next c.args.steps.now l.rest.now l.buffer l.size l.last x (l.invariant.0 x is) goes
    c.in-Some.part.1.now end h.0 c.in-Some.ensures.is_there c.in-Some.ensures.bytes h.1
    (λ next.
    let k : false ≡ true = c.in-None-behind_last.ensures.finds
    (subst (λ (e : EndMeaning). MayBeNext (behind_by end.serial e.serial) end e l.last) (sym is)
    next) in
    absurd cc)

pub returns-in-None-append-clause-rooms : goal.returns-in-None-append-clause-rooms
returns-in-None-append-clause-rooms c =
    let l = c.steps in
    let h = c.in-Ok.ensures.changes in (
      refl,
      elim (cases_lt (length c.args.buffer.now) (length c.args.steps.now)) [
        | inl lt ↦ lt
        | inr le ↦
            let some : false ≡ true =
            c.in-None-append.ensures.enough h.0 (end_meaning c.in-Ok.end) h.1
            (omega (
              arith,
              le,
              l.auto.buffer,
              l.invariant.1.few,
              part_sizes l.rest.now c.in-Some.ensures.is_there,
              ap length c.in-Some.ensures.bytes,
            )) in
            absurd cc
      ],
    )

pub returns-then-left-eq0-clause-joins : goal.returns-then-left-eq0-clause-joins
returns-then-left-eq0-clause-joins c = λ x is some.
    let l = c.steps in
    let h = c.in-Ok.ensures.changes in
    let end = end_meaning c.in-Ok.end in
    checked_all c.args.steps.now l.buffer c.append.new.buffer l.rest.now
    c.in-Some.part.1.now c.in-Some.part.2.now l.size l.last c.in-Some-append.joined
    c.in-Some-behind_last.behind x end h.0 (l.invariant.0 x is) c.in-Some.ensures.is_there
    c.in-Some.ensures.bytes c.in-Some.ensures.rest h.1
    (subst (λ e. MayBeNext c.in-Some-behind_last.behind end e l.last) is
    c.in-Some-behind_last.ensures.is)
    (c.in-Some-append.ensures.appends h.0 end h.1) c.if-left-eq0.true

pub returns-then-left-eq0-clause-rooms : goal.returns-then-left-eq0-clause-rooms
returns-then-left-eq0-clause-rooms c =
    let l = c.steps in
    let h = c.in-Ok.ensures.changes in
    let end = end_meaning c.in-Ok.end in
    let placed = c.in-Some-append.ensures.appends h.0 end h.1 in (
      (room_more c.args.steps.now l.rest.now l.buffer c.append.new.buffer c.in-Some.part.1.now
          c.in-Some.part.2.now l.size c.in-Some-append.joined end h.0 l.invariant.1
          c.in-Some.ensures.is_there c.in-Some.ensures.bytes c.in-Some.ensures.rest h.1 placed
          c.append.auto.buffer).1,
      omega (arith, placed.1, l.auto.buffer),
    )
