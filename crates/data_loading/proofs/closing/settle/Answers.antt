use Rattle.std.proofs.Common.{length, take, None, Some, refl, sym, subst, arith}
use Rattle.data_slices.specs.AtOffsets.{ChecksAt}
use Rattle.data_loading.specs.Loading.{RefusesLoad}
use Rattle.data_loading.proofs.Settling.{all_allowed, idle_whole, refused}
use Rattle.data_loading.proofs.closing.settle.Goals as goal

pub returns-in-Some-check_at-clause-settles : goal.returns-in-Some-check_at-clause-settles
returns-in-Some-check_at-clause-settles c = λ room.
    let s = c.requires in
    subst (λ f. RefusesLoad f c.args.input.now (length c.args.index.now) room)
    (sym c.change_fault.ensures)
    (refused c.args.held.now c.in-Some.answer c.in-Some.answer-1-is s.0 c.args.input.now
    c.args.index.now c.args.output.now s.1 (omega (arith, c.if-answer-index.false))
    (Some (c.in-Some-check_at.offset, c.in-Some-check_at.action))
    (subst (λ l. ChecksAt (Some (c.in-Some-check_at.offset, c.in-Some-check_at.action)) l
    c.args.input.now (take c.in-Some.answer.count c.args.index.now)) c.base_of-kept.ensures
    c.in-Some-check_at.ensures) room c.in-Some-check_at.offset c.in-Some-check_at.action refl)

pub returns-in-None-check_at-clause-settles : goal.returns-in-None-check_at-clause-settles
returns-in-None-check_at-clause-settles c = λ room at s.
    all_allowed c.args.held.now c.in-Some.answer c.in-Some.answer-1-is at c.args.input.now
    c.args.index.now c.args.output.now s (omega (arith, c.if-answer-index.false)) None
    (subst (λ l. ChecksAt None l c.args.input.now
    (take c.in-Some.answer.count c.args.index.now)) c.base_of-kept.ensures
    c.in-None-check_at.ensures) refl

pub returns-in-None-clause-settles : goal.returns-in-None-clause-settles
returns-in-None-clause-settles c = λ room at s.
    idle_whole c.args.held.now c.in-None.is at c.args.input.now c.args.index.now
    c.args.output.now s
