use Rattle.std.proofs.Common.{◌≡◌, ◌≤◌, ◌∙◌, ap, arith, false, length, refl, subst}
use Rattle.std.proofs.Common.{sym, true}
use Rattle.rtr_base.specs.Serial.{serial_cmp}
use Rattle.rtr_units.specs.AnyEnd.{end_meaning}
use Rattle.rtr_units.specs.End.{EndMeaning}
use Rattle.data_slices.specs.CanonicalChanges.{HoldsChanges}
use Rattle.data_slices.proofs.Reapplied.{one_changes}
use Rattle.data_history.specs.Parts.{HasPart, part_bytes, part_rest, part_time}
use Rattle.data_history.proofs.Keeping.{kept_all, kept_more, none_kept}
use Rattle.data_history.proofs.kept.kept_front.Goals as goal

pub steps-init : goal.steps-init
steps-init c = (none_kept c.args.steps.now c.args.serial.0 c.args.since, omega arith)

pub steps-preserved : goal.steps-preserved
steps-preserved c =
    let l = c.steps in
    let j = c.in-Ok.ensures.changes in (
      kept_more c.args.steps.now l.rest.now c.in-Some.part.1.now c.in-Some.part.2.now l.kept
          c.args.serial.0 c.args.since (end_meaning c.in-Ok.end) j.0 l.invariant.0
          c.in-Some.ensures.is_there c.in-Some.ensures.bytes c.in-Some.ensures.rest j.1
          (ap (λ m. serial_cmp m c.args.serial.0) (sym c.serial.ensures)
          ∙ c.if-not-is_earlier.ensures.0 refl)
          (subst (λ m. c.args.since ≤ m) c.in-Some.ensures.time c.if-time-since.false),
      omega (arith, l.invariant.1, c.if-size-most.false),
    )

pub returns-in-None-clause-front : goal.returns-in-None-clause-front
returns-in-None-clause-front c =
    let l = c.steps in
    kept_all c.args.steps.now l.rest.now l.kept c.args.serial.0 c.args.since l.invariant.0

pub returns-then-time-since-clause-front : goal.returns-then-time-since-clause-front
returns-then-time-since-clause-front c =
    let l = c.steps in
    kept_all c.args.steps.now l.rest.now l.kept c.args.serial.0 c.args.since l.invariant.0

pub returns-then-size-most-clause-front : goal.returns-then-size-most-clause-front
returns-then-size-most-clause-front c =
    let l = c.steps in
    kept_all c.args.steps.now l.rest.now l.kept c.args.serial.0 c.args.since l.invariant.0

pub returns-in-Err-clause-front : goal.returns-in-Err-clause-front
returns-in-Err-clause-front c =
    let l = c.steps in
    kept_all c.args.steps.now l.rest.now l.kept c.args.serial.0 c.args.since l.invariant.0

pub returns-then-not-is_earlier-clause-front : goal.returns-then-not-is_earlier-clause-front
returns-then-not-is_earlier-clause-front c =
    let l = c.steps in
    kept_all c.args.steps.now l.rest.now l.kept c.args.serial.0 c.args.since l.invariant.0

-- no more may be kept
pub returns-in-None-clause-longest : goal.returns-in-None-clause-longest
returns-in-None-clause-longest c = λ m.
    let l = c.steps in
    let k : false ≡ true = c.in-None.ensures.finds
    (subst (λ b. HasPart b) (sym l.invariant.0.left) m.part) in
    absurd cc

pub returns-then-time-since-clause-longest : goal.returns-then-time-since-clause-longest
returns-then-time-since-clause-longest c = λ m.
    let l = c.steps in
    omega (
      arith,
      m.recent,
      ap part_time l.invariant.0.left,
      c.in-Some.ensures.time,
      c.if-time-since.true,
    )

pub returns-then-size-most-clause-longest : goal.returns-then-size-most-clause-longest
returns-then-size-most-clause-longest c = λ m.
    let l = c.steps in
    omega (
      arith,
      m.short,
      ap length l.invariant.0.left,
      ap (λ b. length (part_rest b)) l.invariant.0.left,
      ap length c.in-Some.ensures.rest,
      c.if-size-most.true,
    )

pub returns-in-Err-clause-longest : goal.returns-in-Err-clause-longest
returns-in-Err-clause-longest c = λ m.
    let l = c.steps in
    c.in-Err.ensures.flaw.none (
      m.changes,
      m.end,
      subst (λ b. HoldsChanges b m.changes m.end)
          (ap part_bytes (sym l.invariant.0.left) ∙ sym c.in-Some.ensures.bytes) m.holds,
    )

pub returns-then-not-is_earlier-clause-longest : goal.returns-then-not-is_earlier-clause-longest
returns-then-not-is_earlier-clause-longest c = λ m.
    let l = c.steps in
    let j = c.in-Ok.ensures.changes in
    let same = (one_changes c.in-Some.part.1.now m.changes j.0 m.end (end_meaning c.in-Ok.end)
    (subst (λ b. HoldsChanges b m.changes m.end)
    (ap part_bytes (sym l.invariant.0.left) ∙ sym c.in-Some.ensures.bytes) m.holds) j.1).1 in
    let wrong : false ≡ true = c.if-not-is_earlier.ensures.1
    (ap (λ n. serial_cmp n c.args.serial.0)
    (c.serial.ensures ∙ ap (λ (e : EndMeaning). e.serial) (sym same)) ∙ m.earlier) in
    absurd cc
