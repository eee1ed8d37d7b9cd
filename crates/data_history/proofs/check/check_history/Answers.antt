use Rattle.std.proofs.Common.{◌+◌, ◌≡◌, ◌≤◌, ◌∙◌, ℕ, List, [], arith, false, length, refl, subst}
use Rattle.std.proofs.Common.{sym, take}
use Rattle.std.proofs.Common.{true}
use Rattle.std.proofs.lemmas.List.{length-take}
use Rattle.rtr_units.specs.AnyEnd.{end_meaning}
use Rattle.data_slices.specs.Canonical.{HoldsData}
use Rattle.data_slices.proofs.OneData.{one_data}
use Rattle.data_history.specs.Parts.{HasPart, part_bytes, part_rest}
use Rattle.data_history.specs.Snapshots.{HoldsHistory, Snapshot}
use Rattle.data_history.proofs.Checked.{empty}
use Rattle.data_history.proofs.Checking.{index_named, joined_history, buffer_named, not_checked}
use Rattle.data_history.proofs.Checking.{not_read, snapshot, steps_of}
use Rattle.data_history.proofs.Parts.{part_sizes}
use Rattle.data_history.proofs.check.check_history.Goals as goal

held : (b s : List ℕ) (x : Snapshot) (ys : List Snapshot) → HoldsHistory b x ys → s ≡ part_bytes b →
    HoldsData s x.payloads x.end
held b s x ys h is = subst (λ l. HoldsData l x.payloads x.end) (sym is) h.holds

sizes : (b s r : List ℕ) → HasPart b → s ≡ part_bytes b → r ≡ part_rest b →
    16 + (length s + length r) ≡ length b
sizes b s r part is is' = (λ i. 16 + (length (is i) + length (is' i))) ∙ part_sizes b part

pub returns-in-None-clause-checks : goal.returns-in-None-clause-checks
returns-in-None-clause-checks c = λ x ys h.
    let k : false ≡ true = c.in-None.ensures.finds h.first in absurd cc

pub returns-in-Err-clause-checks : goal.returns-in-Err-clause-checks
returns-in-Err-clause-checks c = λ x ys h.
    c.in-Err.ensures.flaw.none (
      x.payloads,
      x.end,
      held c.args.history.now c.in-Some.part.1.now x ys h c.in-Some.ensures.bytes,
    )

pub returns-then-steps-eq0-clause-checks : goal.returns-then-steps-eq0-clause-checks
returns-then-steps-eq0-clause-checks c =
    let p = c.in-Ok.ensures.«data» in
    let x = snapshot (end_meaning c.in-Ok.end) p.0 in
    let t = joined_history c.args.history.now c.in-Some.part.1.now c.in-Some.part.2.now x
    c.in-Some.ensures.is_there c.in-Some.ensures.bytes c.in-Some.ensures.rest p.1
    ([], empty c.in-Some.part.2.now c.if-steps-eq0.true, tt) in
    (x, t.0, t.1, refl)

pub returns-in-Err-join_all-clause-checks : goal.returns-in-Err-join_all-clause-checks
returns-in-Err-join_all-clause-checks c =
    not_read c.in-Err-join_all.fault c.args.history.now c.in-Some.part.2.now
    c.join_all.new.buffer
    (λ x ys h.
    let p = c.in-Ok.ensures.«data» in
    let same = (one_data c.in-Some.part.1.now p.0 x.payloads (end_meaning c.in-Ok.end) x.end p.1
    (held c.args.history.now c.in-Some.part.1.now x ys h c.in-Some.ensures.bytes)).1 in (
      c.in-Err-join_all.ensures.joins x same c.if-steps-eq0.false,
      steps_of c.args.history.now c.in-Some.part.2.now x ys c.in-Some.ensures.rest h,
    ))

pub returns-in-Err-join_all-clause-rooms : goal.returns-in-Err-join_all-clause-rooms
returns-in-Err-join_all-clause-rooms c =
    let all = sizes c.args.history.now c.in-Some.part.1.now c.in-Some.part.2.now
    c.in-Some.ensures.is_there c.in-Some.ensures.bytes c.in-Some.ensures.rest in
    buffer_named c.in-Err-join_all.fault (length c.in-Some.part.2.now)
    (length c.args.history.now) (length c.args.index.now) (length c.args.buffer.now)
    c.in-Err-join_all.ensures.rooms (omega (arith, all))

pub returns-in-Ok-check_allowed-clause-checks : goal.returns-in-Ok-check_allowed-clause-checks
returns-in-Ok-check_allowed-clause-checks c =
    let p = c.in-Ok.ensures.«data» in
    let x = snapshot (end_meaning c.in-Ok.end) p.0 in
    let j = c.in-Ok-join_all.ensures.joins x refl c.if-steps-eq0.false in
    let allowed = c.in-Ok-check_allowed.ensures.allows x j.changes j.end p.1 j.sends j.version
    j.session in
    let t = joined_history c.args.history.now c.in-Some.part.1.now c.in-Some.part.2.now x
    c.in-Some.ensures.is_there c.in-Some.ensures.bytes c.in-Some.ensures.rest p.1
    (j.goes allowed) in
    (x, t.0, t.1, refl)

pub returns-in-Err-check_allowed-clause-checks : goal.returns-in-Err-check_allowed-clause-checks
returns-in-Err-check_allowed-clause-checks c =
    not_checked c.in-Err-check_allowed.fault c.args.history.now
    (λ x ys h.
    let p = c.in-Ok.ensures.«data» in
    let k = held c.args.history.now c.in-Some.part.1.now x ys h c.in-Some.ensures.bytes in
    let same = (one_data c.in-Some.part.1.now p.0 x.payloads (end_meaning c.in-Ok.end) x.end p.1
    k).1 in
    let j = c.in-Ok-join_all.ensures.joins x same c.if-steps-eq0.false in (
      j.changes,
      c.in-Err-check_allowed.ensures.allows x j.changes j.end k j.sends j.version j.session,
      j.allowed (steps_of c.args.history.now c.in-Some.part.2.now x ys c.in-Some.ensures.rest h),
    ))

pub returns-in-Err-check_allowed-clause-rooms : goal.returns-in-Err-check_allowed-clause-rooms
returns-in-Err-check_allowed-clause-rooms c =
    let all = sizes c.args.history.now c.in-Some.part.1.now c.in-Some.part.2.now
    c.in-Some.ensures.is_there c.in-Some.ensures.bytes c.in-Some.ensures.rest in
    let few : length (take c.in-Ok-join_all.size c.join_all.new.buffer) ≤
    length c.in-Some.part.2.now =
    omega (
      arith,
      length-take c.in-Ok-join_all.size c.join_all.new.buffer,
      c.in-Ok-join_all.ensures.rooms.0,
    ) in
    index_named c.in-Err-check_allowed.fault
    (length (take c.in-Ok-join_all.size c.join_all.new.buffer)) (length c.args.history.now)
    (length c.args.index.now) (length c.args.buffer.now) c.in-Err-check_allowed.ensures.rooms
    (omega (arith, all, few))
