use Rattle.std.proofs.Common.{◌+◌, ◌≡◌, ◌∙◌, ℕ, List, Err, arith, ap, false, length, refl, sym}
use Rattle.std.proofs.Common.{subst, take, true}
use Rattle.rtr_units.specs.AnyEnd.{end_meaning}
use Rattle.rtr_units.specs.End.{EndMeaning}
use Rattle.rtr_payload.specs.Payloads.{Payload}
use Rattle.data_slices.specs.Canonical.{HoldsData}
use Rattle.data_slices.proofs.OneData.{one_data}
use Rattle.data_history.specs.Snapshots.{GoesBack, HoldsHistory, Snapshot, snapshot_at}
use Rattle.data_history.specs.Parts.{HasPart, part_bytes, part_rest}
use Rattle.data_history.specs.PrivateJoins.{LacksOutput}
use Rattle.std.proofs.Common.{◌≤◌}
use Rattle.std.proofs.lemmas.List.{length-take}
use Rattle.data_history.specs.Since.{IsShortForAnswer, WritesChangesSince}
use Rattle.data_history.proofs.Parts.{part_sizes}
use Rattle.data_history.proofs.Returning.{buffer_named, found_by, not_returned, output_named}
use Rattle.data_history.proofs.Returning.{spare_named}
use Rattle.data_history.proofs.Rooms.{held_at}
use Rattle.data_history.proofs.Steps.{here}
use Rattle.data_history.proofs.Telling.{told, untold}
use Rattle.data_history.proofs.since.since_into.Goals as goal

held : (b s : List ℕ) (x : Snapshot) (ys : List Snapshot) → HoldsHistory b x ys → s ≡ part_bytes b →
    HoldsData s x.payloads x.end
held b s x ys h is = subst (λ l. HoldsData l x.payloads x.end) (sym is) h.holds

back : (b r : List ℕ) (x : Snapshot) (ys : List Snapshot) → HoldsHistory b x ys → r ≡ part_rest b →
    GoesBack r x ys
back b r x ys h is = subst (λ l. GoesBack l x ys) (sym is) h.back

serial : (b : List ℕ) (x : Snapshot) (d : List Payload) (e : EndMeaning) →
    HoldsData b x.payloads x.end → HoldsData b d e → x.end.serial ≡ e.serial
serial b x d e h j = ap (λ (e : EndMeaning). e.serial) (one_data b x.payloads d x.end e h j).1

sizes : (b s r : List ℕ) → HasPart b → s ≡ part_bytes b → r ≡ part_rest b →
    16 + (length s + length r) ≡ length b
sizes b s r part is is' =
    (λ i. 16 + (length (is i) + length (is' i))) ∙ part_sizes b part

pub returns-in-None-clause-writes : goal.returns-in-None-clause-writes
returns-in-None-clause-writes c = λ x ys h.
    let k : false ≡ true = c.in-None.ensures.finds h.first in absurd cc

pub returns-in-Err-clause-writes : goal.returns-in-Err-clause-writes
returns-in-Err-clause-writes c = λ x ys h.
    c.in-Err.ensures.flaw.none (
      x.payloads,
      x.end,
      held c.args.history.now c.in-Some.part.1.now x ys h c.in-Some.ensures.bytes,
    )

pub returns-then-serial-clause-writes : goal.returns-then-serial-clause-writes
returns-then-serial-clause-writes c = λ x ys h.
    let k = held c.args.history.now c.in-Some.part.1.now x ys h c.in-Some.ensures.bytes in
    let p = c.in-Ok.ensures.«data» in
    let at = serial c.in-Some.part.1.now x p.0 (end_meaning c.in-Ok.end) k p.1
    ∙ sym c.serial.ensures ∙ c.if-serial.true in
    told c.args.version (snapshot_at c.args.serial.0 x ys) x x c.tell.result c.args.output.now
    c.tell.new.output (here c.args.serial.0 x ys at)
    (c.tell.ensures.writes x x k k (record { version = refl; session = refl }))

pub returns-then-serial-clause-rooms : goal.returns-then-serial-clause-rooms
returns-then-serial-clause-rooms c = λ x ys h.
    let k = held c.args.history.now c.in-Some.part.1.now x ys h c.in-Some.ensures.bytes in
    let all = sizes c.args.history.now c.in-Some.part.1.now c.in-Some.part.2.now
    c.in-Some.ensures.is_there c.in-Some.ensures.bytes c.in-Some.ensures.rest in
    output_named c.tell.result (length c.args.history.now + length c.args.history.now) (length
    c.args.history.now) (length c.args.index.now)
    (length c.args.buffer.now) (length c.args.spare.now) (length c.args.output.now)
    (c.tell.ensures.rooms x x c.in-Some.part.1.now k k k
    (record { version = refl; session = refl }) (omega (arith, all)))
    (omega arith)

pub returns-in-Err-join_into-clause-writes : goal.returns-in-Err-join_into-clause-writes
returns-in-Err-join_into-clause-writes c = λ x ys h.
    let k = held c.args.history.now c.in-Some.part.1.now x ys h c.in-Some.ensures.bytes in
    let p = c.in-Ok.ensures.«data» in
    let at = serial c.in-Some.part.1.now x p.0 (end_meaning c.in-Ok.end) k p.1
    ∙ sym c.serial.ensures in
    subst (λ f. WritesChangesSince c.args.version (Err f) (snapshot_at c.args.serial.0 x ys) x
    c.args.output.now c.args.output.now)
    (sym c.enlarged.ensures)
    (untold c.args.version (length c.args.history.now + length c.args.history.now)
    c.in-Err-join_into.fault (snapshot_at c.args.serial.0 x ys) x
    c.join_into.new.buffer c.args.output.now
    (c.in-Err-join_into.ensures.joins x ys
    (back c.args.history.now c.in-Some.part.2.now x ys h c.in-Some.ensures.rest)
    (λ e. c.if-serial.false (sym at ∙ e))))

pub returns-in-Err-join_into-clause-rooms : goal.returns-in-Err-join_into-clause-rooms
returns-in-Err-join_into-clause-rooms c = λ x ys h.
    let all = sizes c.args.history.now c.in-Some.part.1.now c.in-Some.part.2.now
    c.in-Some.ensures.is_there c.in-Some.ensures.bytes c.in-Some.ensures.rest in
    subst (λ f. IsShortForAnswer (Err f) (length c.args.history.now) (length c.args.index.now)
    (length c.args.buffer.now) (length c.args.spare.now) (length c.args.output.now))
    (sym c.enlarged.ensures)
    (buffer_named c.in-Err-join_into.fault (length c.in-Some.part.2.now)
    (length c.args.history.now) (length c.args.history.now + length c.args.history.now) (length
    c.args.index.now) (length c.args.buffer.now)
    (length c.args.spare.now) (length c.args.output.now) c.in-Err-join_into.ensures.rooms
    (omega (arith, all)) (omega arith))

pub returns-in-Ok-return_to-clause-writes : goal.returns-in-Ok-return_to-clause-writes
returns-in-Ok-return_to-clause-writes c = λ x ys h.
    let k = held c.args.history.now c.in-Some.part.1.now x ys h c.in-Some.ensures.bytes in
    let p = c.in-Ok.ensures.«data» in
    let at = serial c.in-Some.part.1.now x p.0 (end_meaning c.in-Ok.end) k p.1
    ∙ sym c.serial.ensures in
    let f = found_by c.in-Ok-join_into.size (snapshot_at c.args.serial.0 x ys) x
    c.join_into.new.buffer
    (c.in-Ok-join_into.ensures.joins x ys
    (back c.args.history.now c.in-Some.part.2.now x ys h c.in-Some.ensures.rest)
    (λ e. c.if-serial.false (sym at ∙ e))) in
    told c.args.version (snapshot_at c.args.serial.0 x ys) x f.y c.tell-in-Ok-return_to.result
    c.args.output.now c.tell-in-Ok-return_to.new.output f.is
    (c.tell-in-Ok-return_to.ensures.writes x f.y (c.in-Ok-return_to.ensures.returns x f.y k
    f.joined) k
    f.joined.alike)

pub returns-in-Ok-return_to-clause-rooms : goal.returns-in-Ok-return_to-clause-rooms
returns-in-Ok-return_to-clause-rooms c = λ x ys h.
    let k = held c.args.history.now c.in-Some.part.1.now x ys h c.in-Some.ensures.bytes in
    let p = c.in-Ok.ensures.«data» in
    let at = serial c.in-Some.part.1.now x p.0 (end_meaning c.in-Ok.end) k p.1
    ∙ sym c.serial.ensures in
    let goes = back c.args.history.now c.in-Some.part.2.now x ys h c.in-Some.ensures.rest in
    let f = found_by c.in-Ok-join_into.size (snapshot_at c.args.serial.0 x ys) x
    c.join_into.new.buffer
    (c.in-Ok-join_into.ensures.joins x ys goes (λ e. c.if-serial.false (sym at ∙ e))) in
    let g = held_at c.args.serial.0 c.in-Some.part.1.now c.in-Some.part.2.now x f.y ys k goes f.is
    in
    let all = sizes c.args.history.now c.in-Some.part.1.now c.in-Some.part.2.now
    c.in-Some.ensures.is_there c.in-Some.ensures.bytes c.in-Some.ensures.rest in
    output_named c.tell-in-Ok-return_to.result (length c.args.history.now + length
    c.args.history.now) (length c.args.history.now) (length c.args.index.now)
    (length c.args.buffer.now) (length c.args.spare.now) (length c.args.output.now)
    (subst (λ b. LacksOutput c.tell-in-Ok-return_to.result (length c.args.history.now + length
    c.args.history.now) b (length c.args.output.now))
    c.join_into.auto.buffer
    (c.tell-in-Ok-return_to.ensures.rooms x f.y g.bytes (c.in-Ok-return_to.ensures.returns x f.y k
    f.joined)
    g.holds k f.joined.alike (omega (arith, all, g.short))))
    (omega arith)

pub returns-in-Err-return_to-clause-writes : goal.returns-in-Err-return_to-clause-writes
returns-in-Err-return_to-clause-writes c = λ x ys h.
    let k = held c.args.history.now c.in-Some.part.1.now x ys h c.in-Some.ensures.bytes in
    let p = c.in-Ok.ensures.«data» in
    let at = serial c.in-Some.part.1.now x p.0 (end_meaning c.in-Ok.end) k p.1
    ∙ sym c.serial.ensures in
    let f = found_by c.in-Ok-join_into.size (snapshot_at c.args.serial.0 x ys) x
    c.join_into.new.buffer
    (c.in-Ok-join_into.ensures.joins x ys
    (back c.args.history.now c.in-Some.part.2.now x ys h c.in-Some.ensures.rest)
    (λ e. c.if-serial.false (sym at ∙ e))) in
    not_returned c.args.version c.in-Err-return_to.fault (snapshot_at c.args.serial.0 x ys) x f.y
    c.return_to.new.spare c.args.output.now (c.in-Err-return_to.ensures.returns x f.y k f.joined)

pub returns-in-Err-return_to-clause-rooms : goal.returns-in-Err-return_to-clause-rooms
returns-in-Err-return_to-clause-rooms c = λ x ys h.
    let k = held c.args.history.now c.in-Some.part.1.now x ys h c.in-Some.ensures.bytes in
    let p = c.in-Ok.ensures.«data» in
    let at = serial c.in-Some.part.1.now x p.0 (end_meaning c.in-Ok.end) k p.1
    ∙ sym c.serial.ensures in
    let f = found_by c.in-Ok-join_into.size (snapshot_at c.args.serial.0 x ys) x
    c.join_into.new.buffer
    (c.in-Ok-join_into.ensures.joins x ys
    (back c.args.history.now c.in-Some.part.2.now x ys h c.in-Some.ensures.rest)
    (λ e. c.if-serial.false (sym at ∙ e))) in
    let all = sizes c.args.history.now c.in-Some.part.1.now c.in-Some.part.2.now
    c.in-Some.ensures.is_there c.in-Some.ensures.bytes c.in-Some.ensures.rest in
    let few : length (take c.in-Ok-join_into.size c.join_into.new.buffer) ≤
    length c.in-Some.part.2.now =
    omega (
      arith,
      length-take c.in-Ok-join_into.size c.join_into.new.buffer,
      c.in-Ok-join_into.ensures.rooms.0,
    ) in
    spare_named c.in-Err-return_to.fault
    (length (take c.in-Ok-join_into.size c.join_into.new.buffer)) (length c.args.history.now)
    (length c.args.index.now) (length c.args.buffer.now) (length c.args.spare.now)
    (length c.args.output.now)
    (c.in-Err-return_to.ensures.rooms x f.y k f.joined (omega (arith, all, few)))
    (omega (arith, all, few))
