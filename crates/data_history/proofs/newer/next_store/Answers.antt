use Rattle.std.proofs.Common.{◌≡◌, ◌≤◌, ◌+◌, ◌*◌, ◌-◌, ◌++◌, ◌∙◌, Err, List, [], arith, length}
use Rattle.std.proofs.Common.{refl}
use Rattle.std.proofs.Common.{subst}
use Rattle.rtr_base.specs.Bytes.{be}
use Rattle.std.proofs.Common.{sym, take, ℕ, false, true}
use Rattle.std.proofs.lemmas.List.{length-take}
use Rattle.data_history.specs.Next.{ContinuesHistory, IsLongest}
use Rattle.data_history.specs.Parts.{part_bytes, part_form, part_rest}
use Rattle.data_history.specs.Snapshots.{HoldsHistory, Snapshot}
use Rattle.data_history.specs.Store.{HoldsStore}
use Rattle.data_history.specs.Stores.{IsShortForTaking, TakesLater}
use Rattle.data_history.proofs.Serving.{more_room, not_stored, refused, session_is, wants}
use Rattle.data_history.proofs.newer.next_store.Goals as goal

-- the history of a store, as it was read
history_of : (b h : List ℕ) (x : Snapshot) (ys : List Snapshot) → h ≡ part_rest b →
    HoldsStore b x ys → HoldsHistory h x ys
history_of b h x ys is s = subst (λ l. HoldsHistory l x ys) (sym is) s.history

pub returns-in-None-clause-takes : goal.returns-in-None-clause-takes
returns-in-None-clause-takes c = λ z x ys h j.
    let wrong : false ≡ true = c.in-None.ensures.finds j.first in
    absurd cc

pub returns-in-None-present_end-clause-takes : goal.returns-in-None-present_end-clause-takes
returns-in-None-present_end-clause-takes c = λ z x ys h j.
    let wrong : false ≡ true = c.in-None-present_end.ensures.finds x ys
    (history_of c.args.store.now c.in-Some.part.2.now x ys c.in-Some.ensures.rest j) in
    absurd cc

pub returns-in-Err-clause-takes : goal.returns-in-Err-clause-takes
returns-in-Err-clause-takes c = λ z x ys h j.
    refused (c.args.now - c.args.limits.now.time) c.args.limits.now.bytes
    c.in-Err.refused z x ys c.args.spare.now c.advance.new.output
    (c.in-Err.ensures.«data» x z ys
    (history_of c.args.store.now c.in-Some.part.2.now x ys c.in-Some.ensures.rest j) h)

pub returns-in-Err-clause-rooms : goal.returns-in-Err-clause-rooms
returns-in-Err-clause-rooms c =
    let old = length c.in-Some.part.2.now + length c.args.new.now in
    let all = length c.args.store.now + length c.args.new.now in
    let less : old ≤ all = omega (arith, c.in-Some.ensures.shorter) in
    more_room c.in-Err.refused old all (32 + 2 * old) (32 + 2 * all)
    (length c.args.buffer.now) (length c.args.spare.now) less (omega (arith, less))
    c.in-Err.ensures.rooms

pub returns-in-Ok-take_into-clause-takes : goal.returns-in-Ok-take_into-clause-takes
returns-in-Ok-take_into-clause-takes c = λ z x ys h j.
    let g = history_of c.args.store.now c.in-Some.part.2.now x ys c.in-Some.ensures.rest j in
    let a = c.in-Ok.ensures.«data» x z ys g h in (
      c.in-Ok-take_into.ensures.takes x z ys a.1.front j a.1.history
          (session_is (part_bytes c.in-Some.part.2.now) c.session.result
          c.in-Some-present_end.before x c.session.ensures
          (c.in-Some-present_end.ensures.holds.1, c.in-Some-present_end.ensures.holds.2) g.holds)
          (session_is c.args.new.now c.session-2.result c.args.end.now z c.session-2.ensures
          c.requires.new h)
          (λ same. c.in-Ok.ensures.newer x z ys g h same refl),
      subst (λ b. ContinuesHistory (c.args.now - c.args.limits.now.time) c.args.limits.now.bytes b
          z x ys) (sym c.in-Ok-take_into.ensures.history) a.1,
    )

pub returns-in-Err-take_into-clause-takes : goal.returns-in-Err-take_into-clause-takes
returns-in-Err-take_into-clause-takes c = λ z x ys h j.
    subst (λ r. TakesLater (c.args.now - c.args.limits.now.time) c.args.limits.now.bytes (Err r)
    c.args.store.now z x ys c.take_into.new.output) (sym c.fault_of.ensures.is)
    (not_stored (c.args.now - c.args.limits.now.time) c.args.limits.now.bytes
    c.in-Err-take_into.fault c.args.store.now c.session.result c.session-2.result
    (take c.in-Ok.size c.advance.new.output) x z ys [] c.take_into.new.output
    c.take_into.new.output (c.in-Err-take_into.ensures.takes x z ys []) j
    (session_is (part_bytes c.in-Some.part.2.now) c.session.result c.in-Some-present_end.before x
    c.session.ensures
    (c.in-Some-present_end.ensures.holds.1, c.in-Some-present_end.ensures.holds.2)
    (history_of c.args.store.now c.in-Some.part.2.now x ys c.in-Some.ensures.rest j).holds)
    (session_is c.args.new.now c.session-2.result c.args.end.now z c.session-2.ensures
    c.requires.new h))

pub returns-in-Err-take_into-clause-flaw : goal.returns-in-Err-take_into-clause-flaw
returns-in-Err-take_into-clause-flaw c = c.fault_of.ensures.no_flaw c.args.new.now

pub returns-in-Err-take_into-clause-rooms : goal.returns-in-Err-take_into-clause-rooms
returns-in-Err-take_into-clause-rooms c =
    let kept = length (take c.in-Ok.size c.advance.new.output) in
    let size : kept ≤ length c.args.spare.now =
    omega (
      arith,
      length-take c.in-Ok.size c.advance.new.output,
      c.advance.auto.output,
    ) in
    let all = length c.args.store.now + length c.args.new.now in
    subst (λ r. IsShortForTaking (Err r) all (length c.args.buffer.now) (length c.args.spare.now)
    (length c.args.output.now)) (sym c.fault_of.ensures.is)
    (wants c.in-Err-take_into.fault (18 + length c.args.store.now + kept)
    (length c.args.output.now) all (length c.args.buffer.now) (length c.args.spare.now)
    (omega (arith, size)) c.in-Err-take_into.ensures.room)

pub returns-in-Ok-take_into-clause-form : goal.returns-in-Ok-take_into-clause-form
returns-in-Ok-take_into-clause-form c = λ z x ys h j.
    let g = history_of c.args.store.now c.in-Some.part.2.now x ys c.in-Some.ensures.rest j in
    let present = session_is (part_bytes c.in-Some.part.2.now) c.session.result
    c.in-Some-present_end.before x c.session.ensures
    (c.in-Some-present_end.ensures.holds.1, c.in-Some-present_end.ensures.holds.2) g.holds in
    let next = session_is c.args.new.now c.session-2.result c.args.end.now z c.session-2.ensures
    c.requires.new h in
    let written = take c.in-Ok.size c.advance.new.output in
    record {
      history = written;
      stays = λ same. (
        c.in-Ok-take_into.ensures.stays (present ∙ sym same ∙ sym next),
        subst (λ l. IsLongest c.args.now (c.args.now - c.args.limits.now.time)
            c.args.limits.now.bytes z x c.args.new.now l written) c.in-Some.ensures.rest
            (c.in-Ok.ensures.longest x z ys g h same),
      );
      leaves = λ other.
          c.in-Ok-take_into.ensures.leaves (λ e. other (sym next ∙ sym e ∙ present))
          ∙ (λ i. part_form 0 (be (present i) 2 ++ part_bytes c.args.store.now)
          ++ c.in-Ok.ensures.alone x z ys g h other i);
    }
