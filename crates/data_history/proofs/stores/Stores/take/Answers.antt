use Rattle.std.proofs.Common.{◌≡◌, ◌+◌, ◌-◌, ◌∙◌, ap, false, length, refl, subst, sym, take}
use Rattle.std.proofs.Common.{true}
use Rattle.std.specs.Prelude.{IfOk, IsSome}
use Rattle.data_slices.specs.Canonical.{HoldsData}
use Rattle.data_history.specs.Snapshots.{Snapshot}
use Rattle.data_history.specs.Stores.{ChecksNewFirst, IsShortForTaking, IsStoreFrom, TakesData}
use Rattle.data_history.specs.Stores.{after_call, front_of}
use Rattle.data_history.specs.Stores.{held_of, other_of, size_of}
use Rattle.data_history.proofs.Serving.{Took, goes_on, serves_as_before, serves_at_once, took_by}
use Rattle.data_history.proofs.stores.Stores.take.Goals as goal

-- ---- a store waits

pub returns-in-Some-clause-takes : goal.returns-in-Some-clause-takes
returns-in-Some-clause-takes c = λ z h. subst (λ o. IsSome o) (sym c.in-Some.is) refl

pub returns-in-Some-clause-flaw : goal.returns-in-Some-clause-flaw
returns-in-Some-clause-flaw c = subst (λ o. IsSome o) (sym c.in-Some.is) refl

pub returns-in-Some-clause-waits : goal.returns-in-Some-clause-waits
returns-in-Some-clause-waits c = λ some. (refl, refl, refl)

pub returns-in-Some-clause-life : goal.returns-in-Some-clause-life
returns-in-Some-clause-life c = λ xs file un may l. l

pub returns-in-Some-clause-unsaved_life : goal.returns-in-Some-clause-unsaved_life
returns-in-Some-clause-unsaved_life c = λ xs t z un h l ok.
    let wrong : false ≡ true = ok in
    absurd cc

-- what a call leaves, where the store that is served is in the second buffer
took-then-self : (c : goal.After-note) →
    Took (c.args.now - c.args.limits.now.time) c.args.limits.now.bytes c.args.self.now
    c.note.new.self c.note.result c.args.new.now c.args.first.now c.args.second.now
    c.write-written.new.output c.args.second.now
took-then-self c =
    let since = c.args.now - c.args.limits.now.time in
    let most = c.args.limits.now.bytes in
    took_by true since most c.args.self.now c.note.new.self c.note.result c.args.new.now
    c.args.first.now c.args.second.now c.write-written.new.output c.args.second.now
    c.if-self.true
    (c.note.ensures.after ∙ ap (λ r. after_call r c.args.self.now) (sym c.note.ensures.same))
    c.in-None.is refl
    (λ z free h. subst (λ r. TakesData since most r c.args.self.now
    (front_of c.args.self.now.served c.args.second.now) z c.write-written.new.output)
    (sym c.note.ensures.same)
    (c.write-written.ensures.takes z free h))
    (subst (λ r. IfOk r (λ n. (z : Snapshot) × HoldsData c.args.new.now z.payloads z.end))
    (sym c.note.ensures.same) c.write-written.ensures.holds)

pub returns-then-self-clause-after : goal.returns-then-self-clause-after
returns-then-self-clause-after c = (took-then-self c).after

pub returns-then-self-clause-held : goal.returns-then-self-clause-held
returns-then-self-clause-held c = (took-then-self c).held

pub returns-then-self-clause-waits : goal.returns-then-self-clause-waits
returns-then-self-clause-waits c = λ some.
    let wrong : false ≡ true = subst (λ o. IsSome o) c.in-None.is some in
    absurd cc

pub returns-then-self-clause-takes : goal.returns-then-self-clause-takes
returns-then-self-clause-takes c = (took-then-self c).takes

pub returns-then-self-clause-flaw : goal.returns-then-self-clause-flaw
returns-then-self-clause-flaw c =
    subst (λ r. ChecksNewFirst c.args.self.now.taken r c.args.new.now)
    (sym c.note.ensures.same) c.write-written.ensures.flaw

pub returns-then-self-clause-form : goal.returns-then-self-clause-form
returns-then-self-clause-form c =
    let now = c.args.now in
    let since = now - c.args.limits.now.time in
    let most = c.args.limits.now.bytes in
    let new = c.args.new.now in
    subst (λ b. IfOk c.note.result (λ n. (z : Snapshot) → HoldsData new z.payloads z.end →
    IsStoreFrom now since most
    (front_of c.args.self.now.served (held_of b c.args.first.now c.args.second.now)) z new
    (take n (other_of b c.write-written.new.output c.args.second.now)))) (sym c.if-self.true)
    (subst (λ r. IfOk r (λ n. (z : Snapshot) → HoldsData new z.payloads z.end →
    IsStoreFrom now since most (front_of c.args.self.now.served c.args.second.now) z new
    (take n c.write-written.new.output))) (sym c.note.ensures.same)
    c.write-written.ensures.form)

pub returns-then-self-clause-rooms : goal.returns-then-self-clause-rooms
returns-then-self-clause-rooms c =
    subst (λ b. IsShortForTaking c.note.result
    (size_of (front_of c.args.self.now.served (held_of b c.args.first.now c.args.second.now))
    + length c.args.new.now) (length c.args.buffer.now) (length c.args.spare.now)
    (length (other_of b c.args.first.now c.args.second.now))) (sym c.if-self.true)
    (subst (λ r. IsShortForTaking r
    (size_of (front_of c.args.self.now.served c.args.second.now) + length c.args.new.now)
    (length c.args.buffer.now) (length c.args.spare.now) (length c.args.first.now))
    (sym c.note.ensures.same) c.write-written.ensures.rooms)

pub returns-then-self-clause-serves : goal.returns-then-self-clause-serves
returns-then-self-clause-serves c = serves_as_before (took-then-self c)

pub returns-then-self-clause-life : goal.returns-then-self-clause-life
returns-then-self-clause-life c = goes_on (took-then-self c)

pub returns-then-self-clause-unsaved_life : goal.returns-then-self-clause-unsaved_life
returns-then-self-clause-unsaved_life c = λ xs t z un h l ok.
    serves_at_once (took-then-self c) xs t z un h l ok

-- what a call leaves, where the store that is served is in the first buffer
took-else-self : (c : goal.After-note-else-self) →
    Took (c.args.now - c.args.limits.now.time) c.args.limits.now.bytes c.args.self.now
    c.note-else-self.new.self c.note-else-self.result c.args.new.now
    c.args.first.now c.args.second.now
    c.args.first.now c.write-written-else-self.new.output
took-else-self c =
    let since = c.args.now - c.args.limits.now.time in
    let most = c.args.limits.now.bytes in
    took_by false since most c.args.self.now c.note-else-self.new.self c.note-else-self.result
    c.args.new.now
    c.args.first.now c.args.second.now c.args.first.now c.write-written-else-self.new.output
    c.if-self.false
    (c.note-else-self.ensures.after ∙ ap (λ r. after_call r c.args.self.now)
    (sym c.note-else-self.ensures.same))
    c.in-None.is refl
    (λ z free h. subst (λ r. TakesData since most r c.args.self.now
    (front_of c.args.self.now.served c.args.first.now) z c.write-written-else-self.new.output)
    (sym c.note-else-self.ensures.same)
    (c.write-written-else-self.ensures.takes z free h))
    (subst (λ r. IfOk r (λ n. (z : Snapshot) × HoldsData c.args.new.now z.payloads z.end))
    (sym c.note-else-self.ensures.same) c.write-written-else-self.ensures.holds)

pub returns-else-self-clause-after : goal.returns-else-self-clause-after
returns-else-self-clause-after c = (took-else-self c).after

pub returns-else-self-clause-held : goal.returns-else-self-clause-held
returns-else-self-clause-held c = (took-else-self c).held

pub returns-else-self-clause-waits : goal.returns-else-self-clause-waits
returns-else-self-clause-waits c = λ some.
    let wrong : false ≡ true = subst (λ o. IsSome o) c.in-None.is some in
    absurd cc

pub returns-else-self-clause-takes : goal.returns-else-self-clause-takes
returns-else-self-clause-takes c = (took-else-self c).takes

pub returns-else-self-clause-flaw : goal.returns-else-self-clause-flaw
returns-else-self-clause-flaw c =
    subst (λ r. ChecksNewFirst c.args.self.now.taken r c.args.new.now)
    (sym c.note-else-self.ensures.same) c.write-written-else-self.ensures.flaw

pub returns-else-self-clause-form : goal.returns-else-self-clause-form
returns-else-self-clause-form c =
    let now = c.args.now in
    let since = now - c.args.limits.now.time in
    let most = c.args.limits.now.bytes in
    let new = c.args.new.now in
    subst (λ b. IfOk c.note-else-self.result (λ n. (z : Snapshot) → HoldsData new z.payloads z.end →
    IsStoreFrom now since most
    (front_of c.args.self.now.served (held_of b c.args.first.now c.args.second.now)) z new
    (take n (other_of b c.args.first.now c.write-written-else-self.new.output))))
    (sym c.if-self.false)
    (subst (λ r. IfOk r (λ n. (z : Snapshot) → HoldsData new z.payloads z.end →
    IsStoreFrom now since most (front_of c.args.self.now.served c.args.first.now) z new
    (take n c.write-written-else-self.new.output))) (sym c.note-else-self.ensures.same)
    c.write-written-else-self.ensures.form)

pub returns-else-self-clause-rooms : goal.returns-else-self-clause-rooms
returns-else-self-clause-rooms c =
    subst (λ b. IsShortForTaking c.note-else-self.result
    (size_of (front_of c.args.self.now.served (held_of b c.args.first.now c.args.second.now))
    + length c.args.new.now) (length c.args.buffer.now) (length c.args.spare.now)
    (length (other_of b c.args.first.now c.args.second.now))) (sym c.if-self.false)
    (subst (λ r. IsShortForTaking r
    (size_of (front_of c.args.self.now.served c.args.first.now) + length c.args.new.now)
    (length c.args.buffer.now) (length c.args.spare.now) (length c.args.second.now))
    (sym c.note-else-self.ensures.same) c.write-written-else-self.ensures.rooms)

pub returns-else-self-clause-serves : goal.returns-else-self-clause-serves
returns-else-self-clause-serves c = serves_as_before (took-else-self c)

pub returns-else-self-clause-life : goal.returns-else-self-clause-life
returns-else-self-clause-life c = goes_on (took-else-self c)

pub returns-else-self-clause-unsaved_life : goal.returns-else-self-clause-unsaved_life
returns-else-self-clause-unsaved_life c = λ xs t z un h l ok.
    serves_at_once (took-else-self c) xs t z un h l ok
