use Rattle.std.proofs.Common.{◌≡◌, ◌+◌, ◌-◌, ◌++◌, Some, None, List, [], arith, false, true, length}
use Rattle.std.proofs.Common.{refl, subst, sym, take}
use Rattle.std.specs.Prelude.{IfOk}
use Rattle.data_history.specs.Parts.{part_form}
use Rattle.rtr_units.specs.AnyEnd.{end_meaning}
use Rattle.data_slices.specs.Canonical.{HoldsData}
use Rattle.data_history.specs.Snapshots.{Snapshot}
use Rattle.data_history.specs.Store.{HoldsStore}
use Rattle.data_history.specs.Stores.{IsShortForTaking, IsStoreAfter, IsStoreFrom, MayBeOf}
use Rattle.data_history.specs.Stores.{TakesData, TakesLater, front_of, size_of}
use Rattle.data_history.proofs.Serving.{checks_new_first, if_ok, looked_at, of_length, session_is}
use Rattle.data_history.proofs.stores.Stores.write.Goals as goal

pub returns-in-Err-clause-takes : goal.returns-in-Err-clause-takes
returns-in-Err-clause-takes c = λ z free h.
    absurd (c.in-Err.ensures.flaw.none (z.payloads, z.end, h))

pub returns-then-not-may_be_of-clause-takes : goal.returns-then-not-may_be_of-clause-takes
returns-then-not-may_be_of-clause-takes c = λ z free h may.
    let wrong : false ≡ true = c.if-not-may_be_of.ensures.1
    (subst (MayBeOf c.args.self.now.unsaved) (sym (session_is c.args.new.now c.session.result
    c.in-Ok.end z c.session.ensures c.in-Ok.ensures.«data» h)) may) in
    absurd cc

pub returns-in-Some-clause-takes : goal.returns-in-Some-clause-takes
returns-in-Some-clause-takes c = λ z free h.
    let since = c.args.now - c.args.limits.now.time in
    let most = c.args.limits.now.bytes in
    let may = subst (MayBeOf c.args.self.now.unsaved) (session_is c.args.new.now c.session.result
    c.in-Ok.end z c.session.ensures c.in-Ok.ensures.«data» h)
    (c.if-not-may_be_of.ensures.0 refl) in
    subst (λ o. TakesData since most c.next_store.result c.args.self.now
    (front_of o c.args.held.now) z c.next_store.new.output) (sym c.in-Some.is)
    (looked_at since most c.next_store.result c.args.self.now
    (Some (take c.in-Some.size c.args.held.now)) z c.next_store.new.output
    c.next_store.ensures.late free may (λ x ys j.
    subst (λ b. TakesLater since most c.next_store.result b z x ys c.next_store.new.output)
    c.front-store.ensures
    (c.next_store.ensures.takes z x ys h
    (subst (λ b. HoldsStore b x ys) (sym c.front-store.ensures) j))))

pub returns-in-Some-clause-holds : goal.returns-in-Some-clause-holds
returns-in-Some-clause-holds c =
    let k = c.in-Ok.ensures.«data» in
    if_ok c.next_store.result
    ((z : Snapshot) × HoldsData c.args.new.now z.payloads z.end)
    (record { end = end_meaning c.in-Ok.end; payloads = k.0 }, k.1)

pub returns-in-Some-clause-rooms : goal.returns-in-Some-clause-rooms
returns-in-Some-clause-rooms c =
    subst (λ o. IsShortForTaking c.next_store.result
    (size_of (front_of o c.args.held.now) + length c.args.new.now) (length c.args.buffer.now)
    (length c.args.spare.now) (length c.args.output.now)) (sym c.in-Some.is)
    (subst (λ b. IsShortForTaking c.next_store.result (length b + length c.args.new.now)
    (length c.args.buffer.now) (length c.args.spare.now) (length c.args.output.now))
    c.front-store.ensures c.next_store.ensures.rooms)

pub returns-in-None-clause-takes : goal.returns-in-None-clause-takes
returns-in-None-clause-takes c = λ z free h.
    let since = c.args.now - c.args.limits.now.time in
    let most = c.args.limits.now.bytes in
    let may = subst (MayBeOf c.args.self.now.unsaved) (session_is c.args.new.now c.session.result
    c.in-Ok.end z c.session.ensures c.in-Ok.ensures.«data» h)
    (c.if-not-may_be_of.ensures.0 refl) in
    subst (λ o. TakesData since most c.first_store.result c.args.self.now
    (front_of o c.args.held.now) z c.first_store.new.output) (sym c.in-None.is)
    (looked_at since most c.first_store.result c.args.self.now None z c.first_store.new.output
    c.first_store.ensures.late free may (c.first_store.ensures.takes z h))

pub returns-in-None-clause-holds : goal.returns-in-None-clause-holds
returns-in-None-clause-holds c =
    let k = c.in-Ok.ensures.«data» in
    if_ok c.first_store.result
    ((z : Snapshot) × HoldsData c.args.new.now z.payloads z.end)
    (record { end = end_meaning c.in-Ok.end; payloads = k.0 }, k.1)

pub returns-in-None-clause-rooms : goal.returns-in-None-clause-rooms
returns-in-None-clause-rooms c =
    subst (λ o. IsShortForTaking c.first_store.result
    (size_of (front_of o c.args.held.now) + length c.args.new.now) (length c.args.buffer.now)
    (length c.args.spare.now) (length c.args.output.now)) (sym c.in-None.is)
    (let all : length c.args.new.now ≡ 0 + length c.args.new.now = omega arith in
    subst (λ n. IsShortForTaking c.first_store.result n (length c.args.buffer.now)
    (length c.args.spare.now) (length c.args.output.now)) all
    (c.first_store.ensures.rooms (length c.args.buffer.now)))

-- ---- the bytes that were written

pub returns-in-Some-clause-form : goal.returns-in-Some-clause-form
returns-in-Some-clause-form c =
    let now = c.args.now in
    let since = now - c.args.limits.now.time in
    let most = c.args.limits.now.bytes in
    let new = c.args.new.now in
    let out = c.next_store.new.output in
    subst (λ o. IfOk c.next_store.result (λ n. (z : Snapshot) → HoldsData new z.payloads z.end →
    IsStoreFrom now since most (front_of o c.args.held.now) z new (take n out)))
    (sym c.in-Some.is)
    (of_length c.next_store.result
    (λ n. (z x : Snapshot) (ys : List Snapshot) → HoldsData new z.payloads z.end →
    HoldsStore c.front-store.result.now x ys →
    IsStoreAfter now since most c.front-store.result.now z x new (take n out))
    (λ n. (z : Snapshot) → HoldsData new z.payloads z.end →
    IsStoreFrom now since most (Some (take c.in-Some.size c.args.held.now)) z new (take n out))
    (λ n p z h x ys j. subst (λ b. IsStoreAfter now since most b z x new (take n out))
    c.front-store.ensures
    (p z x ys h (subst (λ b. HoldsStore b x ys) (sym c.front-store.ensures) j)))
    c.next_store.ensures.form)

pub returns-in-None-clause-form : goal.returns-in-None-clause-form
returns-in-None-clause-form c =
    let now = c.args.now in
    let since = now - c.args.limits.now.time in
    let most = c.args.limits.now.bytes in
    let new = c.args.new.now in
    let out = c.first_store.new.output in
    subst (λ o. IfOk c.first_store.result (λ n. (z : Snapshot) → HoldsData new z.payloads z.end →
    IsStoreFrom now since most (front_of o c.args.held.now) z new (take n out)))
    (sym c.in-None.is)
    (of_length c.first_store.result
    (λ n. take n out ≡ part_form 0 [] ++ part_form now new)
    (λ n. (z : Snapshot) → HoldsData new z.payloads z.end →
    IsStoreFrom now since most None z new (take n out))
    (λ n p z h. p) c.first_store.ensures.form)

-- ---- bytes that are data

pub returns-in-Some-clause-flaw : goal.returns-in-Some-clause-flaw
returns-in-Some-clause-flaw c =
    let k = c.in-Ok.ensures.«data» in
    checks_new_first c.args.self.now.taken c.next_store.result c.args.new.now
    c.next_store.ensures.flaw c.next_store.ensures.late
    (record { end = end_meaning c.in-Ok.end; payloads = k.0 }, k.1)

pub returns-in-None-clause-flaw : goal.returns-in-None-clause-flaw
returns-in-None-clause-flaw c =
    let k = c.in-Ok.ensures.«data» in
    checks_new_first c.args.self.now.taken c.first_store.result c.args.new.now
    c.first_store.ensures.flaw c.first_store.ensures.late
    (record { end = end_meaning c.in-Ok.end; payloads = k.0 }, k.1)

pub returns-then-not-may_be_of-clause-flaw : goal.returns-then-not-may_be_of-clause-flaw
returns-then-not-may_be_of-clause-flaw c =
    let k = c.in-Ok.ensures.«data» in
    (record { end = end_meaning c.in-Ok.end; payloads = k.0 }, k.1)
