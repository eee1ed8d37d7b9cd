use Rattle.std.proofs.Common.{ℕ, ◌+◌, ◌*◌, arith, refl, slice_index, subst}
use Rattle.rtr_base.specs.Addresses.{family_of}
use Rattle.data_validation.specs.PrivateTable.{IsUpperBound}
use Rattle.data_validation.proofs.Bits.{room_at}
use Rattle.data_validation.proofs.Following.{went_on}
use Rattle.data_validation.proofs.trail.Trail.follow.Goals as goal

pub left_of-left-requires-clause-most : goal.left_of-left-requires-clause-most
left_of-left-requires-clause-most c =
    (c.turn_back.ensures.trail (family_of c.args.is_v4) c.args.units.now c.args.total c.args.least
    c.requires.trail).most

pub left_of-left-requires-clause-room : goal.left_of-left-requires-clause-room
left_of-left-requires-clause-room c = λ k w.
    let f = family_of c.args.is_v4 in
    let t = c.turn_back.ensures.trail f c.args.units.now c.args.total c.args.least
    c.requires.trail in
    let x = t.each k w in
    let y = t.within in
    room_at f c.args.units.now (slice_index c.turn_back.new.self.kept k) c.args.total
    (omega (arith, x, y)) c.requires.room

pub bound_after-end-requires-clause-order : goal.bound_after-end-requires-clause-order
bound_after-end-requires-clause-order c =
    (c.turn_back.ensures.trail (family_of c.args.is_v4) c.args.units.now c.args.total c.args.least
    c.requires.trail).within

pub gather-requires-clause-most : goal.gather-requires-clause-most
gather-requires-clause-most c =
    let t = c.turn_back.ensures.trail (family_of c.args.is_v4) c.args.units.now c.args.total
    c.args.least c.requires.trail in
    omega (arith, t.most, c.left_of-left.ensures.most)

pub returns-in-Some-clause-trail : goal.returns-in-Some-clause-trail
returns-in-Some-clause-trail c =
    let f = family_of c.args.is_v4 in
    let t = c.turn_back.ensures.trail f c.args.units.now c.args.total c.args.least
    c.requires.trail in
    let end = c.bound_after-end.result in
    went_on f c.args.units.now c.args.total c.args.least c.args.address c.turn_back.new.self
    (record {
      address = c.args.address;
      passed = end;
      count = c.in-Some.count;
      kept = c.gather.new.kept;
      missed = c.turn_back.new.self.missed;
    })
    c.left_of-left.result c.turn_back.ensures.order t c.left_of-left.ensures.most
    c.left_of-left.ensures.apart
    (subst (λ (l : ℕ). IsUpperBound f c.args.units.now c.turn_back.new.self.passed c.args.total
    (c.args.address * 256 + l) end) c.width_of-len.ensures c.bound_after-end.ensures)
    c.in-Some.ensures refl

pub returns-in-None-clause-trail : goal.returns-in-None-clause-trail
returns-in-None-clause-trail c =
    c.begin_again.ensures.trail (family_of c.args.is_v4) c.args.units.now c.args.total c.args.least
