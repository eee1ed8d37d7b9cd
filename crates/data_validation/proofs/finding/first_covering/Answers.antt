use Rattle.data_validation.proofs.Meeting.{met_v4, met_v6}
use Rattle.data_validation.proofs.Saying.{is_v4, is_v6, room_v6}
use Rattle.data_validation.proofs.finding.first_covering.Goals as goal

pub returns-then-is_v4-clause-first : goal.returns-then-is_v4-clause-first
returns-then-is_v4-clause-first c = λ h d e j.
    met_v4 c.args.«data».now c.args.tables.now d e c.args.prefix c.args.from
    c.bits-address.result c.len-len.result c.ipv4-ipv4.result c.shortest_ipv4.result
    c.unit_from.result h j
    (is_v4 c.args.prefix.family c.is_v4.result c.is_v4.ensures.family c.if-is_v4.true)
    c.bits-address.ensures.number c.len-len.ensures.len c.ipv4-ipv4.ensures
    c.shortest_ipv4.ensures c.unit_from.ensures

pub returns-then-not-has_room-2-clause-first : goal.returns-then-not-has_room-2-clause-first
returns-then-not-has_room-2-clause-first c = λ h d e j i k v m w.
    let r = room_v6 c.args.«data».now c.args.tables.now c.ipv4-ipv4.result c.ipv6-ipv6.result
    c.after_ipv4-units.result.now c.after_ipv4-units.ensures h c.ipv4-ipv4.ensures
    c.ipv6-ipv6.ensures in
    let t = c.has_room-2.ensures.1 r in
    absurd (cc (t, c.if-not-has_room-2.true))

pub returns-clause-first : goal.returns-clause-first
returns-clause-first c = λ h d e j.
    met_v6 c.args.«data».now c.args.tables.now d e c.args.prefix c.args.from
    c.bits-address.result c.len-len.result c.ipv4-ipv4.result c.ipv6-ipv6.result
    c.shortest_ipv6-shortest.result c.after_ipv4-units.result.now c.unit_from-2.result
    c.after_ipv4-units.ensures h j
    (is_v6 c.args.prefix.family c.is_v4.result c.is_v4.ensures.family c.if-is_v4.false)
    c.bits-address.ensures.number c.len-len.ensures.len c.ipv4-ipv4.ensures c.ipv6-ipv6.ensures
    c.shortest_ipv6-shortest.ensures c.unit_from-2.ensures
