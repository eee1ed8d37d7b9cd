use Rattle.std.proofs.Common.{ℕ, ◌≤◌, List, arith, subst, sym}
use Rattle.rtr_base.specs.Addresses.{Family, PrefixParts, v4, v6, width}
use Rattle.data_validation.specs.PrivateTable.{IsTable}
use Rattle.data_validation.specs.Validity.{IsValidity}
use Rattle.data_validation.proofs.Saying.{done_v4, done_v6, is_v4, is_v6, room_v6, whole_table}
use Rattle.data_validation.proofs.validation.validate.Goals as goal

pub returns-then-is_v4 : goal.returns-then-is_v4
returns-then-is_v4 c = λ h d e j.
    let around = c.around_ipv4-around.result in
    let f =
    is_v4 c.args.route.now.prefix.family c.is_v4.result c.is_v4.ensures.family c.if-is_v4.true in
    let few : c.args.route.now.prefix.len ≤ 32 =
    subst (λ (g : Family). c.args.route.now.prefix.len ≤ width g) (sym f)
    c.len-len.ensures.valid.len in
    subst (λ (a : ℕ). IsValidity d c.args.route.now.prefix a c.seek.result)
    c.into_u32-asn.ensures.number
    (done_v4 c.args.«data».now c.args.tables.now d e c.args.route.now.prefix
    c.bits-address.result c.len-len.result c.into_u32-asn.result c.ipv4-ipv4.result c.seek.result
    (λ (n : ℕ) (q : PrefixParts).
    IsTable v4 c.args.«data».now n around.shortest around.low around.top q)
    h j f c.bits-address.ensures.number c.len-len.ensures.len c.ipv4-ipv4.ensures
    (λ s. c.around_ipv4-around.ensures.table c.args.«data».now c.len-len.result
    (omega (arith, few, c.len-len.ensures.len)) h s)
    c.seek.ensures)

pub returns-then-not-has_room-2 : goal.returns-then-not-has_room-2
returns-then-not-has_room-2 c = λ h d e j v m k.
    let r = room_v6 c.args.«data».now c.args.tables.now c.ipv4-ipv4.result c.ipv6-ipv6.result
    c.after_ipv4-units.result.now c.after_ipv4-units.ensures h c.ipv4-ipv4.ensures
    c.ipv6-ipv6.ensures in
    let t = c.has_room-2.ensures.1 r in
    absurd (cc (t, c.if-not-has_room-2.true))

pub returns : goal.returns
returns c = λ h d e j.
    let around = c.around_ipv6.result in
    subst (λ (a : ℕ). IsValidity d c.args.route.now.prefix a c.seek-2.result)
    c.into_u32-asn.ensures.number
    (done_v6 c.args.«data».now c.args.tables.now d e c.args.route.now.prefix
    c.bits-address.result c.len-len.result c.into_u32-asn.result c.ipv4-ipv4.result
    c.ipv6-ipv6.result c.after_ipv4-units.result.now c.seek-2.result
    (λ (u : List ℕ) (n : ℕ) (q : PrefixParts).
    IsTable v6 u n around.shortest around.low around.top q)
    c.after_ipv4-units.ensures h j
    (is_v6 c.args.route.now.prefix.family c.is_v4.result c.is_v4.ensures.family c.if-is_v4.false)
    c.bits-address.ensures.number c.len-len.ensures.len c.ipv4-ipv4.ensures c.ipv6-ipv6.ensures
    (whole_table c.args.tables.now c.after_ipv4-units.result.now c.ipv6-ipv6.result _ around
    c.around_ipv6.ensures c.ipv6-ipv6.ensures)
    c.seek-2.ensures)
