use Rattle.std.proofs.Common.{ℕ, List, subst}
use Rattle.std.specs.Bool.{⊤}
use Rattle.rtr_base.specs.Addresses.{PrefixParts}
use Rattle.data_validation.specs.Validity.{IsValidity}
use Rattle.data_validation.proofs.Saying.{done_v4, done_v6, is_v4, is_v6, room_v6}
use Rattle.data_validation.proofs.validation.validate_by_walk.Goals as goal

pub returns-then-is_v4 : goal.returns-then-is_v4
returns-then-is_v4 c = λ h d e j.
    subst (λ (a : ℕ). IsValidity d c.args.route.now.prefix a c.look_through.result)
    c.into_u32-asn.ensures.number
    (done_v4 c.args.«data».now c.args.tables.now d e c.args.route.now.prefix
    c.bits-address.result c.len-len.result c.into_u32-asn.result c.ipv4-ipv4.result
    c.look_through.result (λ (n : ℕ) (q : PrefixParts). ⊤) h j
    (is_v4 c.args.route.now.prefix.family c.is_v4.result c.is_v4.ensures.family c.if-is_v4.true)
    c.bits-address.ensures.number c.len-len.ensures.len c.ipv4-ipv4.ensures (λ s. tt)
    (λ t. c.look_through.ensures))

pub returns-then-not-has_room-2 : goal.returns-then-not-has_room-2
returns-then-not-has_room-2 c = λ h d e j v m k.
    let r = room_v6 c.args.«data».now c.args.tables.now c.ipv4-ipv4.result c.ipv6-ipv6.result
    c.after_ipv4-units.result.now c.after_ipv4-units.ensures h c.ipv4-ipv4.ensures
    c.ipv6-ipv6.ensures in
    let t = c.has_room-2.ensures.1 r in
    absurd (cc (t, c.if-not-has_room-2.true))

pub returns : goal.returns
returns c = λ h d e j.
    subst (λ (a : ℕ). IsValidity d c.args.route.now.prefix a c.look_through-2.result)
    c.into_u32-asn.ensures.number
    (done_v6 c.args.«data».now c.args.tables.now d e c.args.route.now.prefix
    c.bits-address.result c.len-len.result c.into_u32-asn.result c.ipv4-ipv4.result
    c.ipv6-ipv6.result c.after_ipv4-units.result.now c.look_through-2.result
    (λ (u : List ℕ) (n : ℕ) (q : PrefixParts). ⊤) c.after_ipv4-units.ensures h j
    (is_v6 c.args.route.now.prefix.family c.is_v4.result c.is_v4.ensures.family c.if-is_v4.false)
    c.bits-address.ensures.number c.len-len.ensures.len c.ipv4-ipv4.ensures c.ipv6-ipv6.ensures
    (λ s l. tt) (λ t. c.look_through-2.ensures))
