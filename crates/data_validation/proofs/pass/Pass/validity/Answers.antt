use Rattle.std.proofs.Common.{ℕ, ◌≤◌, List, arith, subst, sym}
use Rattle.rtr_base.specs.Addresses.{Family, PrefixParts, v4, v6, width}
use Rattle.data_validation.specs.PrivateTable.{IsTable}
use Rattle.data_validation.specs.Tables.{AreAtLeast}
use Rattle.data_validation.specs.Validity.{IsValidity}
use Rattle.data_validation.proofs.Saying.{done_v4, done_v6, is_v4, is_v6, whole_table}
use Rattle.data_validation.proofs.pass.Pass.validity.Goals as goal

pub returns-then-is_v4-clause-says : goal.returns-then-is_v4-clause-says
returns-then-is_v4-clause-says c = λ h d e j.
    let b = c.args.self.now.bytes.now in
    let t = c.args.self.now.tables.now in
    let p = c.args.route.now.prefix in
    let around = c.around_ipv4-around.result in
    let least = c.shortest_ipv4-least.result in
    let f = is_v4 p.family c.is_v4.result c.is_v4.ensures.family c.if-is_v4.true in
    let few : p.len ≤ 32 =
    subst (λ (g : Family). p.len ≤ width g) (sym f) c.len-len.ensures.valid.len in
    subst (λ (a : ℕ). IsValidity d p a c.validity.result) c.into_u32-asn.ensures.number
    (done_v4 b t d e p c.bits-address.result c.len-len.result c.into_u32-asn.result
    c.ipv4-ipv4.result c.validity.result
    (λ (n : ℕ) (q : PrefixParts).
    AreAtLeast v4 b n least × IsTable v4 b n around.shortest around.low around.top q)
    h j f c.bits-address.ensures.number c.len-len.ensures.len c.ipv4-ipv4.ensures
    (λ s. (
      subst (λ (x : ℕ). AreAtLeast v4 b t.ipv4 x) (sym c.shortest_ipv4-least.ensures) h.least4,
      c.around_ipv4-around.ensures.table b c.len-len.result
          (omega (arith, few, c.len-len.ensures.len)) h s,
    ))
    (λ x. c.validity.ensures.says x.0 x.1))

pub returns-clause-says : goal.returns-clause-says
returns-clause-says c = λ h d e j.
    let b = c.args.self.now.bytes.now in
    let t = c.args.self.now.tables.now in
    let p = c.args.route.now.prefix in
    let around = c.around_ipv6-around.result in
    let least = c.shortest_ipv6-least.result in
    let units = c.after_ipv4-units.result.now in
    subst (λ (a : ℕ). IsValidity d p a c.validity-2.result) c.into_u32-asn.ensures.number
    (done_v6 b t d e p c.bits-address.result c.len-len.result c.into_u32-asn.result
    c.ipv4-ipv4.result c.ipv6-ipv6.result units c.validity-2.result
    (λ (u : List ℕ) (n : ℕ) (q : PrefixParts).
    AreAtLeast v6 u n least × IsTable v6 u n around.shortest around.low around.top q)
    c.after_ipv4-units.ensures h j
    (is_v6 p.family c.is_v4.result c.is_v4.ensures.family c.if-is_v4.false)
    c.bits-address.ensures.number c.len-len.ensures.len c.ipv4-ipv4.ensures c.ipv6-ipv6.ensures
    (λ s l. (
      subst (λ (x : ℕ). AreAtLeast v6 units c.ipv6-ipv6.result x)
          (sym c.shortest_ipv6-least.ensures) l,
      whole_table t units c.ipv6-ipv6.result _ around c.around_ipv6-around.ensures
          c.ipv6-ipv6.ensures s l,
    ))
    (λ x. c.validity-2.ensures.says x.0 x.1))
