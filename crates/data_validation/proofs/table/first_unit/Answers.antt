use Rattle.std.proofs.Common.{ℕ, arith, ap, inl, inr, refl, subst}
use Rattle.std.proofs.lemmas.Bool.{cases_lt}
use Rattle.rtr_base.specs.Addresses.{family_of}
use Rattle.rtr_units.specs.PrefixUnits.{OriginParts}
use Rattle.data_validation.specs.PrivateTable.{IsNextPlace, route, route_key}
use Rattle.data_validation.specs.Tables.{order_key, vrp_at}
use Rattle.data_validation.proofs.Bits.{key_is}
use Rattle.data_validation.proofs.Upward.{find_first, find_next, none_after}
use Rattle.data_validation.proofs.Upward.{past_least, past_within}
use Rattle.data_validation.proofs.table.first_unit.Goals as goal

pub units-init : goal.units-init
units-init c =
    let f = family_of c.args.is_v4 in
    record {
      least = past_least f c.args.units.now c.args.count c.args.from c.args.shortest
          c.args.address c.past_shorter-at.result c.past_shorter-at.ensures;
      within = past_within f c.args.units.now c.args.count c.args.from c.args.shortest
          c.args.address c.past_shorter-at.result c.requires.order c.past_shorter-at.ensures;
      none = find_first f c.args.units.now c.args.count c.args.from c.args.shortest
          c.past_shorter-at.result (route f c.args.address c.args.len) refl
          c.past_shorter-at.ensures;
    }

pub units-preserved : goal.units-preserved
units-preserved c =
    let f = family_of c.args.is_v4 in
    let p = route f c.args.address c.args.len in
    let at = ap (λ (v : OriginParts). v.address) c.unit_covers-found.ensures.parts in
    let n = subst (λ (x : ℕ). IsNextPlace f c.args.units.now c.args.count c.units.at c.args.address
    c.args.len x c.next_after-at.result) at c.next_after-at.ensures in
    record {
      least = omega (arith, n.least);
      within = n.within;
      none = λ t. find_next f c.args.units.now c.args.count c.args.from c.units.at
          c.next_after-at.result p refl (omega arith) t.sorted (c.units.invariant.none t)
          (λ v. cc (c.unit_covers-found.ensures.covers.1 v, c.if-found.false))
          c.unit_covers-found.ensures.small (omega arith) n;
    }

pub returns-then-not-is_up_to-clause-first : goal.returns-then-not-is_up_to-clause-first
returns-then-not-is_up_to-clause-first c = λ t.
    let f = family_of c.args.is_v4 in
    let p = route f c.args.address c.args.len in
    let u = vrp_at f c.args.units.now c.units.at in
    let parts = c.unit_covers-found.ensures.parts in
    let number = key_is u c.unit_covers-found.result.1.address c.unit_covers-found.result.1.len
    (ap (λ (v : OriginParts). v.address) parts) (ap (λ (v : OriginParts). v.prefix_len) parts) in
    none_after f c.args.units.now c.args.count c.args.from c.units.at p t.sorted
    (c.units.invariant.none t)
    (elim (cases_lt (route_key p) (order_key u)) [
      | inl past ↦ past
      | inr before ↦
          absurd (cc (c.is_up_to.ensures.1 (omega (arith, number, before)), c.if-not-is_up_to.true))
    ])
