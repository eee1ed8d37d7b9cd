use Rattle.std.proofs.Common.{◌≡◌, ℕ, ◌-◌, arith, subst, sym, ap}
use Rattle.rtr_base.specs.Addresses.{family_of, width}
use Rattle.rtr_units.specs.PrefixUnits.{OriginParts}
use Rattle.data_validation.specs.PrivateTable.{OneSays, route}
use Rattle.data_validation.specs.Tables.{vrp_at}
use Rattle.data_validation.specs.Validity.{first_bits}
use Rattle.data_validation.specs.declared.validity.Validity.{Validity}
use Rattle.data_validation.proofs.Walking.{seek_below, seek_covers, seek_first}
use Rattle.data_validation.proofs.table.seek.Goals as goal

pub units-init : goal.units-init
units-init c =
    seek_first (family_of c.args.is_v4) c.args.units.now c.args.count c.args.around.shortest
    c.args.around.low c.args.around.top (route (family_of c.args.is_v4) c.args.address c.args.len)
    c.args.asn c.bound_between-high.result c.requires.within c.bound_between-high.ensures

pub units-preserved-in-Invalid : goal.units-preserved-in-Invalid
units-preserved-in-Invalid c =
    let p = route (family_of c.args.is_v4) c.args.address c.args.len in
    let h = subst (λ (w : Validity). OneSays w
    (vrp_at (family_of c.args.is_v4) c.args.units.now (c.units.high - 1)) p c.args.asn)
    c.in-Invalid.is c.unit_says-says.ensures.says in
    seek_covers (family_of c.args.is_v4) c.args.units.now c.args.count p c.args.asn c.units.covered
    c.units.high _ (omega arith) c.units.invariant h.0 h.1

pub units-preserved : goal.units-preserved
units-preserved c =
    let f = family_of c.args.is_v4 in
    let p = route f c.args.address c.args.len in
    let h = subst (λ (w : Validity). OneSays w
    (vrp_at (family_of c.args.is_v4) c.args.units.now (c.units.high - 1)) p c.args.asn)
    c.in-NotFound.is c.unit_says-says.ensures.says in
    let n = c.below-high.ensures in
    let at = ap (λ (v : OriginParts). v.address) c.unit_says-says.ensures.parts in
    seek_below f c.args.units.now c.args.count c.args.around.shortest c.args.around.low
    c.args.around.top p c.args.asn c.units.covered
    c.units.high n.bits n.count c.below-high.result (omega arith) c.units.invariant c.requires.len
    (omega arith) c.unit_says-says.ensures.small h
    (λ l w e. n.few l w (subst (λ (x : ℕ). first_bits (width f) l c.args.address
    ≡ first_bits (width f) l x) (sym at) e))
    n.long n.less n.within n.bound
