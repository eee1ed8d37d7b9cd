use Rattle.rtr_base.specs.Addresses.{family_of}
use Rattle.data_validation.specs.PrivateTable.{IsTable, Sought, route}
use Rattle.data_validation.proofs.table.seek.Given as goal

abbrev pub invariant-units : goal.invariant-units
invariant-units l =
    Sought (family_of l.is_v4) l.units l.count (route (family_of l.is_v4) l.address l.len) l.asn
    l.covered l.high (IsTable (family_of l.is_v4) l.units l.count l.around.shortest l.around.low
    l.around.top (route (family_of l.is_v4) l.address l.len))

abbrev pub decreases-units : goal.decreases-units
decreases-units l = l.high
