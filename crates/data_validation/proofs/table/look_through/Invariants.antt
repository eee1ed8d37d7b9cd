use Rattle.std.proofs.Common.{◌<◌}
use Rattle.rtr_base.specs.Addresses.{family_of}
use Rattle.data_validation.specs.PrivateTable.{UnitsPassed, route}
use Rattle.data_validation.proofs.table.look_through.Given as goal

abbrev pub invariant-units : goal.invariant-units
invariant-units l =
    UnitsPassed (family_of l.is_v4) l.units l.count (route (family_of l.is_v4) l.address l.len)
    l.asn l.covered (λ i. i < l.index)
