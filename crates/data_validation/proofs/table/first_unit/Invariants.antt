use Rattle.std.proofs.Common.{◌-◌, ◌≤◌}
use Rattle.rtr_base.specs.Addresses.{family_of}
use Rattle.data_validation.specs.PrivateTable.{IsTable, NoneBetween, route}
use Rattle.data_validation.proofs.table.first_unit.Given as goal

abbrev pub invariant-units : goal.invariant-units
invariant-units l = record {
  least : l.from ≤ l.at;
  within : l.at ≤ l.count;
  none : IsTable (family_of l.is_v4) l.units l.count l.shortest 0 l.count
      (route (family_of l.is_v4) l.address l.len) →
      NoneBetween (family_of l.is_v4) l.units l.from l.at
      (route (family_of l.is_v4) l.address l.len);
}

abbrev pub decreases-units : goal.decreases-units
decreases-units l = l.count - l.at
