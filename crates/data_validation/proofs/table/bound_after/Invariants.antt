use Rattle.std.proofs.Common.{◌+◌, ◌-◌, ◌*◌, ◌<◌, ◌≤◌}
use Rattle.rtr_base.specs.Addresses.{family_of}
use Rattle.data_validation.specs.Tables.{order_key, vrp_at}
use Rattle.data_validation.proofs.table.bound_after.Given as goal

abbrev pub invariant-steps : goal.invariant-steps
invariant-steps l = record {
  some : 1 ≤ l.step;
  least : l.low ≤ l.left;
  within : l.left ≤ l.top;
  below : l.low < l.left → order_key (vrp_at (family_of l.is_v4) l.units (l.left - 1))
      ≤ l.address * 256 + l.len;
}

abbrev pub decreases-steps : goal.decreases-steps
decreases-steps l = l.top - l.left
