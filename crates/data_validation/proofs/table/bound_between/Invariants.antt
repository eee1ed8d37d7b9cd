use Rattle.std.proofs.Common.{◌+◌, ◌-◌, ◌*◌, ◌<◌, ◌≤◌}
use Rattle.rtr_base.specs.Addresses.{family_of}
use Rattle.data_validation.specs.Tables.{order_key, vrp_at}
use Rattle.data_validation.proofs.table.bound_between.Given as goal

abbrev pub invariant-halves : goal.invariant-halves
invariant-halves l = record {
  least : l.low ≤ l.left;
  order : l.left ≤ l.right;
  within : l.right ≤ l.top;
  below : l.low < l.left → order_key (vrp_at (family_of l.is_v4) l.units (l.left - 1))
      ≤ l.address * 256 + l.len;
  above : l.right < l.top → l.address * 256 + l.len
      < order_key (vrp_at (family_of l.is_v4) l.units l.right);
}

abbrev pub decreases-halves : goal.decreases-halves
decreases-halves l = l.right - l.left
