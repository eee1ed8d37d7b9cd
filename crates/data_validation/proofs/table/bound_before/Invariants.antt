use Rattle.std.proofs.Common.{◌+◌, ◌*◌, ◌<◌, ◌≤◌}
use Rattle.rtr_base.specs.Addresses.{family_of}
use Rattle.data_validation.specs.Tables.{order_key, vrp_at}
use Rattle.data_validation.proofs.table.bound_before.Given as goal

abbrev pub invariant-steps : goal.invariant-steps
invariant-steps l = record {
  some : 1 ≤ l.step;
  within : l.right ≤ l.top;
  above : l.right < l.top → l.address * 256 + l.len
      < order_key (vrp_at (family_of l.is_v4) l.units l.right);
}

abbrev pub decreases-steps : goal.decreases-steps
decreases-steps l = l.right
