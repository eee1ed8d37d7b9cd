use Rattle.std.proofs.Common.{◌≡◌, ℕ, ◌+◌, ◌*◌, ◌<◌, ◌≤◌, drop, length}
use Rattle.rtr_base.specs.Addresses.{family_of}
use Rattle.rtr_units.specs.Header.{type_field}
use Rattle.rtr_units.specs.PrefixUnits.{prefix_size, prefix_type}
use Rattle.data_validation.specs.Tables.{AreAtLeast, AreAtLeastBy}
use Rattle.data_validation.proofs.tables.run_of.Given as goal

abbrev pub invariant-units : goal.invariant-units
invariant-units l = record {
  at : l.rest ≡ drop (l.count * prefix_size (family_of l.is_v4)) l.units;
  room : l.count * prefix_size (family_of l.is_v4) + length l.rest ≡ length l.units;
  few : l.count + length l.rest ≤ length l.units;
  least : AreAtLeast (family_of l.is_v4) l.units l.count l.shortest;
  lengths : AreAtLeastBy (family_of l.is_v4) l.units l.count l.lengths;
  each : (i : ℕ) → i < l.count →
      type_field (drop (i * prefix_size (family_of l.is_v4)) l.units)
      ≡ prefix_type (family_of l.is_v4);
}

abbrev pub decreases-units : goal.decreases-units
decreases-units l = length l.rest
