use Rattle.std.proofs.Common.{◌-◌}
use Rattle.rtr_base.specs.Addresses.{family_of}
use Rattle.data_validation.specs.PrivateTable.{IsTable}
use Rattle.data_validation.specs.PrivateTrail.{host}
use Rattle.data_validation.proofs.Following.{Gathering}
use Rattle.data_validation.proofs.trail.gather.Given as goal

abbrev pub invariant-units : goal.invariant-units
invariant-units l =
    Gathering (family_of l.is_v4) l.units l.from l.at l.end
    (IsTable (family_of l.is_v4) l.units l.end l.least 0 l.end (host (family_of l.is_v4) l.address))
    l.address l.fn.kept l.count l.kept l.more

abbrev pub decreases-units : goal.decreases-units
decreases-units l = l.end - l.at
