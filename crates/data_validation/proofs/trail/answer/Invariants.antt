use Rattle.rtr_base.specs.Addresses.{family_of}
use Rattle.data_validation.specs.PrivateTable.{UnitsPassed, route}
use Rattle.data_validation.specs.PrivateTrail.{IsAmongKept}
use Rattle.data_validation.proofs.trail.answer.Given as goal

abbrev pub invariant-units : goal.invariant-units
invariant-units l =
    UnitsPassed (family_of l.is_v4) l.units l.total (route (family_of l.is_v4) l.address l.len)
    l.asn l.covered (IsAmongKept l.kept l.index)
