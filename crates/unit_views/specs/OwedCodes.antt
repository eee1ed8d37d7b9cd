-- What a fault owes the peer (RFC 8210 sections 5.11 and 12).
use Rattle.std.specs.Prelude.{ℕ, List, Option, None, ◌==◌, if◌then◌else◌}
use Rattle.rtr_units.specs.declared.fault.Fault.{Fault}
use Rattle.rtr_units.specs.declared.fault.Fault.TheVariants as faults
use Rattle.unit_views.specs.declared.fault.ViewFault.{ViewFault}
use Rattle.unit_views.specs.declared.fault.ViewFault.TheVariants as views

-- the same fault of a call that reads units, where this is the report on a prefix that breaks its
-- rule
abbrev pub read_fault : List ℕ → ViewFault → Fault
read_fault report (views.Writer e) = faults.Writer e
read_fault report views.Short = faults.Short
read_fault report (views.UnitType t) = faults.UnitType t
read_fault report views.UnitLength = faults.UnitLength
read_fault report views.TooLong = faults.TooLong
read_fault report views.EmptyProviders = faults.EmptyProviders
read_fault report (views.UnitVersion v) = faults.UnitVersion v
read_fault report (views.Prefix rule) = faults.Refused report
read_fault report views.TooMany = faults.TooMany

-- The error code that is owed for a unit of type t, where this is the code of its fault: none for
-- an error report, about which none may be sent (section 5.11).
abbrev pub owed : ℕ → Option ℕ → Option ℕ
owed t code = if t == 10 then None else code
