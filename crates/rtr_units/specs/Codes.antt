-- Which faults are the peer's, and the error code that it is told (RFC 8210 section 12).
use Rattle.std.specs.Prelude.{ℕ, Option, Some, None}
use Rattle.std.specs.Option.{option_map}
use Rattle.rtr_units.specs.PeerFaults.{peer_code}
use Rattle.rtr_units.specs.declared.fault.Fault.{Fault}
use Rattle.rtr_units.specs.declared.fault.Fault.TheVariants as faults
use Rattle.rtr_units.specs.declared.peer_fault.PeerFault.{PeerFault}
use Rattle.rtr_units.specs.declared.peer_fault.PeerFault.TheVariants as peer_faults

abbrev pub peer_fault_of : Fault → Option PeerFault
peer_fault_of (faults.Reader e) = None
peer_fault_of (faults.Writer e) = None
peer_fault_of faults.Short = Some peer_faults.Short
peer_fault_of (faults.UnitType t) = Some (peer_faults.UnitType t)
peer_fault_of faults.UnitLength = Some peer_faults.UnitLength
peer_fault_of faults.TooLong = Some peer_faults.TooLong
peer_fault_of faults.EmptyProviders = Some peer_faults.EmptyProviders
peer_fault_of (faults.UnitVersion v) = Some (peer_faults.UnitVersion v)
peer_fault_of (faults.Refused r) = Some peer_faults.Prefix
peer_fault_of faults.TooMany = None
peer_fault_of faults.Memory = None

-- none for faults that aren't the peer's
abbrev pub code_of : Fault → Option ℕ
code_of f = option_map peer_code (peer_fault_of f)
