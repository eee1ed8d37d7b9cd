-- What a peer did wrong: the error code of a report about it (RFC 8210 section 12; of an ASPA
-- without providers the Rust crate's), and its text (this library's own).
use Rattle.std.specs.Prelude.{ℕ, List, ◌++◌, codes, decimal}
use Rattle.rtr_units.specs.declared.peer_fault.PeerFault.{PeerFault}
use Rattle.rtr_units.specs.declared.peer_fault.PeerFault.TheVariants as faults

abbrev pub peer_code : PeerFault → ℕ
peer_code faults.Short = 0
peer_code (faults.UnitType t) = 5
peer_code (faults.UnitVersion v) = 4
peer_code faults.TooLong = 0
peer_code faults.UnitLength = 0
peer_code faults.EmptyProviders = 9
peer_code faults.Prefix = 0
peer_code faults.Duplicate = 7
peer_code faults.Unknown = 6

-- its text without the number of the type or the version
abbrev pub fault_name : PeerFault → List ℕ
fault_name faults.Short = codes "unexpected end of input"
fault_name (faults.UnitType t) = codes "unit type is not allowed here"
fault_name (faults.UnitVersion v) = codes "version is not supported here"
fault_name faults.TooLong = codes "unit is longer than 65535 bytes"
fault_name faults.UnitLength = codes "invalid unit length"
fault_name faults.EmptyProviders = codes "ASPA unit has no providers"
fault_name faults.Prefix = codes "prefix fields are not allowed"
fault_name faults.Duplicate = codes "duplicate announcement"
fault_name faults.Unknown = codes "withdrawal of an unknown record"

-- its text: unit type 5 is not allowed here
abbrev pub fault_text : PeerFault → List ℕ
fault_text (faults.UnitType t) = codes "unit type " ++ decimal t ++ codes " is not allowed here"
fault_text (faults.UnitVersion v) =
    codes "version " ++ decimal v ++ codes " is not supported here"
fault_text f = fault_name f
