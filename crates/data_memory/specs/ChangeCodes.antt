-- The error code of each reason for which a change is not made, or a sequence is not applied (RFC
-- 8210 section 12).
use Rattle.std.specs.Prelude.{ℕ, Option, Some, None}
use Rattle.std.specs.Option.{option_map}
use Rattle.rtr_units.specs.Codes.{code_of}
use Rattle.rtr_units.specs.PeerFaults.{peer_code}
use Rattle.rtr_units.specs.declared.peer_fault.PeerFault.{PeerFault}
use Rattle.rtr_units.specs.declared.peer_fault.PeerFault.TheVariants as peer_faults
use Rattle.data_memory.specs.declared.apply_error.ApplyCause.{ApplyCause}
use Rattle.data_memory.specs.declared.apply_error.ApplyCause.TheVariants.{Read, Change}
use Rattle.data_memory.specs.declared.change_error.ChangeError.{ChangeError}
use Rattle.data_memory.specs.declared.change_error.ChangeError.TheVariants.{Duplicate, Unknown}
use Rattle.data_memory.specs.declared.change_error.ChangeError.TheVariants.{KeyTooLong, NoProviders}
use Rattle.data_memory.specs.declared.change_error.ChangeError.TheVariants.{Memory}

abbrev pub change_fault : ChangeError → Option PeerFault
change_fault Duplicate = Some peer_faults.Duplicate
change_fault Unknown = Some peer_faults.Unknown
change_fault KeyTooLong = None
change_fault NoProviders = None
change_fault Memory = None

-- none for what no peer can cause
abbrev pub change_code : ChangeError → Option ℕ
change_code e = option_map peer_code (change_fault e)

abbrev pub cause_code : ApplyCause → Option ℕ
cause_code (Read f) = code_of f
cause_code (Change e) = change_code e
