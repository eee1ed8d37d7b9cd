-- Why key info could not be made (out of memory, beside the Rust crate's limit).
use Rattle.std.specs.Prelude.{⊤}
use Rattle.rtr_payload.specs.declared.pdu.key_info.KeyInfoVecError.{KeyInfoVecError}
use Rattle.rtr_payload.specs.declared.pdu.key_info.KeyInfoVecError.TheVariants.{Size, Memory}

-- there were too many bytes
abbrev pub IsSize : KeyInfoVecError → Type 0
IsSize (Size e) = ⊤
IsSize Memory = ⊥
