-- What C gets of the length that a header says (this library's own).
use Rattle.std.specs.Prelude.{◌≡◌, ℕ, Option, Some, None, Result, Ok, Err}
use Rattle.unit_views.specs.declared.fault.ViewFault.{ViewFault}
use Rattle.rtr_c.specs.Answers.{rtr_ok, rtr_short, fault_status, fault_detail}

-- the length of the unit; or the 8 bytes of a header, which are wanted; or the fault of the header
abbrev pub TellsSize : Result (Option ℕ) ViewFault → (size detail code : ℕ) → Type 0
TellsSize (Ok (Some n)) size detail code = (size ≡ n) × (detail ≡ 0) × (code ≡ rtr_ok)
TellsSize (Ok None) size detail code = (size ≡ 8) × (detail ≡ 0) × (code ≡ rtr_short)
TellsSize (Err e) size detail code =
    (size ≡ 0) × (detail ≡ fault_detail e) × (code ≡ fault_status e)
