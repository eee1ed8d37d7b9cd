-- What calls inside this crate leave. Only contracts of private functions cite these.
use Rattle.std.specs.Prelude.{◌≡◌, ◌⊎◌, ℕ, ◌<◌, ◌≤◌, List, ◌++◌, length, take, drop}
use Rattle.std.specs.Prelude.{Option, Some, None, Result, Ok, Err}
use Rattle.std.specs.Io.KnownBytes.{Consumes}
use Rattle.rtr_base.specs.Bytes.{value}
use Rattle.rtr_units.specs.StopCauses.{by_cause, cause_of}
use Rattle.rtr_units.specs.Reading.{Takes}
use Rattle.rtr_units.specs.StopCauses.{ReaderState, reader_count}
use Rattle.rtr_units.specs.HeaderBytes.{header_bytes}
use Rattle.rtr_units.specs.declared.fault.Fault.{Fault}
use Rattle.rtr_units.specs.declared.header.Header.{Header}
use Rattle.unit_any.specs.AnyReading.{HasEnded, StopsInAny}
use Rattle.unit_views.specs.Faults.{NamesRefusal}
use Rattle.rtr_units.specs.StopCauses.{Refusal}
use Rattle.unit_views.specs.declared.fault.ViewFault.{ViewFault}
use Rattle.unit_views.specs.declared.fault.ViewFault.TheVariants.{Prefix}

-- a header was read, or there was none, or reading stopped inside it
abbrev pub ReadsHeaderBytes :
    Result (Option Header) Fault → Option (List ℕ) → Option (List ℕ) → Type 0
ReadsHeaderBytes (Ok None) old left = HasEnded old left
ReadsHeaderBytes (Ok (Some h)) old left = Consumes old left (header_bytes h)
ReadsHeaderBytes (Err e) old left = Takes old left (λ t. StopsInAny (cause_of e) t left)

abbrev pub ReadsHeader : Result (Option Header) Fault → ReaderState → ReaderState → Type 0
ReadsHeader r old new =
    ReadsHeaderBytes r old.left new.left × (new.failed ≡ reader_count (by_cause r) old.failed)

-- the bytes b begin with a length of four bytes and the bytes x, as many as it says, before r
abbrev pub IsCounted : List ℕ → List ℕ → List ℕ → Type 0
IsCounted b x r = (4 ≤ length b) × (value (take 4 b) ≡ length x) × (drop 4 b ≡ x ++ r)

-- the bytes b have no length of four bytes at their front, or fewer bytes follow than it says
abbrev pub IsCutShort : List ℕ → Type 0
IsCutShort b = 4 ≤ length b → length (drop 4 b) < value (take 4 b)

-- what is said of the size n in a header of which this is wrong, if anything is: it, or the fault
abbrev pub SaysSize : ℕ → Option Refusal → Result ℕ ViewFault → Type 0
SaysSize n wrong (Ok m) = (wrong ≡ None) × (m ≡ n)
SaysSize n wrong (Err e) = (u : List ℕ) → NamesRefusal u wrong e

-- the types of units that are no payload units and no ends of data (RFC 8210 sections 5.2 to 5.5,
-- 5.9 and 5.11)
abbrev pub IsPlainType : ℕ → Type 0
IsPlainType t = ((t ≡ 0) ⊎ (t ≡ 1)) ⊎ (((t ≡ 2) ⊎ ((t ≡ 3) ⊎ (t ≡ 8))) ⊎ (t ≡ 10))

-- the size that stands beside a fault of a unit of n bytes
abbrev pub size_beside : ViewFault → ℕ → Option ℕ
size_beside (Prefix rule) n = Some n
size_beside _ n = None
