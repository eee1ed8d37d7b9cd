-- What a call that reads a unit leaves, said by bytes. A unit is what the RFCs call a PDU: a
-- header, and what follows it up to its length field (RFC 8210 section 5.1, RFC 6810 section 5.1).
-- The order of the faults, and where memory is asked for, are this library's own.
use Rattle.std.specs.Prelude.{◌≡◌, ◌⊎◌, ℕ, ◌<◌, ◌≤◌, Bool, false, List, ◌++◌, length, IsTrue}
use Rattle.std.specs.Prelude.{MatchResult, Option, Some, None, Result, Ok, Err, nat_lt, ◌==◌}
use Rattle.std.specs.Prelude.{if◌then◌else◌}
use Rattle.std.specs.Io.KnownBytes.{Consumes, IsAtEnd}
use Rattle.rtr_base.specs.Bytes.{IsBytes}
use Rattle.rtr_units.specs.StopCauses.{Refusal, short, unit_type, too_long, unit_length}
use Rattle.rtr_units.specs.StopCauses.{Cause, by_reader, by_writer, too_many, no_memory, wrong}
use Rattle.rtr_units.specs.StopCauses.{cause_of}
use Rattle.rtr_units.specs.Header.{type_field, length_field}
use Rattle.rtr_units.specs.Stream.{BeginsWithTaken, FallsShort}
use Rattle.rtr_units.specs.StopCauses.{ReaderState, reader_count}
use Rattle.rtr_units.specs.HeaderBytes.{AreBytes}
use Rattle.rtr_units.specs.declared.fault.Fault.{Fault}

-- A kind of unit: what is wrong with the header that a list begins with, none where it is in order,
-- and whether memory may be asked for where these bytes of a unit were read.
pub record Kind : Type 0 where
  pub fault : List ℕ → Option Refusal
  pub asks : List ℕ → Bool

-- the length field n has to be m
abbrev pub exact_length : ℕ → ℕ → Option Refusal
exact_length m n = if n == m then None else Some unit_length

-- the length field n has to be m at least, and 65535 at most (that limit as in the Rust crate
-- `rpki`)
abbrev pub least_length : ℕ → ℕ → Option Refusal
least_length m n = if nat_lt 65535 n then Some too_long
    else if nat_lt n m then Some unit_length
    else None

-- the units of n bytes
abbrev pub of_size : ℕ → Kind
of_size n = record { fault = λ u. exact_length n (length_field u); asks = λ u. false }

-- those of a kind that have type p, which is checked first
abbrev pub of_type : ℕ → Kind → Kind
of_type p kind = record {
  fault = λ u. if type_field u == p then kind.fault u else Some (unit_type (type_field u));
  asks = kind.asks;
}

-- the units that are read past, of any type: a header at least
abbrev pub any_unit : Kind
any_unit = record { fault = λ u. least_length 8 (length_field u); asks = λ u. false }

-- u is a whole unit: its header is in order, and it is as long as that says
pub record IsWhole (kind : Kind) (u : List ℕ) : Type 0 where
  pub header : 8 ≤ length u
  pub in_order : kind.fault u ≡ None
  pub size : length u ≡ length_field u
  pub are_bytes : IsBytes u

-- h is less than a whole unit, and nothing is wrong but that
abbrev pub IsPart : Kind → List ℕ → Type 0
IsPart kind h = 8 ≤ length h → (kind.fault h ≡ None) × (length h < length_field h)

-- Memory is asked for where the bytes h of a unit were read: they are its header, which is in
-- order, or all of the unit.
pub record AsksAfter (kind : Kind) (h : List ℕ) : Type 0 where
  pub header : 8 ≤ length h
  pub asks : IsTrue (kind.asks h)
  pub in_order : kind.fault h ≡ None
  pub place : (length h ≡ 8) ⊎ (length h ≡ length_field h)

-- Why reading a unit stopped where the bytes h of it were read; `left` is what the reader then has.
-- What is wrong with a header stops it right after the header.
abbrev pub Stops : Kind → Cause → List ℕ → Option (List ℕ) → Type 0
Stops kind by_reader h left = IsPart kind h
Stops kind by_writer h left = ⊥
Stops kind too_many h left = ⊥
Stops kind no_memory h left = AsksAfter kind h
Stops kind (wrong short) h left = IsPart kind h × IsAtEnd left
Stops kind (wrong fault) h left = (length h ≡ 8) × (kind.fault h ≡ Some fault)

-- some bytes t were taken, of which `Holds` says more; `left` is what the reader then has
abbrev pub Takes : Option (List ℕ) → Option (List ℕ) → (List ℕ → Type 0) → Type 0
Takes old left Holds = (t : List ℕ) × Consumes old left t × Holds t

-- the answer of a call, with what was read by its bytes and each fault by its cause
abbrev pub by_bytes : {T : Type 0} → (T → List ℕ) → Result T Fault → Result (List ℕ) Cause
by_bytes bytes (Ok x) = Ok (bytes x)
by_bytes bytes (Err f) = Err (cause_of f)

-- what a call that reads n bytes leaves
abbrev pub FillsPiece : ℕ → Result (List ℕ) Cause → ReaderState → ReaderState → Type 0
FillsPiece n answer old new =
    MatchResult answer (λ piece. Consumes old.left new.left piece × AreBytes n piece)
    (λ c. Takes old.left new.left (λ t. FallsShort n c t new.left))
    × (new.failed ≡ reader_count answer old.failed)

-- A call read a unit, or stopped. The bytes `before` of the unit were taken before the call: none
-- or its header.
abbrev pub ReadsBytes : Kind → List ℕ → Result (List ℕ) Cause → Option (List ℕ) →
    Option (List ℕ) → Type 0
ReadsBytes kind before (Ok u) old left = Takes old left (λ t. u ≡ before ++ t) × IsWhole kind u
ReadsBytes kind before (Err c) old left = Takes old left (λ t. Stops kind c (before ++ t) left)

-- what such a call leaves, said by the state of the reader
abbrev pub Reads : Kind → List ℕ → Result (List ℕ) Cause → ReaderState → ReaderState → Type 0
Reads kind before answer old new =
    ReadsBytes kind before answer old.left new.left ×
    (new.failed ≡ reader_count answer old.failed)

-- A call read the rest of a unit after its header h, or stopped.
abbrev pub ReadsAfter : Kind → List ℕ → Result (List ℕ) Cause → ReaderState → ReaderState → Type 0
ReadsAfter kind h answer old new = AreBytes 8 h × Reads kind h answer old new

-- What is left of the unit u into which the rest after a header h was to be read, where reading
-- stopped: at the length field the unit as it was, and inside the unit the header and then the
-- bytes taken, at the front of v's bytes.
abbrev pub LeavesUnit : {U : Type 0} → (U → List ℕ) → List ℕ → Cause → (u v : U) → Option (List ℕ) →
    Option (List ℕ) → Type 0
LeavesUnit bytes h (wrong unit_length) u v old left = v ≡ u
LeavesUnit bytes h cause u v old left = (rest : List ℕ) × BeginsWithTaken old left rest ×
    (bytes v ≡ h ++ rest)
