-- What C gets of the line of a unit (this library's own).
use Rattle.std.specs.Prelude.{◌≡◌, ◌<◌, ℕ, List, length, take, nat_le, if◌then◌else◌}
use Rattle.std.specs.Prelude.{Bool, true, false, Option, Some, None, Result, Ok, Err}
use Rattle.unit_views.specs.declared.fault.ViewFault.{ViewFault}
use Rattle.unit_any.specs.AnyFields.{AnyFields, HasAnyFields}
use Rattle.text_lines.specs.Laying.{Lays}
use Rattle.rtr_c.specs.Answers.{rtr_ok, rtr_short, rtr_no_room, fault_status, fault_detail}
use Rattle.rtr_c.specs.declared.lines.RtrLine.{RtrLine}

-- no line, for this status
abbrev pub no_line : (status detail wanted : ℕ) → RtrLine
no_line status detail wanted =
    record { size = 0; length = 0; wanted = wanted; status = status; detail = detail }

-- why there is none, by what the header says: not all of the unit is there, or it is refused
abbrev pub HasNoLine : Result (Option ℕ) ViewFault → List ℕ → RtrLine → Type 0
HasNoLine (Ok None) input a = a ≡ no_line rtr_short 0 8
HasNoLine (Ok (Some n)) input a = (length input < n) × (a ≡ no_line rtr_short 0 n)
HasNoLine (Err e) input a = a ≡ no_line (fault_status e) (fault_detail e) 0

-- there is no line, and the output is as it was
abbrev pub TellsNone : RtrLine → (before after : List ℕ) → RtrLine → ℕ → Type 0
TellsNone none before after a code = (a ≡ none) × (after ≡ before) × (code ≡ none.status)

-- whether a line of this length fits an output of that
abbrev pub line_status : ℕ → ℕ → ℕ
line_status needed room = if nat_le needed room then rtr_ok else rtr_no_room

-- The text of the unit, which has these bytes, was laid over the front of the output, as far as
-- that has room; its length is answered in full.
pub record TellsLaid (text : AnyFields → List ℕ) (unit before after : List ℕ) (a : RtrLine)
    (code : ℕ) : Type 0 where
  pub size : a.size ≡ length unit
  pub wanted : a.wanted ≡ 0
  pub detail : a.detail ≡ 0
  pub status : a.status ≡ line_status a.length (length before)
  pub answered : code ≡ line_status a.length (length before)
  pub laid : (f : AnyFields) → HasAnyFields unit f → Lays (text f) 0 before a.length after

-- of a unit of this length: its text where all of it is there, and else what is wanted
abbrev pub TellsUnit : Bool → (AnyFields → List ℕ) → ℕ → (input before after : List ℕ) → RtrLine →
    ℕ → Type 0
TellsUnit true text n input before after a code =
    TellsLaid text (take n input) before after a code
TellsUnit false text n input before after a code =
    TellsNone (no_line rtr_short 0 n) before after a code

-- by what the header says
abbrev pub TellsLine : (AnyFields → List ℕ) → Result (Option ℕ) ViewFault →
    (input before after : List ℕ) → RtrLine → ℕ → Type 0
TellsLine text (Ok None) input before after a code =
    TellsNone (no_line rtr_short 0 8) before after a code
TellsLine text (Ok (Some n)) input before after a code =
    TellsUnit (nat_le n (length input)) text n input before after a code
TellsLine text (Err e) input before after a code =
    TellsNone (no_line (fault_status e) (fault_detail e) 0) before after a code
