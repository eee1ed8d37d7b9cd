-- What numbers of the protocol say to C (this library's own numbers for them).
use Rattle.std.specs.Prelude.{◌≡◌, ℕ, Bool, true, false, not, List, Option, Some, None}
use Rattle.std.specs.Prelude.{nat_lt, nat_le, ◌==◌, ◌&&◌, if◌then◌else◌}
use Rattle.std.specs.Option.{option_map}
use Rattle.std.specs.declared.cmp.Ordering.{Ordering}
use Rattle.std.specs.declared.cmp.Ordering.TheVariants.{Less, Equal, Greater}
use Rattle.rtr_units.specs.Header.{type_field}
use Rattle.unit_views.specs.OwedCodes.{owed}
use Rattle.session_bytes.specs.Sent.{refusal_code}
use Rattle.rtr_c.specs.RouterActions.{refusal_at}

-- the order of two serial numbers (RFC 1982 section 3.2)
abbrev pub order_number : Option Ordering → ℕ
order_number (Some Equal) = 0
order_number (Some Less) = 1
order_number (Some Greater) = 2
order_number None = 3

-- The first version that has units of type t: 0 has those of RFC 6810 sections 5.2 to 5.10, 1 also
-- router keys (RFC 8210 section 5.10), 2 also ASPA units (as in the Rust crate).
abbrev pub first_version : ℕ → Option ℕ
first_version t =
    if t == 9 then Some 1
    else if t == 11 then Some 2
    else if not (t == 5) && nat_lt t 11 then Some 0
    else None

-- from the first version v on, and up to version 2
abbrev pub is_since : Option ℕ → ℕ → Bool
is_since None v = false
is_since (Some first) v = nat_le first v && nat_le v 2

abbrev pub has_kind : (version kind : ℕ) → Bool
has_kind v k = is_since (first_version k) v

-- The error code of a status (RFC 8210 section 12): that of the unit or the change which is refused
-- with it, whatever the detail. The others are no fault of the peer's.
abbrev pub status_code : ℕ → Option ℕ
status_code s = option_map refusal_code (refusal_at s 0)

-- none is owed for an error report, which has its type in byte 1 (RFC 8210 section 5.11)
abbrev pub code_owed : ℕ → List ℕ → Option ℕ
code_owed s input = owed (type_field input) (status_code s)

-- a code and that a report is owed, or 0 and that none is
abbrev pub TellsCode : Option ℕ → ℕ → Bool → Type 0
TellsCode (Some c) code said = (code ≡ c) × (said ≡ true)
TellsCode None code said = (code ≡ 0) × (said ≡ false)
