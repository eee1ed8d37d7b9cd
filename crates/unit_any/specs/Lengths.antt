-- What a header says of its unit's length (RFC 8210 section 5.1), before the whole unit is there.
-- The faults, and which comes first, are this library's own.
use Rattle.std.specs.Prelude.{◌≡◌, ℕ, ◌%◌, ◌<◌, ◌≤◌, List, length, Option, Some, None}
use Rattle.std.specs.Prelude.{Result, Ok, Err}
use Rattle.rtr_units.specs.Header.{length_field}
use Rattle.unit_views.specs.Faults.{NamesRefusal}
use Rattle.unit_views.specs.declared.fault.ViewFault.{ViewFault}
use Rattle.unit_any.specs.SessionKinds.{session_unit}

-- What is said of the length of the unit that b begins: nothing of fewer than the 8 bytes of a
-- header; the length field, where the header is in order; or the fault of the header.
abbrev pub SaysLength : List ℕ → Result (Option ℕ) ViewFault → Type 0
SaysLength b (Ok None) = length b < 8
SaysLength b (Ok (Some n)) = (8 ≤ length b) × (session_unit.fault b ≡ None) × (n ≡ length_field b)
SaysLength b (Err e) = (8 ≤ length b) × NamesRefusal b (session_unit.fault b) e

-- The lengths n that units of the version v and the type t may have: of a fixed size by RFC 8210
-- sections 5.2 to 5.9, and RFC 6810 section 5.8; of the others by RFC 8210 sections 5.10 and 5.11,
-- of ASPA units as in the Rust crate, and at most 65535 as there.
pub record IsBounded (v t n : ℕ) : Type 0 where
  pub notify : t ≡ 0 → n ≡ 12
  pub query : t ≡ 1 → n ≡ 12
  pub reset_query : t ≡ 2 → n ≡ 8
  pub response : t ≡ 3 → n ≡ 8
  pub ipv4 : t ≡ 4 → n ≡ 20
  pub ipv6 : t ≡ 6 → n ≡ 32
  pub end_untimed : t ≡ 7 → v ≡ 0 → n ≡ 12
  pub end_timed : t ≡ 7 → 1 ≤ v → n ≡ 24
  pub reset : t ≡ 8 → n ≡ 8
  pub key : t ≡ 9 → 32 ≤ n
  pub report : t ≡ 10 → 16 ≤ n
  pub aspa : t ≡ 11 → (12 ≤ n) × (n % 4 ≡ 0)
  pub least : 8 ≤ n
  pub most : n ≤ 65535
