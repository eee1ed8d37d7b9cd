-- What a router sends (RFC 8210 sections 5.3, 5.4 and 5.11; the texts are this library's own).
use Rattle.std.specs.Prelude.{◌≡◌, ℕ, List, length, take, Option, Some, None}
use Rattle.std.specs.Prelude.{nat_lt, if◌then◌else◌}
use Rattle.rtr_base.specs.declared.error_code.ErrorCode.{ErrorCode}
use Rattle.rtr_units.specs.Header.{length_field}
use Rattle.rtr_units.specs.PeerFaults.{fault_name, fault_text, peer_code}
use Rattle.rtr_units.specs.Queries.{bare_list, serial_list}
use Rattle.rtr_units.specs.declared.peer_fault.PeerFault.{PeerFault}
use Rattle.rtr_units.specs.declared.peer_fault.PeerFault.TheVariants as peer_faults
use Rattle.rtr_payload.specs.FirstFault.{text_of}
use Rattle.unit_views.specs.Placing.{Places}
use Rattle.unit_views.specs.declared.fault.ViewFault.{ViewFault}
use Rattle.unit_views.specs.declared.fault.ViewFault.TheVariants as faults
use Rattle.unit_any.specs.HeldReports.{held_report}
use Rattle.session_router.specs.Texts.{cause_text}
use Rattle.session_router.specs.declared.event.Cause.{Cause}
use Rattle.session_router.specs.declared.event.Cause.TheVariants as causes
use Rattle.session_router.specs.declared.event.Ending.{Ending}
use Rattle.session_router.specs.declared.head.Query.{Query}
use Rattle.session_bytes.specs.declared.refusal.Refusal.{Refusal}
use Rattle.session_bytes.specs.declared.refusal.Refusal.TheVariants as refusals

-- a serial query (section 5.3), or a reset query, where the session is zero (section 5.4)
abbrev pub query_bytes : Query → List ℕ
query_bytes q =
    if q.changes then serial_list q.version 1 q.session q.serial else bare_list q.version 2 0

-- ---- refusals

-- those that are the peer's fault
abbrev pub refusal_of : ViewFault → Option Refusal
refusal_of faults.Short = Some refusals.Short
refusal_of (faults.UnitType t) = Some (refusals.UnitType t)
refusal_of (faults.UnitVersion v) = Some (refusals.UnitVersion v)
refusal_of faults.TooLong = Some refusals.TooLong
refusal_of faults.UnitLength = Some refusals.UnitLength
refusal_of faults.EmptyProviders = Some refusals.EmptyProviders
refusal_of (faults.Prefix rule) = Some (refusals.Prefix (Some rule))
refusal_of (faults.Writer e) = None
refusal_of faults.TooMany = None

-- what the peer did wrong, without the part of the rule that a prefix breaks
abbrev pub refusal_fault : Refusal → PeerFault
refusal_fault refusals.Short = peer_faults.Short
refusal_fault (refusals.UnitType t) = peer_faults.UnitType t
refusal_fault (refusals.UnitVersion v) = peer_faults.UnitVersion v
refusal_fault refusals.TooLong = peer_faults.TooLong
refusal_fault refusals.UnitLength = peer_faults.UnitLength
refusal_fault refusals.EmptyProviders = peer_faults.EmptyProviders
refusal_fault (refusals.Prefix rule) = peer_faults.Prefix
refusal_fault refusals.Duplicate = peer_faults.Duplicate
refusal_fault refusals.Unknown = peer_faults.Unknown

abbrev pub refusal_code : Refusal → ℕ
refusal_code r = peer_code (refusal_fault r)

-- its text without its number and the rule that is broken
abbrev pub refusal_name : Refusal → List ℕ
refusal_name r = fault_name (refusal_fault r)

-- its text, in a report too: unit type 5 is not allowed here
abbrev pub refusal_text : Refusal → List ℕ
refusal_text (refusals.Prefix (Some rule)) = text_of rule
refusal_text r = fault_text (refusal_fault r)

-- the unit that b begins with, as far as it is there
abbrev pub unit_part : List ℕ → List ℕ
unit_part b = if nat_lt (length b) 8 then b else take (length_field b) b

-- What a report about the unit that b begins with holds of it: the header alone where that is
-- refused, since its length isn't to be believed (section 5.11 lets such a unit be cut).
abbrev pub refusal_part : Refusal → List ℕ → List ℕ
refusal_part refusals.Short b = b
refusal_part (refusals.Prefix rule) b = unit_part b
refusal_part refusals.Duplicate b = unit_part b
refusal_part refusals.Unknown b = unit_part b
refusal_part r b = take 8 b

-- ---- the report that the end of a connection owes

abbrev pub about : Option Refusal → List ℕ → List ℕ
about (Some r) b = refusal_part r b
about None b = unit_part b

abbrev pub refused_text : Cause → Option Refusal → List ℕ
refused_text c (Some r) = refusal_text r
refused_text c None = cause_text c

abbrev pub ending_text : Cause → Option Refusal → List ℕ
ending_text causes.Faulty r = refused_text causes.Faulty r
ending_text causes.NotApplied r = refused_text causes.NotApplied r
ending_text c r = cause_text c

abbrev PlacesReport : ℕ → Option ErrorCode → Cause → Option Refusal → List ℕ → Option ℕ →
    (before after : List ℕ) → Type 0
PlacesReport v (Some code) c r b n before after =
    Places n (held_report v code.0 (about r b) (ending_text c r)) before after
PlacesReport v None c r b n before after = (n ≡ None) × (after ≡ before)

-- The report of this ending is placed; or none is owed, and nothing is written.
abbrev pub PlacesEnding : ℕ → Ending → Option Refusal → List ℕ → Option ℕ →
    (before after : List ℕ) → Type 0
PlacesEnding v x r b n before after = PlacesReport v x.report x.cause r b n before after
