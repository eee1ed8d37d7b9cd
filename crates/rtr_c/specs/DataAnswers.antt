-- What C gets of a call on data and changes (this library's own).
use Rattle.std.specs.Prelude.{◌≡◌, ℕ, Result, Ok, Err}
use Rattle.data_slices.specs.declared.fault.ApplyFault.{ApplyFault}
use Rattle.data_slices.specs.declared.fault.ApplyFault.TheVariants as applied
use Rattle.data_slices.specs.declared.fault.DeltaFault.{DeltaFault}
use Rattle.data_slices.specs.declared.fault.DeltaFault.TheVariants.{Old, New, UnitVersion, Session}
use Rattle.data_slices.specs.declared.fault.DeltaFault.TheVariants.{NoRoom}
use Rattle.data_slices.specs.declared.fault.Flaw.{Flaw}
use Rattle.data_slices.specs.declared.fault.Reason.{Reason}
use Rattle.data_slices.specs.declared.fault.Reason.TheVariants.{Refused, NotCanonical}
use Rattle.data_slices.specs.declared.in_order_fault.InOrderFault.{InOrderFault}
use Rattle.data_slices.specs.declared.in_order_fault.InOrderFault.TheVariants as in_order
use Rattle.data_slices.specs.declared.order_fault.OrderFault.{OrderFault}
use Rattle.data_slices.specs.declared.order_fault.OrderFault.TheVariants as ordered
use Rattle.rtr_c.specs.Answers.{rtr_duplicate, rtr_unknown, rtr_undecided, rtr_no_index}
use Rattle.rtr_c.specs.Answers.{rtr_ok, rtr_unit_version, rtr_no_room, rtr_not_canonical}
use Rattle.rtr_c.specs.Answers.{rtr_other_session, fault_status, fault_detail}
use Rattle.rtr_c.specs.declared.data_answer.RtrDataAnswer.{RtrDataAnswer}

-- this many bytes were written
abbrev pub written_told : ℕ → RtrDataAnswer
written_told n = record { written = n; offset = 0; status = rtr_ok; side = 0; detail = 0 }

-- refused, for what stands at this offset of the first input or of the second
abbrev pub side_told : (side offset status detail : ℕ) → RtrDataAnswer
side_told i o s d = record { written = 0; offset = o; status = s; side = i; detail = d }

-- refused, for what isn't in one input alone
abbrev pub refused_told : (status detail : ℕ) → RtrDataAnswer
refused_told s d = side_told 0 0 s d

abbrev pub reason_status : Reason → ℕ
reason_status (Refused e) = fault_status e
reason_status NotCanonical = rtr_not_canonical

abbrev pub reason_detail : Reason → ℕ
reason_detail (Refused e) = fault_detail e
reason_detail NotCanonical = 0

-- the first flaw of an input
abbrev pub flaw_told : (side : ℕ) → Flaw → RtrDataAnswer
flaw_told i f = side_told i f.offset (reason_status f.reason) (reason_detail f.reason)

-- an answer, and its status as the call's
abbrev pub TellsData : (told answer : RtrDataAnswer) → (code : ℕ) → Type 0
TellsData told a code = (a ≡ told) × (code ≡ told.status)

-- ---- each call

abbrev pub delta_told : Result ℕ DeltaFault → RtrDataAnswer
delta_told (Ok n) = written_told n
delta_told (Err (Old f)) = flaw_told 1 f
delta_told (Err (New f)) = flaw_told 2 f
delta_told (Err (UnitVersion v)) = refused_told rtr_unit_version v
delta_told (Err (Session s)) = refused_told rtr_other_session 0
delta_told (Err NoRoom) = refused_told rtr_no_room 0

abbrev pub apply_told : Result ℕ ApplyFault → RtrDataAnswer
apply_told (Ok n) = written_told n
apply_told (Err (applied.Data f)) = flaw_told 1 f
apply_told (Err (applied.Changes f)) = flaw_told 2 f
apply_told (Err (applied.UnitVersion v)) = refused_told rtr_unit_version v
apply_told (Err (applied.Session s)) = refused_told rtr_other_session 0
apply_told (Err (applied.Duplicate offset)) = side_told 2 offset rtr_duplicate 0
apply_told (Err (applied.Unknown offset)) = side_told 2 offset rtr_unknown 0
apply_told (Err applied.NoRoom) = refused_told rtr_no_room 0

abbrev pub in_order_told : Result ℕ InOrderFault → RtrDataAnswer
in_order_told (Ok n) = written_told n
in_order_told (Err (in_order.Data f)) = flaw_told 1 f
in_order_told (Err (in_order.Changes f)) = flaw_told 2 f
in_order_told (Err (in_order.UnitVersion v)) = refused_told rtr_unit_version v
in_order_told (Err (in_order.Session s)) = refused_told rtr_other_session 0
in_order_told (Err in_order.NoIndex) = refused_told rtr_no_index 0
in_order_told (Err (in_order.Duplicate offset)) = side_told 2 offset rtr_duplicate 0
in_order_told (Err (in_order.Unknown offset)) = side_told 2 offset rtr_unknown 0
in_order_told (Err in_order.NoRoom) = refused_told rtr_no_room 0

abbrev pub order_told : Result ℕ OrderFault → RtrDataAnswer
order_told (Ok n) = written_told n
order_told (Err (ordered.Flaw f)) = flaw_told 1 f
order_told (Err ordered.NoIndex) = refused_told rtr_no_index 0
order_told (Err (ordered.Duplicate offset)) = side_told 1 offset rtr_duplicate 0
order_told (Err (ordered.Unknown offset)) = side_told 1 offset rtr_unknown 0
order_told (Err (ordered.Undecided offset)) = side_told 1 offset rtr_undecided 0
order_told (Err ordered.NoRoom) = refused_told rtr_no_room 0
