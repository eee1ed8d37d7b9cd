-- The bytes that an action sends: a query, or the report of an ending, or none.
use native.Mathlib.Omega.{arith}
use Rattle.std.proofs.Common.{◌≡◌, ℕ, ◌+◌, ◌≤◌, true, false, List, length, Option, Some, None}
use Rattle.std.proofs.Common.{◌≢◌, if◌then◌else◌, refl}
use Rattle.rtr_base.specs.declared.error_code.ErrorCode.{ErrorCode}
use Rattle.rtr_units.specs.Queries.{bare_list, serial_list}
use Rattle.unit_views.specs.Placing.{Places}
use Rattle.unit_any.specs.HeldReports.{held_report}
use Rattle.session_router.specs.declared.event.Ending.{Ending}
use Rattle.session_router.specs.declared.event.Event.TheVariants as events
use Rattle.session_router.specs.declared.head.Query.{Query}
use Rattle.session_router.specs.declared.router.Phase.{Phase}
use Rattle.session_router.specs.declared.router.Phase.TheVariants as phases
use Rattle.session_bytes.specs.Sent.{PlacesEnding, about, ending_text, query_bytes}
use Rattle.session_bytes.specs.declared.refusal.Refusal.{Refusal}
use Rattle.session_client.specs.Said.{given_up, report_bytes}

pub owed : (v : ℕ) (x : Ending) (r : Option Refusal) (b : List ℕ) (n : Option ℕ)
    (before after : List ℕ) (o : Option ErrorCode) (code : ErrorCode) → o ≡ Some code →
    PlacesEnding v (record x { report = o }) r b n before after →
    Places n (report_bytes v o x r b) before after
owed v x r b n before after None code is placed = absurd (let e = is in cc)
owed v x r b n before after (Some c) code is placed = placed

-- the event of a caller that gives up

pub given_lost : (p : Phase) → p ≢ phases.Reading → p ≢ phases.Applying → given_up p ≡ events.Lost
given_lost phases.Offline r a = refl
given_lost phases.Connecting r a = refl
given_lost phases.Asked r a = refl
given_lost phases.Reading r a = absurd (r refl)
given_lost phases.Applying r a = absurd (a refl)
given_lost phases.Waiting r a = refl

-- none is longer than 65,535 bytes

within : (a b : ℕ) → a ≤ a + b
within a b = omega arith

pub query_short : (q : Query) → length (query_bytes q) ≤ 65535
query_short q =
    elim q.changes as (λ c. length
    (if c then serial_list q.version 1 q.session q.serial else bare_list q.version 2 0) ≤ 65535)
    [ true ↦ within 12 65523 | false ↦ within 8 65527 ]

pub report_short : ((v c : ℕ) (p t : List ℕ) → length (held_report v c p t) ≤ 65535) →
    (v : ℕ) (o : Option ErrorCode) (x : Ending) (r : Option Refusal) (b : List ℕ) →
    length (report_bytes v o x r b) ≤ 65535
report_short most v None x r b = within 0 65535
report_short most v (Some code) x r b = most v code.0 (about r b) (ending_text x.cause r)
