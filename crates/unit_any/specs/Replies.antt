-- What answers a fault: the error report that is owed to the peer, written into a slice (RFC 8210
-- section 5.11; the answers are this library's own).
use Rattle.std.specs.Prelude.{◌≡◌, ℕ, List, Option, Some, None, option_map}
use Rattle.rtr_units.specs.Header.{type_field}
use Rattle.unit_views.specs.OwedCodes.{owed}
use Rattle.unit_views.specs.Placing.{Places}
use Rattle.unit_any.specs.HeldReports.{held_report}
use Rattle.unit_any.specs.declared.answering.Reply.{Reply}
use Rattle.unit_any.specs.declared.answering.Reply.TheVariants as replies

-- The report that a fault of this code owes the peer, in version v and with the text t: it holds
-- the bytes p of the refused unit, or as many as there is room for. None is owed where the fault
-- has no code, nor where p is of an error report.
abbrev pub owed_report : ℕ → Option ℕ → (p t : List ℕ) → Option (List ℕ)
owed_report v code p t = option_map (λ c. held_report v c p t) (owed (type_field p) code)

-- The report that is owed was written to the front of the slice; or none is owed, or there is no
-- room for it, and the slice is as it was.
abbrev pub Replies : Reply → Option (List ℕ) → (before after : List ℕ) → Type 0
Replies (replies.Report n) owed before after =
    (r : List ℕ) × (owed ≡ Some r) × Places (Some n) r before after
Replies replies.Nothing owed before after = (owed ≡ None) × (after ≡ before)
Replies replies.NoRoom owed before after =
    (r : List ℕ) × (owed ≡ Some r) × Places None r before after
