-- What a cache sends, but for data and changes (RFC 8210 sections 5.2, 5.5, 5.9 and 5.11; the texts
-- are this library's own).
use Rattle.std.specs.Prelude.{◌≡◌, ℕ, List, [], Option, Some, None, codes}
use Rattle.rtr_units.specs.Queries.{bare_list, serial_list}
use Rattle.unit_views.specs.Placing.{Places}
use Rattle.unit_any.specs.HeldReports.{held_report}
use Rattle.session_cache.specs.ReasonTexts.{reason_text}
use Rattle.session_cache.specs.declared.event.Answer.{Answer}
use Rattle.session_cache.specs.declared.event.Answer.TheVariants as answers
use Rattle.session_cache.specs.declared.event.OwedReport.{OwedReport}
use Rattle.session_cache.specs.declared.event.Present.{Present}
use Rattle.session_cache.specs.declared.event.Reason.{Reason}
use Rattle.session_cache.specs.declared.event.Reason.TheVariants as reasons
use Rattle.session_bytes.specs.Sent.{about, refusal_text, unit_part}
use Rattle.session_bytes.specs.declared.refusal.Refusal.{Refusal}

-- ---- the unit that an answer begins with

-- A cache response, before data and changes (section 5.5); a cache reset, where the session is zero
-- (section 5.9); a notify (section 5.2).
abbrev pub opening_bytes : (version : ℕ) → Answer → Present → Option (List ℕ)
opening_bytes v answers.All p = Some (bare_list v 3 p.session)
opening_bytes v (answers.Changes since) p = Some (bare_list v 3 p.session)
opening_bytes v answers.Reset p = Some (bare_list v 8 0)
opening_bytes v answers.Notify p = Some (serial_list v 0 p.session p.serial)
opening_bytes v answers.Wait p = None
opening_bytes v answers.NoData p = None
opening_bytes v (answers.End x) p = None

-- These bytes are placed; or there are none, and nothing is written.
abbrev pub PlacesSome : Option (List ℕ) → Option ℕ → (before after : List ℕ) → Type 0
PlacesSome (Some b) n before after = Places n b before after
PlacesSome None n before after = (n ≡ None) × (after ≡ before)

abbrev pub PlacesOpening : (version : ℕ) → Answer → Present → Option ℕ →
    (before after : List ℕ) → Type 0
PlacesOpening v a p n before after = PlacesSome (opening_bytes v a p) n before after

-- ---- the report that an answer owes, about the unit that b begins with

abbrev pub about_reason : Reason → Option Refusal → List ℕ → List ℕ
about_reason reasons.Full r b = []
about_reason reason r b = about r b

abbrev pub closing_text : Reason → Option Refusal → List ℕ
closing_text reasons.Faulty (Some r) = refusal_text r
closing_text reason r = reason_text reason

abbrev pub closing_report : Option OwedReport → Reason → Option Refusal → List ℕ →
    Option (List ℕ)
closing_report (Some owed) reason r b =
    Some (held_report owed.version owed.code.0 (about_reason reason r b) (closing_text reason r))
closing_report None reason r b = None

-- Before the first data it has code 2 (section 12), and the connection stays.
abbrev pub answer_report : (version : ℕ) → Answer → Option Refusal → List ℕ → Option (List ℕ)
answer_report v answers.NoData r b =
    Some (held_report v 2 (unit_part b) (codes "the cache has no data yet"))
answer_report v (answers.End x) r b = closing_report x.report x.reason r b
answer_report v _ r b = None

abbrev pub PlacesServed : (version : ℕ) → Answer → Option Refusal → List ℕ → Option ℕ →
    (before after : List ℕ) → Type 0
PlacesServed v a r b n before after = PlacesSome (answer_report v a r b) n before after
