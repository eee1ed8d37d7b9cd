-- What a router and a cache of ours write, in bytes (RFC 8210 section 5).
use Rattle.std.specs.Prelude.{◌≡◌, ◌<◌, ◌^◌, ◌==◌, ℕ, true, List, [], ◌++◌, Option, Some, None}
use Rattle.std.specs.Prelude.{if◌then◌else◌}
use Rattle.std.specs.List.{AllByRecursion}
use Rattle.rtr_units.specs.End.{EndMeaning, end_list}
use Rattle.rtr_units.specs.Queries.{bare_list, serial_list}
use Rattle.unit_any.specs.AnyFields.{HasAnyFields, error_report}
use Rattle.data_memory.specs.Data.{Change}
use Rattle.data_memory.specs.Deltas.{all_for, change_forms, changes_for}
use Rattle.data_memory.specs.Sequences.{IsSendable}
use Rattle.session_router.specs.declared.event.Action.{Action}
use Rattle.session_router.specs.declared.event.Action.TheVariants as actions
use Rattle.session_cache.specs.declared.event.Answer.{Answer}
use Rattle.session_cache.specs.declared.event.Answer.TheVariants as answers
use Rattle.session_cache.specs.declared.event.OwedReport.{OwedReport}
use Rattle.session_cache.specs.Worlds.{IsIn}
use Rattle.session_bytes.specs.Sent.{query_bytes}
use Rattle.session_laws.specs.Editions.{PayloadEdition}

-- ---- numbers and payloads, as their types keep them

pub record FitsEdition (e : PayloadEdition) : Type 0 where
  pub session : e.name.session < 2 ^ 16
  pub serial : e.name.serial < 2 ^ 32
  pub payloads : AllByRecursion (λ p. IsSendable p) e.payloads
  pub refresh : e.refresh < 2 ^ 32
  pub retry : e.retry < 2 ^ 32
  pub expire : e.expire < 2 ^ 32

-- the numbers of the query that an action sends
abbrev pub FitsAction : Action → Type 0
FitsAction (actions.Ask q) = (q.version < 2 ^ 8) × (q.session < 2 ^ 16) × (q.serial < 2 ^ 32)
FitsAction _ = Unit {0}

-- ---- the router

-- A query (sections 5.3 and 5.4). After a report the connection ends, and so it is left out.
abbrev pub router_bytes : Action → List ℕ
router_bytes (actions.Ask q) = query_bytes q
router_bytes _ = []

-- ---- the cache

-- the end of the present data; in version 0 it names no times (section 5.8, RFC 6810 section 5.8)
abbrev pub end_of_edition : (version : ℕ) → PayloadEdition → EndMeaning
end_of_edition v e = record {
  version = v;
  session = e.name.session;
  serial = e.name.serial;
  timing =
      if v == 0
      then None
      else Some (record { refresh = e.refresh; retry = e.retry; expire = e.expire });
}

-- A cache response, the units of these changes as `write_all`, `write_delta` and `delta_into` write
-- them, and an end of data (sections 5.5 and 8.2).
abbrev pub response_bytes : (version : ℕ) → (present : PayloadEdition) → List Change → List ℕ
response_bytes v p cs =
    bare_list v 3 p.name.session ++ (change_forms v cs ++ end_list (end_of_edition v p))

-- an error report of this version and code, about any unit and with any text (section 5.11)
abbrev pub IsReportOf : (version code : ℕ) → List ℕ → Type 0
IsReportOf v code b = (body : List ℕ) × HasAnyFields b (error_report v code body)

abbrev pub IsOwed : Option OwedReport → List ℕ → Type 0
IsOwed None b = b ≡ []
IsOwed (Some r) b = IsReportOf r.version r.code.0 b

-- What the cache's caller writes at an answer: nothing; all data, or the changes from `old`; a
-- cache reset (section 5.9); a report that there are no data; a serial notify (section 5.2); the
-- report that is owed.
abbrev pub CacheWrites : (version : ℕ) → (old present : PayloadEdition) → Answer → List ℕ → Type 0
CacheWrites v old p answers.Wait b = b ≡ []
CacheWrites v old p answers.All b = b ≡ response_bytes v p (all_for v p.payloads)
CacheWrites v old p (answers.Changes since) b =
    b ≡ response_bytes v p (changes_for v old.payloads p.payloads)
CacheWrites v old p answers.Reset b = b ≡ bare_list v 8 0
CacheWrites v old p answers.NoData b = IsReportOf v 2 b
CacheWrites v old p answers.Notify b = b ≡ serial_list v 0 p.name.session p.name.serial
CacheWrites v old p (answers.End x) b = IsOwed x.report b

-- Changes are those from an edition that the cache had: of the present session, at the serial
-- number that its answer names.
abbrev pub IsSentFrom : List PayloadEdition → (present : PayloadEdition) → Answer
    → PayloadEdition → Type 0
IsSentFrom had p (answers.Changes since) old =
    (old.name.has ≡ true) × IsIn had old × (old.name.session ≡ p.name.session)
    × (old.name.serial ≡ since)
IsSentFrom had p _ old = Unit {0}
