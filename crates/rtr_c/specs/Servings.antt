-- What a cache's machine answers, as C is told (this library's own).
use Rattle.std.specs.Prelude.{◌≡◌, ℕ, Bool, true, false, List, Option, Some, None, ◌==◌}
use Rattle.std.specs.Prelude.{if◌then◌else◌}
use Rattle.std.specs.Option.{is_some, unwrap_or}
use Rattle.session_cache.specs.declared.event.Answer.{Answer}
use Rattle.session_cache.specs.declared.event.Answer.TheVariants as answers
use Rattle.session_cache.specs.declared.event.CacheEvent.{CacheEvent}
use Rattle.session_cache.specs.declared.event.Closing.{Closing}
use Rattle.session_cache.specs.declared.event.OwedReport.{OwedReport}
use Rattle.session_cache.specs.declared.event.Present.{Present}
use Rattle.session_cache.specs.declared.event.Reason.{Reason}
use Rattle.session_cache.specs.declared.event.Reason.TheVariants as reasons
use Rattle.session_cache.specs.CacheSteps.{IsCacheStep}
use Rattle.session_bytes.specs.Answered.{PlacesServed}
use Rattle.session_bytes.specs.declared.serving.Served.{Served}
use Rattle.session_bytes.specs.declared.serving.Served.TheVariants as served
use Rattle.rtr_c.specs.Answers.{fault_status, fault_detail, wanted}
use Rattle.rtr_c.specs.Caches.{cache_of, present_of}
use Rattle.rtr_c.specs.RouterActions.{refusal_at}
use Rattle.rtr_c.specs.declared.cache.RtrCache.{RtrCache}
use Rattle.rtr_c.specs.declared.cache.RtrPresent.{RtrPresent}
use Rattle.rtr_c.specs.declared.serving.RtrServing.{RtrServing}

abbrev pub bare_serving : (kind version : ℕ) → RtrServing
bare_serving kind v = record {
  taken = 0;
  wanted = 0;
  serial = 0;
  session = 0;
  code = 0;
  kind = kind;
  version = v;
  reason = 0;
  status = 0;
  detail = 0;
  reports = false;
}

abbrev pub reason_number : Reason → ℕ
reason_number reasons.Lost = 0
reason_number reasons.Slow = 1
reason_number reasons.Full = 2
reason_number reasons.Faulty = 3
reason_number reasons.Reported = 4
reason_number reasons.NoQuery = 5
reason_number reasons.OtherVersion = 6
reason_number reasons.NoVersion = 7
reason_number reasons.NewSession = 8
reason_number reasons.Unknown = 9

-- of a number that is none, that the connection is gone
abbrev pub numbered_reason : ℕ → Reason
numbered_reason n =
    if n == 1 then reasons.Slow
    else if n == 2 then reasons.Full
    else if n == 3 then reasons.Faulty
    else if n == 4 then reasons.Reported
    else if n == 5 then reasons.NoQuery
    else if n == 6 then reasons.OtherVersion
    else if n == 7 then reasons.NoVersion
    else if n == 8 then reasons.NewSession
    else if n == 9 then reasons.Unknown
    else reasons.Lost

abbrev owed_told : Option OwedReport → (reason : ℕ) → RtrServing
owed_told None reason = record (bare_serving 6 0) { reason = reason }
owed_told (Some owed) reason = record (bare_serving 6 owed.version) {
  code = owed.code.0;
  reason = reason;
  reports = true;
}

abbrev pub closing_told : Closing → RtrServing
closing_told x = owed_told x.report (reason_number x.reason)

-- this session and serial number beside an answer
abbrev with_state : RtrServing → (session serial : ℕ) → RtrServing
with_state a session serial = record a { session = session; serial = serial }

-- an answer of a machine that has this version after it, where these are the newest data
abbrev pub answer_told : Answer → (version : ℕ) → Present → RtrServing
answer_told answers.Wait v p = bare_serving 0 0
answer_told answers.All v p = with_state (bare_serving 1 v) p.session p.serial
answer_told (answers.Changes since) v p = with_state (bare_serving 2 v) p.session since
answer_told answers.Reset v p = bare_serving 3 v
answer_told answers.NoData v p = record (bare_serving 4 v) { code = 2; reports = true }
answer_told answers.Notify v p = with_state (bare_serving 5 v) p.session p.serial
answer_told (answers.End x) v p = closing_told x

-- what came of the unit that an input begins with
abbrev pub unit_told : Served → (input : List ℕ) → (version : ℕ) → Present → RtrServing
unit_told served.Awaits input v p = record (bare_serving 0 0) { wanted = wanted input }
unit_told (served.Answered size a) input v p = record (answer_told a v p) { taken = size }
unit_told (served.Refused e a) input v p =
    record (answer_told a v p) { status = fault_status e; detail = fault_detail e }

-- a step of the machine that the structs stand for
pub record IsServingStep (c : RtrCache) (n : ℕ) (p : RtrPresent) (e : CacheEvent) (a : RtrServing)
    (c' : RtrCache) : Type 0 where
  pub answer : Answer
  pub told : a ≡ answer_told answer c'.version (present_of p)
  pub step : IsCacheStep (cache_of c) n (present_of p) e answer (cache_of c')

-- ---- what is sent

abbrev pub closing_of : RtrServing → Closing
closing_of a = record {
  report =
      if a.reports then Some (record { version = a.version; code = record { 0 = a.code } })
      else None;
  reason = numbered_reason a.reason;
}

abbrev pub served_of : RtrServing → Answer
served_of a =
    if a.kind == 1 then answers.All
    else if a.kind == 2 then answers.Changes a.serial
    else if a.kind == 3 then answers.Reset
    else if a.kind == 4 then answers.NoData
    else if a.kind == 5 then answers.Notify
    else if a.kind == 6 then answers.End (closing_of a)
    else answers.Wait

-- the data that are sent, or those that changes lead from
abbrev pub state_of : RtrServing → Present
state_of a = record { has = true; session = a.session; serial = a.serial }

-- the report that an answer owes is written, or none, and whether that is so
abbrev pub PlacesAnswer : RtrServing → List ℕ → (before after : List ℕ) → (written : ℕ) → Bool →
    Type 0
PlacesAnswer a input before after written said =
    (n : Option ℕ)
    × PlacesServed a.version (served_of a) (refusal_at a.status a.detail) input n before after
    × (written ≡ unwrap_or n 0) × (said ≡ is_some n)
