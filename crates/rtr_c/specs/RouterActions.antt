-- What a router's machine wants done, as C is told (this library's own).
use Rattle.std.specs.Prelude.{◌≡◌, ℕ, Bool, true, false, List, Option, Some, None, ◌==◌}
use Rattle.std.specs.Prelude.{if◌then◌else◌}
use Rattle.std.specs.Option.{is_some, unwrap_or}
use Rattle.rtr_payload.specs.declared.pdu.prefix_rule.PrefixRule.{PrefixRule}
use Rattle.rtr_payload.specs.declared.pdu.prefix_rule.PrefixRule.TheVariants.{LenOverflow}
use Rattle.rtr_payload.specs.declared.pdu.prefix_rule.PrefixRule.TheVariants.{MaxOverflow}
use Rattle.rtr_payload.specs.declared.pdu.prefix_rule.PrefixRule.TheVariants.{MaxUnderflow}
use Rattle.session_router.specs.declared.event.Action.{Action}
use Rattle.session_router.specs.declared.event.Action.TheVariants as actions
use Rattle.session_router.specs.declared.event.Cause.{Cause}
use Rattle.session_router.specs.declared.event.Cause.TheVariants as causes
use Rattle.session_router.specs.declared.event.Ending.{Ending}
use Rattle.session_router.specs.declared.event.Event.{Event}
use Rattle.session_router.specs.declared.head.Query.{Query}
use Rattle.session_router.specs.Step.{IsStep}
use Rattle.session_bytes.specs.Sent.{PlacesEnding}
use Rattle.session_bytes.specs.declared.refusal.Refusal.{Refusal}
use Rattle.session_bytes.specs.declared.refusal.Refusal.TheVariants as refusals
use Rattle.session_bytes.specs.declared.telling.Told.{Told}
use Rattle.session_bytes.specs.declared.telling.Told.TheVariants as told
use Rattle.rtr_c.specs.Answers.{fault_status, fault_detail, wanted}
use Rattle.rtr_c.specs.Routers.{router_of}
use Rattle.rtr_c.specs.declared.router.RtrRouter.{RtrRouter}
use Rattle.rtr_c.specs.declared.router_action.RtrAction.{RtrAction}

abbrev pub plain_action : ℕ → RtrAction
plain_action kind = record {
  start = 0;
  taken = 0;
  wanted = 0;
  serial = 0;
  session = 0;
  code = 0;
  kind = kind;
  version = 0;
  cause = 0;
  status = 0;
  detail = 0;
  changes = false;
  drops = false;
  reports = false;
}

abbrev pub cause_number : Cause → ℕ
cause_number causes.Lost = 0
cause_number causes.Slow = 1
cause_number causes.Faulty = 2
cause_number causes.Reported = 3
cause_number causes.OutOfPlace = 4
cause_number causes.NoSuchPayload = 5
cause_number causes.OtherVersion = 6
cause_number causes.HigherVersion = 7
cause_number causes.OtherSession = 8
cause_number causes.OldSerial = 9
cause_number causes.OtherData = 10
cause_number causes.TooLong = 11
cause_number causes.NotApplied = 12
cause_number causes.Expired = 13
cause_number causes.Lower = 14
cause_number causes.Higher = 15

-- of a number that is none, that the connection is gone
abbrev pub numbered_cause : ℕ → Cause
numbered_cause n =
    if n == 1 then causes.Slow
    else if n == 2 then causes.Faulty
    else if n == 3 then causes.Reported
    else if n == 4 then causes.OutOfPlace
    else if n == 5 then causes.NoSuchPayload
    else if n == 6 then causes.OtherVersion
    else if n == 7 then causes.HigherVersion
    else if n == 8 then causes.OtherSession
    else if n == 9 then causes.OldSerial
    else if n == 10 then causes.OtherData
    else if n == 11 then causes.TooLong
    else if n == 12 then causes.NotApplied
    else if n == 13 then causes.Expired
    else if n == 14 then causes.Lower
    else if n == 15 then causes.Higher
    else causes.Lost

abbrev pub ending_told : Ending → (version : ℕ) → RtrAction
ending_told x v = record (plain_action 9) {
  code = (unwrap_or x.report (record { 0 = 0 })).0;
  version = v;
  cause = cause_number x.cause;
  drops = x.drop;
  reports = is_some x.report;
}

-- an action of a machine that has this version after it
abbrev pub action_told : Action → (version : ℕ) → RtrAction
action_told actions.Wait v = plain_action 0
action_told actions.Connect v = plain_action 1
action_told (actions.Ask q) v = record (plain_action 2) {
  serial = q.serial;
  session = q.session;
  version = q.version;
  changes = q.changes;
}
action_told actions.Begin v = plain_action 3
action_told actions.Keep v = plain_action 4
action_told (actions.Apply changes) v = record (plain_action 5) { changes = changes }
action_told actions.Show v = plain_action 6
action_told actions.NoData v = plain_action 7
action_told actions.Drop v = record (plain_action 8) { cause = 13; drops = true }
action_told (actions.End x) v = ending_told x v

abbrev pub with_status : RtrAction → (status : ℕ) → RtrAction
with_status a s = record a { status = s }

-- what came of the units of an input
abbrev pub read_told : Told → (input : List ℕ) → (version : ℕ) → RtrAction
read_told told.Awaits input v = record (plain_action 0) { wanted = wanted input }
read_told (told.Kept taken) input v = record (plain_action 4) { taken = taken }
read_told (told.Acted start end a) input v =
    record (action_told a v) { start = start; taken = end }
read_told (told.Refused e a) input v =
    record (action_told a v) { status = fault_status e; detail = fault_detail e }

-- a step of the machine that the structs stand for
pub record IsRouterStep (r : RtrRouter) (n : ℕ) (e : Event) (a : RtrAction) (r' : RtrRouter) :
    Type 0 where
  pub action : Action
  pub told : a ≡ action_told action r'.version
  pub step : IsStep (router_of r) n e action (router_of r')

-- ---- what is sent

abbrev pub query_of : RtrAction → Query
query_of a = record {
  changes = a.changes;
  version = a.version;
  session = a.session;
  serial = a.serial;
}

abbrev pub ending_of : RtrAction → Ending
ending_of a = record {
  drop = a.drops;
  report = if a.reports then Some (record { 0 = a.code }) else None;
  cause = numbered_cause a.cause;
}

-- the part of the rule on the lengths of a prefix that has this number
abbrev pub numbered_prefix_rule : ℕ → Option PrefixRule
numbered_prefix_rule n =
    if n == 1 then Some LenOverflow
    else if n == 2 then Some MaxOverflow
    else if n == 3 then Some MaxUnderflow
    else None

-- the refusal of this status, with its detail, of those that are the peer's fault
abbrev pub refusal_at : (status detail : ℕ) → Option Refusal
refusal_at s d =
    if s == 1 then Some refusals.Short
    else if s == 2 then Some (refusals.UnitType d)
    else if s == 3 then Some (refusals.UnitVersion d)
    else if s == 4 then Some refusals.TooLong
    else if s == 5 then Some refusals.UnitLength
    else if s == 6 then Some refusals.EmptyProviders
    else if s == 7 then Some (refusals.Prefix (numbered_prefix_rule d))
    else if s == 14 then Some refusals.Duplicate
    else if s == 15 then Some refusals.Unknown
    else None

-- the report that an action owes is written, or none, and whether that is so
abbrev pub PlacesReport : RtrAction → List ℕ → (before after : List ℕ) → (written : ℕ) → Bool →
    Type 0
PlacesReport a input before after written said =
    (n : Option ℕ)
    × PlacesEnding a.version (ending_of a) (refusal_at a.status a.detail) input n before after
    × (written ≡ unwrap_or n 0) × (said ≡ is_some n)
