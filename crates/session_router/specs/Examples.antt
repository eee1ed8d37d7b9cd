-- Two runs of a router: every premise of the laws about runs is met by them.
use Rattle.std.specs.Prelude.{ℕ, false, Some, List, [], ◌∷◌}
use Rattle.session_router.specs.declared.head.Head.{Head}
use Rattle.session_router.specs.declared.head.Kind.{Kind}
use Rattle.session_router.specs.declared.head.Kind.TheVariants as kinds
use Rattle.session_router.specs.declared.head.Query.{Query}
use Rattle.session_router.specs.declared.settings.Settings.{Settings}
use Rattle.session_router.specs.declared.router.Router.{Router}
use Rattle.session_router.specs.declared.event.Event.TheVariants as events
use Rattle.session_router.specs.declared.event.Action.TheVariants as actions
use Rattle.session_router.specs.declared.event.Cause.TheVariants as causes
use Rattle.session_router.specs.Heeding.{ends_for}
use Rattle.session_router.specs.After.{new_router, router_after}
use Rattle.session_router.specs.Histories.{Caller, Host, Moment, at}

-- the usual settings, in version 1
abbrev pub usual : Settings
usual = record {
  highest = 1;
  pause = 1000;
  connect_limit = 30000;
  response_limit = 120000;
  refresh = 0;
  retry = 0;
  expire = 0;
  most_units = 4000000;
  most_bytes = 134217728;
  chance = 0;
}

-- a caller that keeps numbers for units, and shows the number of the end of data
abbrev pub numbering : Caller ℕ ℕ
numbering = record { settings = usual; make = λ old kept last. Some last }

abbrev pub unit_of_kind : Kind → Head
unit_of_kind k = record {
  kind = k;
  version = 1;
  session = 4660;
  serial = 5;
  code = record { 0 = 0 };
  refresh = 3600;
  retry = 600;
  expire = 7200;
  size = 24;
}

abbrev pub query_for_all : (version : ℕ) → Query
query_for_all v = record { changes = false; version = v; session = 0; serial = 0 }

-- ---- the first: it connects, asks for all data, and gets an answer of no payloads

abbrev pub first : Router
first = new_router usual

abbrev pub second : Router
second = router_after first 0 events.Tick actions.Connect

abbrev pub third : Router
third = router_after second 10 events.Connected (actions.Ask (query_for_all 1))

abbrev pub fourth : Router
fourth = router_after third 20 (events.Came (unit_of_kind kinds.CacheResponse)) actions.Begin

abbrev pub fifth : Router
fifth = router_after fourth 30 (events.Came (unit_of_kind kinds.EndOfData)) (actions.Apply false)

abbrev pub sixth : Router
sixth = router_after fifth 40 events.Applied actions.Show

abbrev pub first_asked : List (Moment ℕ)
first_asked =
    at 10 events.Connected 0 (actions.Ask (query_for_all 1))
    ∷ at 0 events.Tick 0 actions.Connect
    ∷ []

abbrev pub first_whole : List (Moment ℕ)
first_whole =
    at 30 (events.Came (unit_of_kind kinds.EndOfData)) 7 (actions.Apply false)
    ∷ at 20 (events.Came (unit_of_kind kinds.CacheResponse)) 0 actions.Begin
    ∷ first_asked

abbrev pub first_answer : List (Moment ℕ)
first_answer = at 40 events.Applied 0 actions.Show ∷ first_whole

-- what its caller has then
abbrev pub seven : Host ℕ ℕ
seven = record { kept = []; made = Some 7; shown = Some 7 }

-- ---- the second: the cache closes at the query, and has data of version 0

abbrev pub low_unit : Kind → Head
low_unit k = record (unit_of_kind k) { version = 0 }

abbrev pub fallen : Router
fallen = router_after third 20 events.Lost (ends_for causes.Lower)

abbrev pub back : Router
back = router_after fallen 20 events.Tick actions.Connect

abbrev pub low_asked : Router
low_asked = router_after back 30 events.Connected (actions.Ask (query_for_all 0))

abbrev pub low_begun : Router
low_begun = router_after low_asked 40 (events.Came (low_unit kinds.CacheResponse)) actions.Begin

abbrev pub low_whole : Router
low_whole =
    router_after low_begun 50 (events.Came (low_unit kinds.EndOfData)) (actions.Apply false)

abbrev pub low : Router
low = router_after low_whole 60 events.Applied actions.Show

abbrev pub low_answer : List (Moment ℕ)
low_answer =
    at 60 events.Applied 0 actions.Show
    ∷ at 50 (events.Came (low_unit kinds.EndOfData)) 7 (actions.Apply false)
    ∷ at 40 (events.Came (low_unit kinds.CacheResponse)) 0 actions.Begin
    ∷ at 30 events.Connected 0 (actions.Ask (query_for_all 0))
    ∷ at 20 events.Tick 0 actions.Connect
    ∷ at 20 events.Lost 0 (ends_for causes.Lower)
    ∷ first_asked

-- after the refresh time the highest version is tried again, and the cache closes again
abbrev pub risen : Router
risen = router_after low 3600050 events.Tick (ends_for causes.Higher)

abbrev pub high : Router
high = router_after risen 3600050 events.Tick actions.Connect

abbrev pub high_asked : Router
high_asked = router_after high 3600060 events.Connected (actions.Ask (query_for_all 1))

abbrev pub lower : Router
lower = router_after high_asked 3600070 events.Lost (ends_for causes.Lower)

abbrev pub rise : List (Moment ℕ)
rise = at 3600050 events.Tick 0 (ends_for causes.Higher) ∷ low_answer

abbrev pub rise_asked : List (Moment ℕ)
rise_asked =
    at 3600060 events.Connected 0 (actions.Ask (query_for_all 1))
    ∷ at 3600050 events.Tick 0 actions.Connect
    ∷ rise

abbrev pub rise_lost : List (Moment ℕ)
rise_lost = at 3600070 events.Lost 0 (ends_for causes.Lower) ∷ rise_asked
