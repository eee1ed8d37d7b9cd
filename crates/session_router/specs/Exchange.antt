-- What was exchanged between a router and its cache: what anyone knows who reads what both send.
use Rattle.std.specs.Prelude.{ℕ, Bool, true, false, ◌+◌, max, List, [], ◌∷◌, if◌then◌else◌}
use Rattle.session_router.specs.declared.head.Query.{Query}
use Rattle.session_router.specs.declared.settings.Settings.{Settings}
use Rattle.session_router.specs.declared.router.Phase.{Phase}
use Rattle.session_router.specs.declared.router.Phase.TheVariants as phases
use Rattle.session_router.specs.declared.event.Event.{Event}
use Rattle.session_router.specs.declared.event.Event.TheVariants as events
use Rattle.session_router.specs.declared.event.Action.{Action}
use Rattle.session_router.specs.declared.event.Action.TheVariants as actions
use Rattle.session_router.specs.Rules.{known_of}
use Rattle.session_router.specs.Times.{expire_ms}
use Rattle.session_router.specs.Histories.{Moment}

pub record Exchange : Type 0 where
  -- what comes next: a connection, the answer to the query, more of it, what its changes made, news
  pub phase : Phase
  -- the last query, and whether the cache answered any on this connection
  pub query : Query
  pub answered : Bool
  -- the version of the query, or of the answer once it began, and the session of that
  pub version : ℕ
  pub session : ℕ
  -- the payload units of the answer so far, and their bytes
  pub units : ℕ
  pub bytes : ℕ
  -- until when what is awaited has to come
  pub until : ℕ
  -- the highest version in which the cache answered, on any connection, since data were dropped
  pub spoken : ℕ

abbrev pub none_yet : Exchange
none_yet = record {
  phase = phases.Offline;
  query = record { changes = false; version = 0; session = 0; serial = 0 };
  answered = false;
  version = 0;
  session = 0;
  units = 0;
  bytes = 0;
  until = 0;
  spoken = 0;
}

-- the cache answered in this version
abbrev pub once_spoken : ℕ → Exchange → Exchange
once_spoken v x = record x { answered = true; version = v; spoken = max x.spoken v }

abbrev pub once_queried : Settings → (now : ℕ) → Query → Exchange → Exchange
once_queried s n q x = record x {
  phase = phases.Asked;
  query = q;
  version = q.version;
  until = n + s.response_limit;
}

-- what a router did at an event; each field that isn't named here stays as it was
abbrev pub exchange_after : Settings → (now : ℕ) → Event → Action → Exchange → Exchange
exchange_after s n e actions.Connect x =
    record x { phase = phases.Connecting; answered = false; until = n + s.connect_limit }
exchange_after s n (events.Came u) (actions.Ask q) x = once_queried s n q (once_spoken u.version x)
exchange_after s n e (actions.Ask q) x = once_queried s n q x
exchange_after s n (events.Came u) actions.Begin x =
    record (once_spoken u.version x) {
      phase = phases.Reading;
      session = u.session;
      units = 0;
      bytes = 0;
    }
exchange_after s n (events.Came u) actions.Keep x =
    record x { units = x.units + 1; bytes = x.bytes + u.size }
exchange_after s n (events.Came u) (actions.Apply changes) x =
    record x { phase = phases.Applying; until = n + expire_ms s (known_of u) }
exchange_after s n e actions.Show x = record x { phase = phases.Waiting }
exchange_after s n (events.Came u) actions.NoData x =
    record (once_spoken u.version x) { phase = phases.Waiting }
exchange_after s n e actions.Drop x = record x { spoken = 0 }
exchange_after s n e (actions.End z) x =
    record x { phase = phases.Offline; spoken = if z.drop then 0 else x.spoken }
exchange_after s n e _ x = x

-- in a whole history, the newest first
abbrev pub exchanged : {Body : Type 0} → Settings → List (Moment Body) → Exchange
exchanged s [] = none_yet
exchanged s (m ∷ ms) = exchange_after s m.now m.event m.action (exchanged s ms)
