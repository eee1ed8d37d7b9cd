-- What a router is after what it did: each field that isn't named here stays as it was.
use Rattle.std.specs.Prelude.{ℕ, Bool, true, false, ◌+◌, ◌-◌, ◌&&◌, ◌==◌, nat_le, nat_lt}
use Rattle.std.specs.Prelude.{not, min, max, if◌then◌else◌}
use Rattle.session_router.specs.declared.head.Head.{Head}
use Rattle.session_router.specs.declared.head.Kind.{Kind}
use Rattle.session_router.specs.declared.head.Known.{Known}
use Rattle.session_router.specs.declared.settings.Settings.{Settings}
use Rattle.session_router.specs.declared.head.Kind.TheVariants as kinds
use Rattle.session_router.specs.declared.router.Router.{Router}
use Rattle.session_router.specs.declared.router.Phase.{Phase}
use Rattle.session_router.specs.declared.router.Phase.TheVariants as phases
use Rattle.session_router.specs.declared.event.Event.{Event}
use Rattle.session_router.specs.declared.event.Event.TheVariants as events
use Rattle.session_router.specs.declared.event.Action.{Action}
use Rattle.session_router.specs.declared.event.Action.TheVariants as actions
use Rattle.session_router.specs.declared.event.Cause.{Cause}
use Rattle.session_router.specs.declared.event.Cause.TheVariants as causes
use Rattle.session_router.specs.Rules.{awaits_changes, known_of, opening_version}
use Rattle.session_router.specs.Pace.{due_at_show, due_waiting, grows, grows_slow}
use Rattle.session_router.specs.Pace.{next_rise, next_wait, rest, rise_wait_at_show, rises_at_show}
use Rattle.session_router.specs.Pace.{wait_at_show}
use Rattle.session_router.specs.Times.{expires_at_show, retry_ms}

-- ---- a router that is new

abbrev pub no_known : Known
no_known = record { version = 0; session = 0; serial = 0; refresh = 0; retry = 0; expire = 0 }

abbrev pub new_router : Settings → Router
new_router s = record {
  settings = record s { highest = min s.highest 2 };
  phase = phases.Offline;
  version = 0;
  agreed = false;
  fell = false;
  silent = false;
  rise_wait = 0;
  rises = 0;
  floor = 0;
  changes = false;
  resync = false;
  answered = false;
  wait = 1000;
  session = 0;
  units = 0;
  bytes = 0;
  noted = false;
  note = 0;
  answer = no_known;
  has_data = false;
  known = no_known;
  came = 0;
  expires = 0;
  asked = 0;
  tried = 0;
  due = 0;
}

-- whether there are data at a time, also where no step has dropped them yet
abbrev pub has_data_at : Router → (now : ℕ) → Bool
has_data_at r n = r.has_data && nat_lt n r.expires

-- ---- nothing is done

abbrev pub once_noted : Router → Head → Router
once_noted r u = record r { noted = true; note = u.serial }

-- a notify is noted in an answer, and before it on a connection that has a version
abbrev pub once_waited : Phase → Router → (now : ℕ) → Event → Router
once_waited phases.Asked r n (events.Came u) = if r.agreed then once_noted r u else r
once_waited phases.Reading r n (events.Came u) = once_noted r u
once_waited p r n e = record r { due = due_waiting p r n e }

-- ---- a connection, and a query

abbrev pub once_connected : Router → (now : ℕ) → Router
once_connected r n = record r {
  phase = phases.Connecting;
  version = opening_version r;
  agreed = false;
  fell = false;
  silent = r.fell && r.silent;
  tried = n;
  due = n + r.settings.connect_limit;
}

-- a serial query where there are data of the version, and no reset query is owed
abbrev pub asks_changes : Router → Bool
asks_changes r = r.has_data && not r.resync && (r.known.version == r.version)

abbrev pub once_asked : Router → (now : ℕ) → Router
once_asked r n = record r {
  phase = phases.Asked;
  changes = asks_changes r;
  noted = false;
  asked = n;
  due = n + r.settings.response_limit;
}

-- the cache reset that a query follows is an answer
abbrev pub once_asked_at : Router → (now : ℕ) → Event → Router
once_asked_at r n (events.Came u) =
    once_asked (record r { agreed = true; floor = max r.floor r.version; resync = true }) n
once_asked_at r n events.Connected = once_asked (record r { answered = false }) n
once_asked_at r n _ = once_asked r n

-- ---- an answer

abbrev pub once_begun : Router → Head → Router
once_begun r u = record r {
  phase = phases.Reading;
  version = u.version;
  agreed = true;
  floor = max r.floor u.version;
  session = u.session;
  units = 0;
  bytes = 0;
}

abbrev pub once_kept : Router → Head → Router
once_kept r u = record r { units = r.units + 1; bytes = r.bytes + u.size }

abbrev pub once_completed : Router → (now : ℕ) → Head → Router
once_completed r n u = record r { phase = phases.Applying; answer = known_of u; came = n }

abbrev pub once_adopted : Router → (now : ℕ) → Router
once_adopted r n = record r {
  phase = phases.Waiting;
  has_data = true;
  known = r.answer;
  floor = r.answer.version;
  resync = false;
  answered = true;
  wait = wait_at_show r;
  rise_wait = rise_wait_at_show r;
  rises = rises_at_show r n;
  due = due_at_show r n;
  expires = expires_at_show r n;
}

-- the answer that there are no data
abbrev pub once_without_data : Router → (now : ℕ) → Router
once_without_data r n = record r {
  phase = phases.Waiting;
  agreed = true;
  floor = max r.floor r.version;
  resync = true;
  due = n + retry_ms r.settings r.known;
}

-- ---- data that are dropped, and connections that end

-- data expired without a connection
abbrev pub once_lost : Router → (now : ℕ) → Router
once_lost r n = record r {
  has_data = false;
  floor = 0;
  wait = 1000;
  due = min r.due (n + r.settings.pause);
}

-- and with one, or their session is over
abbrev pub once_dropped : Router → (now : ℕ) → Router
once_dropped r n = record r {
  phase = phases.Offline;
  has_data = false;
  resync = true;
  floor = 0;
  wait = 1000;
  due = n + r.settings.pause;
}

-- a serial query failed
abbrev pub once_resyncing : Router → (now : ℕ) → Router
once_resyncing r n = record r { phase = phases.Offline; resync = true; due = n + r.settings.pause }

-- where there are no data, waits that have grown to the retry time make a router forget the version
-- in which the cache answered: it may have become one of a lower version
abbrev pub forgets : Router → Bool
forgets r = not r.has_data && nat_le (retry_ms r.settings r.known) r.wait

-- another failure; `g` says whether the wait grows
abbrev pub once_rested : Bool → Router → (now : ℕ) → Router
once_rested g r n = record r {
  phase = phases.Offline;
  wait = next_wait g r;
  floor = if forgets r then 0 else r.floor;
  due = n + rest g r;
}

abbrev pub is_report : Kind → Bool
is_report kinds.ErrorReport = true
is_report _ = false

-- it falls because the cache says something
abbrev pub once_fallen_by_word : Router → (now version : ℕ) → Router
once_fallen_by_word r n v = record r {
  phase = phases.Offline;
  version = v;
  fell = true;
  silent = false;
  due = n;
}

-- it falls because the cache closes without a word
abbrev pub once_fallen_silently : Router → (now : ℕ) → Router
once_fallen_silently r n = record r {
  phase = phases.Offline;
  version = r.version - 1;
  fell = true;
  silent = true;
  rise_wait = if r.silent then r.rise_wait else next_rise r;
  rises = if r.silent then r.rises else n + next_rise r;
  due = n;
}

-- to the next lower version, or to that of the answer
abbrev pub once_fallen : Router → (now : ℕ) → Event → Router
once_fallen r n (events.Came u) =
    once_fallen_by_word r n (if is_report u.kind then r.version - 1 else u.version)
once_fallen r n _ = once_fallen_silently r n

-- the highest version is tried again
abbrev pub once_risen : Router → (now : ℕ) → Router
once_risen r n = record r { phase = phases.Offline; due = n }

abbrev pub once_failed : (drop : Bool) → Router → (now : ℕ) → Router
once_failed drop r n =
    if drop then once_dropped r n
    else if awaits_changes r then once_resyncing r n
    else once_rested (grows r) r n

abbrev pub once_ended : Cause → (drop : Bool) → Router → (now : ℕ) → Event → Router
once_ended causes.Lower drop r n e = once_fallen r n e
once_ended causes.Higher drop r n e = once_risen r n
once_ended causes.Slow drop r n e = once_rested (grows_slow r) r n
once_ended _ drop r n e = once_failed drop r n

-- ---- all actions

abbrev pub router_after : Router → (now : ℕ) → Event → Action → Router
router_after r n e actions.Wait = once_waited r.phase r n e
router_after r n e actions.Connect = once_connected r n
router_after r n e (actions.Ask q) = once_asked_at r n e
router_after r n (events.Came u) actions.Begin = once_begun r u
router_after r n (events.Came u) actions.Keep = once_kept r u
router_after r n (events.Came u) (actions.Apply changes) = once_completed r n u
router_after r n e actions.Show = once_adopted r n
router_after r n e actions.NoData = once_without_data r n
router_after r n e actions.Drop = once_lost r n
router_after r n e (actions.End x) = once_ended x.cause x.drop r n e
router_after r n e _ = r
