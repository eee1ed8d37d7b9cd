-- What a router may do at each event (RFC 8210 sections 5 to 8).
use Rattle.std.specs.Prelude.{◌≡◌, ◌≢◌, ◌⊎◌, ℕ, Bool, true, false, ◌+◌, ◌<◌, ◌≤◌, Option, Some}
use Rattle.std.specs.Prelude.{None, if◌then◌else◌, max, ◌-◌, ◌&&◌}
use Rattle.std.specs.declared.cmp.Ordering.TheVariants.{Less}
use Rattle.rtr_base.specs.declared.error_code.ErrorCode.{ErrorCode}
use Rattle.rtr_base.specs.Serial.{serial_cmp}
use Rattle.session_router.specs.declared.head.Head.{Head}
use Rattle.session_router.specs.declared.head.Known.{Known}
use Rattle.session_router.specs.declared.head.Query.{Query}
use Rattle.session_router.specs.declared.head.Kind.{Kind}
use Rattle.session_router.specs.declared.head.Kind.TheVariants as kinds
use Rattle.session_router.specs.declared.router.Router.{Router}
use Rattle.session_router.specs.declared.router.Phase.{Phase}
use Rattle.session_router.specs.declared.router.Phase.TheVariants as phases
use Rattle.session_router.specs.declared.event.Event.{Event}
use Rattle.session_router.specs.declared.event.Event.TheVariants as events
use Rattle.session_router.specs.declared.event.Action.{Action}
use Rattle.session_router.specs.declared.event.Action.TheVariants as actions
use Rattle.session_router.specs.declared.event.Ending.{Ending}
use Rattle.session_router.specs.declared.event.Cause.{Cause}
use Rattle.session_router.specs.declared.event.Cause.TheVariants as causes
use Rattle.session_router.specs.Times.{expires_at_show}

-- payloads, by the least version that has them (RFC 8210 section 5.10; ASPAs are of version 2)
abbrev pub IsPayloadOf : ℕ → Kind → Type 0
IsPayloadOf v kinds.Prefix = Unit {0}
IsPayloadOf v kinds.RouterKey = 1 ≤ v
IsPayloadOf v kinds.Aspa = 2 ≤ v
IsPayloadOf v _ = ⊥

-- what an end of data says of the data
abbrev pub known_of : Head → Known
known_of u = record {
  version = u.version;
  session = u.session;
  serial = u.serial;
  refresh = u.refresh;
  retry = u.retry;
  expire = u.expire;
}

-- what is known of the data stays
pub record SameKnown (r r' : Router) : Type 0 where
  pub has_data : r'.has_data ≡ r.has_data
  pub known : r'.known ≡ r.known
  pub expires : r'.expires ≡ r.expires

-- so does what was said on the connection
pub record SameTalk (r r' : Router) : Type 0 where
  pub phase : r'.phase ≡ r.phase
  pub version : r'.version ≡ r.version
  pub agreed : r'.agreed ≡ r.agreed
  pub silent : r'.silent ≡ r.silent
  pub floor : r'.floor ≡ r.floor
  pub changes : r'.changes ≡ r.changes
  pub resync : r'.resync ≡ r.resync
  pub session : r'.session ≡ r.session
  pub answer : r'.answer ≡ r.answer
  pub came : r'.came ≡ r.came

-- so does the response so far
pub record SameResponse (r r' : Router) : Type 0 where
  pub units : r'.units ≡ r.units
  pub bytes : r'.bytes ≡ r.bytes

-- What may be passed over: a notify, since the answer tells of more (RFC 8210 section 7), or is
-- followed by a query, or comes when the router waits, which then asks when it may; what comes
-- without a connection; what its caller says out of turn; and its wish, which says when to ask.
abbrev pub PassesOver : Router → Event → Type 0
PassesOver r (events.Came u) =
    (r.phase ≡ phases.Offline) ⊎ (r.phase ≡ phases.Connecting)
    ⊎ ((r.phase ≢ phases.Applying) × (u.kind ≡ kinds.SerialNotify))
PassesOver r events.Lost = r.phase ≡ phases.Offline
PassesOver r (events.Faulty f) = (r.phase ≡ phases.Offline) ⊎ (r.phase ≡ phases.Connecting)
PassesOver r (events.NotApplied code) = (r.phase ≢ phases.Applying) × (r.phase ≢ phases.Reading)
PassesOver r events.Applied = r.phase ≢ phases.Applying
PassesOver r events.Connected = r.phase ≢ phases.Connecting
PassesOver r events.Tick = Unit {0}
PassesOver r events.Asked = Unit {0}

-- whether a notify is taken note of: inside a response, and before it where a version is agreed on
abbrev pub takes_note : Phase → (agreed : Bool) → Bool
takes_note phases.Reading agreed = true
takes_note phases.Asked agreed = agreed
takes_note _ agreed = false

abbrev pub Notes : Event → Bool → Router → Router → Type 0
Notes (events.Came u) true r r' = (r'.noted ≡ true) × (r'.note ≡ u.serial)
Notes _ _ r r' = (r'.noted ≡ r.noted) × (r'.note ≡ r.note)

pub record Waits (r : Router) (e : Event) (r' : Router) : Type 0 where
  pub same : SameKnown r r'
  pub talk : SameTalk r r'
  pub response : SameResponse r r'
  pub passes : PassesOver r e
  pub notes : Notes e (takes_note r.phase r.agreed) r r'

-- The version that a connection begins in: the one that the router fell to, or the highest (RFC
-- 8210 section 7).
abbrev pub opening_version : Router → ℕ
opening_version r = if r.fell then r.version else r.settings.highest

pub record Connects (r : Router) (n : ℕ) (r' : Router) : Type 0 where
  pub same : SameKnown r r'
  pub from : r.phase ≡ phases.Offline
  pub due : r.due ≤ n
  pub phase : r'.phase ≡ phases.Connecting
  pub version : r'.version ≡ opening_version r
  pub agreed : r'.agreed ≡ false
  pub floor : r'.floor ≡ r.floor
  pub resync : r'.resync ≡ r.resync

-- the query: for the changes since the data, or for all data (RFC 8210 sections 8.1, 8.2)
abbrev pub query : Router → Query
query r =
    if r.changes
    then record {
      changes = true;
      version = r.version;
      session = r.known.session;
      serial = r.known.serial;
    }
    else record { changes = false; version = r.version; session = 0; serial = 0 }

-- a serial query is about data of its version
pub record AsksOwn (r : Router) : Type 0 where
  pub has_data : r.has_data ≡ true
  pub version : r.known.version ≡ r.version
  pub resync : r.resync ≡ false

-- a reset query, where there are none of its version, or it has to be one
abbrev pub AsksAll : Router → Type 0
AsksAll r = (r.has_data ≡ false) ⊎ (r.known.version ≢ r.version) ⊎ (r.resync ≡ true)

-- A query goes out when a connection is there; when a router that waits may ask again; and at a
-- cache reset that answers a serial query (RFC 8210 section 8.3), then for all data.
abbrev pub MayAsk : Router → ℕ → Event → Router → Type 0
MayAsk r n (events.Came u) r' =
    (r.phase ≡ phases.Asked) × (r.changes ≡ true) × (u.kind ≡ kinds.CacheReset)
    × (u.version ≡ r.version) × (r'.changes ≡ false) × (r'.resync ≡ true)
    × (r'.floor ≡ max r.floor r.version)
MayAsk r n events.Connected r' =
    (r.phase ≡ phases.Connecting) × (r'.agreed ≡ r.agreed) × (r'.resync ≡ r.resync)
    × (r'.floor ≡ r.floor)
MayAsk r n events.Tick r' =
    (r.phase ≡ phases.Waiting) × (r.settings.pause ≤ n - r.asked) × (r'.resync ≡ r.resync)
    × (r'.floor ≡ r.floor) × (r.due ≤ n)
MayAsk r n _ r' = ⊥

pub record Asks (r : Router) (n : ℕ) (e : Event) (q : Query) (r' : Router) : Type 0 where
  pub same : SameKnown r r'
  pub phase : r'.phase ≡ phases.Asked
  pub query : q ≡ query r'
  pub own : r'.changes ≡ true → AsksOwn r'
  pub all : r'.changes ≡ false → AsksAll r'
  pub may : MayAsk r n e r'
  pub agreed : r.agreed ≡ true → r'.agreed ≡ true
  pub version : r'.version ≡ r.version
  pub noted : r'.noted ≡ false

-- An answer may be of the version of the query; that to a reset query also of a lower one, before a
-- version was agreed on (RFC 8210 section 7).
pub record MayAnswer (r : Router) (u : Head) : Type 0 where
  pub most : u.version ≤ r.version
  pub agreed : r.agreed ≡ true → u.version ≡ r.version
  pub changes : r.changes ≡ true → u.version ≡ r.version

-- A cache response begins the answer (RFC 8210 section 5.5); to a serial query it is of the version
-- and of the session of the data (sections 5.1, 7).
pub record Begins (r : Router) (u : Head) (r' : Router) : Type 0 where
  pub same : SameKnown r r'
  pub kind : u.kind ≡ kinds.CacheResponse
  pub from : r.phase ≡ phases.Asked
  pub phase : r'.phase ≡ phases.Reading
  pub version : r'.version ≡ u.version
  pub session : r'.session ≡ u.session
  pub may : MayAnswer r u
  pub agreed : r'.agreed ≡ true
  pub floor : r'.floor ≡ max r.floor u.version
  pub changes : r'.changes ≡ r.changes
  pub resync : r'.resync ≡ r.resync
  pub own : r.changes ≡ true → u.session ≡ r.known.session
  pub units : r'.units ≡ 0
  pub bytes : r'.bytes ≡ 0
  pub noted : r'.noted ≡ r.noted
  pub note : r'.note ≡ r.note

-- a payload unit of the version of the cache response, within the limits of an answer
pub record Keeps (r : Router) (u : Head) (r' : Router) : Type 0 where
  pub same : SameKnown r r'
  pub talk : SameTalk r r'
  pub phase : r.phase ≡ phases.Reading
  pub version : u.version ≡ r.version
  pub kind : IsPayloadOf r.version u.kind
  pub units : r'.units ≡ r.units + 1
  pub bytes : r'.bytes ≡ r.bytes + u.size
  pub most_units : r'.units ≤ r.settings.most_units
  pub most_bytes : r'.bytes ≤ r.settings.most_bytes
  pub noted : r'.noted ≡ r.noted
  pub note : r'.note ≡ r.note

-- The end of data, of the version and the session of the cache response (RFC 8210 section 5.8). Its
-- serial number isn't before that of a serial query (RFC 1982), and at that very number nothing
-- changes.
pub record Completes (r : Router) (n : ℕ) (u : Head) (changes : Bool) (r' : Router) :
    Type 0 where
  pub same : SameKnown r r'
  pub from : r.phase ≡ phases.Reading
  pub phase : r'.phase ≡ phases.Applying
  pub kind : u.kind ≡ kinds.EndOfData
  pub version : u.version ≡ r.version
  pub session : u.session ≡ r.session
  pub base : changes ≡ r.changes
  pub order : r.changes ≡ true → serial_cmp u.serial r.known.serial ≢ Some Less
  pub news : r.changes ≡ true → u.serial ≡ r.known.serial → r.units ≡ 0
  pub same_changes : r'.changes ≡ r.changes
  pub answer : r'.answer ≡ known_of u
  pub came : r'.came ≡ n
  pub noted : r'.noted ≡ r.noted
  pub note : r'.note ≡ r.note
  pub same_version : r'.version ≡ r.version
  pub agreed : r.agreed ≡ true → r'.agreed ≡ true
  pub floor : r'.floor ≡ r.floor
  pub resync : r'.resync ≡ r.resync

-- What the changes made are the data, until they expire.
pub record Adopts (r : Router) (n : ℕ) (r' : Router) : Type 0 where
  pub from : r.phase ≡ phases.Applying
  pub phase : r'.phase ≡ phases.Waiting
  pub has_data : r'.has_data ≡ true
  pub known : r'.known ≡ r.answer
  pub expires : r'.expires ≡ expires_at_show r n
  pub same_version : r'.version ≡ r.version
  pub agreed : r.agreed ≡ true → r'.agreed ≡ true
  pub floor : r'.floor ≡ r.answer.version
  pub resync : r'.resync ≡ false

-- The cache has no data yet. Each query is a reset query until there is a usable load (RFC 8210
-- section 8.4).
pub record HasNoData (r : Router) (u : Head) (r' : Router) : Type 0 where
  pub same : SameKnown r r'
  pub kind : u.kind ≡ kinds.ErrorReport
  pub code : u.code.0 ≡ 2
  pub version : u.version ≡ r.version
  pub from : (r.phase ≡ phases.Asked) ⊎ (r.phase ≡ phases.Reading)
  pub phase : r'.phase ≡ phases.Waiting
  pub same_version : r'.version ≡ r.version
  pub agreed : r'.agreed ≡ true
  pub floor : r'.floor ≡ max r.floor r.version
  pub resync : r'.resync ≡ true

-- there are no data any more, and their times are still known
pub record HasLost (r r' : Router) : Type 0 where
  pub has_data : r'.has_data ≡ false
  pub known : r'.known ≡ r.known

-- the data have expired while there is no connection
pub record Loses (r r' : Router) : Type 0 where
  pub from : r.phase ≡ phases.Offline
  pub phase : r'.phase ≡ phases.Offline
  pub lost : HasLost r r'
  pub version : r'.version ≡ r.version
  pub resync : r'.resync ≡ r.resync

-- data are dropped, or what is known of them stays
abbrev pub Drops : Bool → Router → Router → Type 0
Drops true r r' = HasLost r r'
Drops false r r' = SameKnown r r'

-- no report answers a report (RFC 8210 section 5.11)
abbrev pub NoneAboutReports : Event → Option ErrorCode → Type 0
NoneAboutReports (events.Came u) report = u.kind ≡ kinds.ErrorReport → report ≡ None
NoneAboutReports (events.Faulty f) report = f.code ≡ None → report ≡ None
NoneAboutReports _ report = Unit {0}

-- A unit that makes a router fall: a report of code 4 or of a lower version, to the version below
-- that of the query; the answer to a serial query in a lower version, to that one (RFC 8210 section
-- 7).
pub record FallsAt (r : Router) (u : Head) (r' : Router) : Type 0 where
  pub report : u.kind ≡ kinds.ErrorReport → (u.code.0 ≡ 4) ⊎ (u.version < r.version)
  pub by_one : u.kind ≡ kinds.ErrorReport → r'.version + 1 ≡ r.version
  pub changes : u.kind ≢ kinds.ErrorReport → r.changes ≡ true
  pub to : u.kind ≢ kinds.ErrorReport → r'.version ≡ u.version
  pub lower : r'.version < r.version

-- A close without a word makes it fall too, but not to a version below the one in which the cache
-- answered.
pub record FallsInSilence (r r' : Router) : Type 0 where
  pub by_one : r'.version + 1 ≡ r.version
  pub not_below : r.floor ≤ r'.version

abbrev pub FallsOver : Router → Event → Router → Type 0
FallsOver r (events.Came u) r' = FallsAt r u r'
FallsOver r events.Lost r' = FallsInSilence r r'
FallsOver r _ r' = ⊥

-- It falls while the first answer on a connection is awaited, and keeps its data.
pub record Falls (r : Router) (e : Event) (x : Ending) (r' : Router) : Type 0 where
  pub from : r.phase ≡ phases.Asked
  pub agreed : r.agreed ≡ false
  pub keeps : x.drop ≡ false
  pub report : x.report ≡ None
  pub over : FallsOver r e r'
  pub fell : r'.fell ≡ true
  pub floor : r'.floor ≡ r.floor
  pub resync : r'.resync ≡ r.resync

-- It rises: on a connection in a version that it fell to in silence, when it is time to ask. Its
-- data stay, and the next connection begins in the highest version.
pub record Rises (r : Router) (x : Ending) (r' : Router) : Type 0 where
  pub from : r.phase ≡ phases.Waiting
  pub silent : r.silent ≡ true
  pub keeps : x.drop ≡ false
  pub report : x.report ≡ None
  pub fell : r'.fell ≡ r.fell
  pub floor : r'.floor ≡ r.floor
  pub resync : r'.resync ≡ r.resync

-- a serial query is out
abbrev pub is_answering : Phase → Bool
is_answering phases.Asked = true
is_answering phases.Reading = true
is_answering phases.Applying = true
is_answering _ = false

abbrev pub awaits_changes : Router → Bool
awaits_changes r = is_answering r.phase && r.changes

-- Where a serial query fails, the next query is a reset query: some caches refuse a session that
-- they don't know in such ways (RFC 8210 section 5.1).
pub record Fails (r r' : Router) : Type 0 where
  pub fell : r'.fell ≡ r.fell
  pub version : r'.version ≡ r.version
  pub since : awaits_changes r ≡ true → r'.resync ≡ true
  pub resync : r.resync ≡ true → r'.resync ≡ true
  pub floor : r'.has_data ≡ true → r'.floor ≡ r.floor

-- Where the time for something is over, it is done again later, and the data stay.
pub record GivesUp (r r' : Router) : Type 0 where
  pub fell : r'.fell ≡ r.fell
  pub version : r'.version ≡ r.version
  pub resync : r'.resync ≡ r.resync
  pub floor : r'.has_data ≡ true → r'.floor ≡ r.floor

abbrev pub ClosesBy : Cause → Router → Event → Ending → Router → Type 0
ClosesBy causes.Lower r e x r' = Falls r e x r'
ClosesBy causes.Higher r e x r' = Rises r x r'
ClosesBy causes.Slow r e x r' = (x.drop ≡ false) × GivesUp r r'
ClosesBy _ r e x r' = Fails r r'

pub record Closes (r : Router) (e : Event) (x : Ending) (r' : Router) : Type 0 where
  pub from : r.phase ≢ phases.Offline
  pub phase : r'.phase ≡ phases.Offline
  pub data_then : Drops x.drop r r'
  pub reports : NoneAboutReports e x.report
  pub by : ClosesBy x.cause r e x r'

-- from r, at the time n and the event e, a router may take this action and be r'
abbrev pub Rule : Router → ℕ → Event → Action → Router → Type 0
Rule r n e actions.Wait r' = Waits r e r'
Rule r n events.Tick actions.Connect r' = Connects r n r'
Rule r n e (actions.Ask q) r' = Asks r n e q r'
Rule r n (events.Came u) actions.Begin r' = Begins r u r'
Rule r n (events.Came u) actions.Keep r' = Keeps r u r'
Rule r n (events.Came u) (actions.Apply on) r' = Completes r n u on r'
Rule r n events.Applied actions.Show r' = Adopts r n r'
Rule r n (events.Came u) actions.NoData r' = HasNoData r u r'
Rule r n e actions.Drop r' = Loses r r'
Rule r n e (actions.End x) r' = Closes r e x r'
Rule r n _ _ r' = ⊥

-- data are there until they expire, and not later
abbrev pub Fresh : Router → ℕ → Type 0
Fresh r n = r.has_data ≡ true → n < r.expires
