-- A cache's end of a connection, step by step: what its two machines are told, and the bytes that
-- their host holds.
use Rattle.std.specs.Prelude.{◌≡◌, ◌<◌, ◌+◌, ◌^◌, ℕ, true, List, [], ◌∷◌, ◌++◌, length, take, drop}
use Rattle.std.specs.Prelude.{Option, Some, None, if◌then◌else◌}
use Rattle.session_cache.specs.declared.cache.Cache.{Cache}
use Rattle.session_cache.specs.declared.event.Answer.{Answer}
use Rattle.session_cache.specs.declared.event.Answer.TheVariants as answers
use Rattle.session_cache.specs.declared.event.CacheEvent.{CacheEvent}
use Rattle.session_cache.specs.declared.event.CacheEvent.TheVariants as events
use Rattle.session_cache.specs.declared.event.Present.{Present}
use Rattle.session_cache.specs.Connections.{IsNewConnection}
use Rattle.session_cache.specs.CacheSteps.{IsCacheStep}
use Rattle.session_cache.specs.Worlds.{IsIn}
use Rattle.session_bytes.specs.Serving.{HearsRouter}
use Rattle.session_bytes.specs.declared.serving.Served.{Served}
use Rattle.session_bytes.specs.declared.serving.Served.TheVariants as served
use Rattle.session_laws.specs.Editions.{PayloadEdition}
use Rattle.session_laws.specs.Pipes.{Bytes}
use Rattle.session_laws.specs.Written.{CacheWrites, IsSentFrom}
use Rattle.session_server.specs.Paces.{answered, broken_off, closed_by, input_taken, is_free}
use Rattle.session_server.specs.Paces.{is_serving}
use Rattle.session_server.specs.Paces.{new_connection, next_at, once_received, report_begun, sent}
use Rattle.session_server.specs.declared.connection.Connection.{Connection}
use Rattle.session_server.specs.declared.connection.Next.{Next}
use Rattle.session_server.specs.declared.connection.Next.TheVariants as nexts
use Rattle.session_server.specs.declared.settings.ServerSettings.{ServerSettings}

-- What the machine answered once.
pub record Turn : Type 0 where
  -- the unit that it was told of, if it was told of one
  pub unit : Option Bytes
  pub answer : Answer
  pub version : ℕ
  -- the newest data then, and those that the changes are from
  pub present : PayloadEdition
  pub old : PayloadEdition
  -- what its host writes
  pub bytes : Bytes

pub record Service : Type 0 where
  pub connection : Connection
  pub cache : Cache
  -- all bytes of the router that were read, and those that the machine may still be told of
  pub came : Bytes
  pub input : Bytes
  -- what was handed to the socket, and the bytes of the present answer that weren't
  pub handed : Bytes
  pub output : Bytes
  -- the newest first
  pub turns : List Turn

-- ---- what its host does

-- this many bytes of the input were taken
abbrev pub takes : Service → (now size : ℕ) → Service
takes w n size = record w {
  connection = input_taken w.connection n size;
  input = drop size w.input;
}

-- these bytes were read; after an end they are ignored
abbrev pub bytes_read : Service → (now : ℕ) → Bytes → Service
bytes_read w n b = record w {
  connection = once_received w.connection n (length b);
  came = w.came ++ b;
  input = if is_serving w.connection.phase then w.input ++ b else w.input;
}

-- an answer begins, or the end
abbrev pub turn_begun : Answer → Service → (now number : ℕ) → Cache → Turn → Service
turn_begun answers.Wait w n number c t = record w { cache = c }
turn_begun (answers.End x) w n number c t = record w {
  connection = report_begun w.connection n (length t.bytes);
  cache = c;
  output = t.bytes;
  turns = t ∷ w.turns;
}
turn_begun _ w n number c t = record w {
  connection = answered w.connection n (length t.bytes) number;
  cache = c;
  output = t.bytes;
  turns = t ∷ w.turns;
}

-- the end in their place, without a report
abbrev pub turn_given_up : Service → (now : ℕ) → Cache → Turn → Service
turn_given_up w n c t = record w {
  connection = report_begun w.connection n 0;
  cache = c;
  output = [];
  turns = t ∷ w.turns;
}

-- These are the bytes of the answer, in the version of the machine: those of data that the cache
-- had.
pub record WritesTurn (had : List PayloadEdition) (version : ℕ) (t : Turn) : Type 0 where
  pub version_is : t.version ≡ version
  pub present : IsIn had t.present
  pub from : IsSentFrom had t.present t.answer t.old
  pub bytes : CacheWrites t.version t.old t.present t.answer t.bytes

-- What it does at what the machine answered, at a time and a number of the newest data: this; or,
-- without memory, or without a place for one more connection, it ends the connection.
pub data Does (had : List PayloadEdition) (w : Service) (n number : ℕ) (c : Cache) (t : Turn) :
    Service → Type 0 where
  as_answered :
      WritesTurn had c.version t → Does had w n number c t (turn_begun t.answer w n number c t)
  gives_up : t.bytes ≡ [] → Does had w n number c t (turn_given_up w n c t)

-- ---- what `serve` returned

abbrev pub served_size : Served → ℕ
served_size served.Awaits = 0
served_size (served.Answered size a) = size
served_size (served.Refused e a) = 0

abbrev pub served_answer : Served → Answer
served_answer served.Awaits = answers.Wait
served_answer (served.Answered size a) = a
served_answer (served.Refused e a) = a

-- the unit that the machine was told of
abbrev pub served_unit : Served → (input : Bytes) → Option Bytes
served_unit served.Awaits input = None
served_unit (served.Answered size a) input = Some (take size input)
served_unit (served.Refused e a) input = None

-- ---- runs

-- what `next` says to tell the machine, beside input
abbrev pub IsToldNext : Next → CacheEvent → Type 0
IsToldNext next events.Tick = next ≡ nexts.Tick
IsToldNext next events.Lost = next ≡ nexts.Lose
IsToldNext next _ = ⊥

-- What may happen next, in any order and at any time. The host tells the machine what `next` says,
-- by the newest data, which may be any of those that the cache has in this time. Bytes are read and
-- sent in any pieces. After `Close` nothing more happens.
pub data ServiceGoes (had : List PayloadEdition) : Service → Service → Type 0 where
  reads_bytes :
      (w : Service) (n : ℕ) (b : Bytes)
      → length w.input + length b < 2 ^ 64
      → ServiceGoes had w (bytes_read w n b)
  router_closes :
      (w : Service) → ServiceGoes had w (record w { connection = closed_by w.connection })
  -- nothing can be sent on it any more, as after a reset or a failed write
  connection_breaks :
      (w : Service) → ServiceGoes had w (record w { connection = broken_off w.connection })
  hears_input :
      (w : Service) (asked n begins number : ℕ) (p : Present) (kept : List ℕ) (s : Served)
      (t : Turn) (c : Cache) (w' : Service)
      → next_at w.connection asked w.cache p number ≡ nexts.Hear
      → HearsRouter w.cache n t.present.name kept w.input w.connection.closed s c
      → t.answer ≡ served_answer s → t.unit ≡ served_unit s w.input
      → Does had (takes w n (served_size s)) begins number c t w' → ServiceGoes had w w'
  tells_event :
      (w : Service) (asked n begins number : ℕ) (p : Present) (e : CacheEvent) (t : Turn)
      (c : Cache) (w' : Service)
      → IsToldNext (next_at w.connection asked w.cache p number) e
      → IsCacheStep w.cache n t.present.name e t.answer c
      → t.unit ≡ None → Does had w begins number c t w' → ServiceGoes had w w'
  -- there are too many connections
  refuses :
      (w : Service) (n begins number : ℕ) (t : Turn) (c : Cache) (w' : Service)
      → is_free w.connection ≡ true
      → IsCacheStep w.cache n t.present.name events.Full t.answer c
      → t.unit ≡ None → Does had w begins number c t w' → ServiceGoes had w w'
  sends_piece :
      (w : Service) (n : ℕ) (piece rest : Bytes) → w.output ≡ piece ++ rest
      → ServiceGoes had w (record w {
        connection = sent w.connection n (length piece);
        handed = w.handed ++ piece;
        output = rest;
      })

-- any run, from a connection that was accepted; `had` are all data that the cache has in this time
pub data IsRunOfService (s : ServerSettings) (had : List PayloadEdition) : Service → Type 0 where
  service_begins :
      (n : ℕ) (c : Cache) → IsNewConnection s.cache c → c.live ≡ true
      → IsRunOfService s had (record {
        connection = new_connection n s;
        cache = c;
        came = [];
        input = [];
        handed = [];
        output = [];
        turns = [];
      })
  service_goes_on :
      (w w' : Service) → IsRunOfService s had w → ServiceGoes had w w' → IsRunOfService s had w'
