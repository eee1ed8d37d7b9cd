-- What holds of a connection at its cache: each query of the router is answered once, in order, and
-- nothing else is sent but notifies and a last report (RFC 8210 sections 5 and 8).
use Rattle.std.specs.Prelude.{◌≡◌, ◌≢◌, ◌⊎◌, ℕ, true, false, List, [], ◌∷◌, ◌++◌}
use Rattle.std.specs.Prelude.{Option, Some, None}
use Rattle.std.specs.List.{AllByRecursion, concat}
use Rattle.session_router.specs.declared.head.Head.{Head}
use Rattle.session_router.specs.declared.head.Kind.TheVariants as kinds
use Rattle.session_cache.specs.CacheRules.{IsQuery}
use Rattle.session_cache.specs.declared.cache.Cache.{Cache}
use Rattle.session_cache.specs.declared.event.Answer.{Answer}
use Rattle.session_cache.specs.declared.event.Answer.TheVariants as answers
use Rattle.session_cache.specs.declared.event.Closing.{Closing}
use Rattle.session_cache.specs.declared.event.Present.{Present}
use Rattle.session_bytes.specs.Heads.{HasHead}
use Rattle.session_bytes.specs.Sending.{CacheHearsSent, IsLessThanFirst}
use Rattle.session_bytes.specs.Serving.{HearsRouter}
use Rattle.session_bytes.specs.declared.serving.Served.{Served}
use Rattle.session_laws.specs.Editions.{PayloadEdition}
use Rattle.session_laws.specs.Pipes.{Bytes}
use Rattle.session_server.specs.Paces.{is_free, is_serving, next_at}
use Rattle.session_server.specs.declared.connection.Next.TheVariants as nexts
use Rattle.session_server_laws.specs.Services.{WritesTurn, Service, Turn}

-- ---- one answer

-- An answer to this query, where these are the newest data: all of them to a reset query (section
-- 8.1); to a serial query the changes from its serial number (section 8.2), or a cache reset
-- (section 8.3); a report that there are none yet (section 8.4).
abbrev pub IsAnswerTo : Head → Present → Answer → Type 0
IsAnswerTo u p answers.All = (u.kind ≡ kinds.ResetQuery) × (p.has ≡ true)
IsAnswerTo u p (answers.Changes since) =
    (u.kind ≡ kinds.SerialQuery) × (p.has ≡ true) × (u.session ≡ p.session) × (since ≡ u.serial)
IsAnswerTo u p answers.Reset = (u.kind ≡ kinds.SerialQuery) × (p.has ≡ true)
IsAnswerTo u p answers.NoData = IsQuery u.kind × (p.has ≡ false)
IsAnswerTo u p _ = ⊥

-- The machine was told of a query, and this is its answer, in its version.
pub record AnswersQuery (t : Turn) : Type 0 where
  pub query : Bytes
  pub told : t.unit ≡ Some query
  pub head : Head
  pub has : HasHead query head
  pub fits : IsAnswerTo head t.present.name t.answer
  pub version : t.version ≡ head.version

-- a serial notify, which no unit asked for (section 5.2)
pub record TellsNews (t : Turn) : Type 0 where
  pub unasked : t.unit ≡ None
  pub notify : t.answer ≡ answers.Notify

-- the machine's end, with the report that it owes, or without one
pub record IsLast (had : List PayloadEdition) (t : Turn) : Type 0 where
  pub closing : Closing
  pub end : t.answer ≡ answers.End closing
  pub written : WritesTurn had t.version t

-- The end: the machine's; or that of its host, which gave up, and then sends nothing. It is at a
-- whole unit, or at none.
pub record EndsService (had : List PayloadEdition) (t : Turn) : Type 0 where
  pub ends : IsLast had t ⊎ (t.bytes ≡ [])
  pub whole : (unit : Bytes) → t.unit ≡ Some unit → (head : Head) × HasHead unit head

-- ---- all answers, the newest first

pub record KeepsTalking (had : List PayloadEdition) (t : Turn) : Type 0 where
  pub written : WritesTurn had t.version t
  pub is : AnswersQuery t ⊎ TellsNews t

abbrev pub AllKeepTalking : List PayloadEdition → List Turn → Type 0
AllKeepTalking had ts = AllByRecursion (λ t. KeepsTalking had t) ts

-- nothing follows an end
pub data IsTalk (had : List PayloadEdition) : List Turn → Type 0 where
  talk_goes_on : (ts : List Turn) → AllKeepTalking had ts → IsTalk had ts
  talk_ended :
      (t : Turn) (ts : List Turn) → AllKeepTalking had ts → EndsService had t → IsTalk had (t ∷ ts)

-- the units that were told
abbrev pub told_unit : Option Bytes → List Bytes
told_unit None = []
told_unit (Some unit) = unit ∷ []

abbrev pub units_told : List Turn → List Bytes
units_told [] = []
units_told (t ∷ ts) = units_told ts ++ told_unit t.unit

-- the bytes of the answers, one after the other
abbrev pub answers_to : List Turn → Bytes
answers_to [] = []
answers_to (t ∷ ts) = answers_to ts ++ t.bytes

-- All answers but the newest were handed to the socket whole, and of that a front; the rest of it
-- is the output.
abbrev pub SendsInOrder : List Turn → (handed output : Bytes) → Type 0
SendsInOrder [] handed output = (handed ≡ []) × (output ≡ [])
SendsInOrder (t ∷ ts) handed output =
    (front : Bytes) × (handed ≡ answers_to ts ++ front) × (t.bytes ≡ front ++ output)

-- ---- whole connections

pub record AnswersInOrder (had : List PayloadEdition) (w : Service) : Type 0 where
  pub talk : IsTalk had w.turns
  pub goes_on : is_serving w.connection.phase ≡ true → AllKeepTalking had w.turns
  pub sends : SendsInOrder w.turns w.handed w.output
  pub sent : w.connection.unsent ≡ 0 → w.handed ≡ answers_to w.turns
  -- The units that were told are the first of the bytes that came, each once and in their order.
  -- The others wait, or are ignored: they came after the end, or weren't told before it, as at a
  -- break.
  pub untold : Bytes
  pub came : w.came ≡ concat (units_told w.turns) ++ untold
  pub waits : is_serving w.connection.phase ≡ true → untold ≡ w.input

-- Of these units, which the router sends, the first were told, each once and in order, and these
-- are left. Where an answer may begin, and `next` doesn't say to hear, no whole one that came is
-- among them. What `serve` hears is the next one.
pub record TellsInOrder (units : List Bytes) (w : Service) : Type 0 where
  pub left : List Bytes
  pub parts : units ≡ units_told w.turns ++ left
  pub told : (now number : ℕ) (p : Present) → is_free w.connection ≡ true
      → next_at w.connection now w.cache p number ≢ nexts.Hear → IsLessThanFirst left w.input
  pub hears : (now : ℕ) (p : Present) (kept : List ℕ) (s : Served) (after : Cache)
      → is_free w.connection ≡ true
      → HearsRouter w.cache now p kept w.input w.connection.closed s after
      → CacheHearsSent w.cache now p kept left w.input w.connection.closed s after
