-- What the units of a recording leave, taken one after the other.
--
-- An answer is what a cache sends to a query: a cache response, payload units, and an end of data,
-- which says that the answer is whole (RFC 8210 sections 5.5, 5.8 and 8.1). The data are those of
-- whole answers: as a router does, the recording keeps them until the end of data of the next one,
-- so that an answer that the next cache response cuts off leaves all as it was. An answer changes
-- the data before it in the same session (section 8.2), and begins anew in another (section 5.1).
--
-- That units without a cache response open an answer too, in the session of the last whole one, and
-- what is ignored, is this library's own.
use Rattle.std.specs.Prelude.{ℕ, Bool, true, false, not, ◌||◌, ◌&&◌, ◌==◌, List, [], ◌∷◌}
use Rattle.std.specs.Prelude.{Option, Some, None, Result, Ok, Err, ⊤, if◌then◌else◌}
use Rattle.std.specs.List.{AllByRecursion}
use Rattle.std.specs.Option.{is_some, option_map}
use Rattle.std.specs.declared.cmp.Ordering.{Ordering}
use Rattle.std.specs.declared.cmp.Ordering.TheVariants.{Less, Equal, Greater}
use Rattle.rtr_base.specs.Serial.{serial_cmp}
use Rattle.rtr_units.specs.End.{EndMeaning}
use Rattle.rtr_payload.specs.Payloads.{Payload}
use Rattle.rtr_payload.specs.UnitFields.{meaning}
use Rattle.data_memory.specs.Data.{after}
use Rattle.data_memory.specs.Sequences.{change_of}
use Rattle.data_memory.specs.declared.change_error.ChangeError.{ChangeError}
use Rattle.unit_any.specs.AnyFields.{AnyFields, cache_response, payload, end_of_data}
use Rattle.unit_any.specs.AnyFields.{cache_reset, error_report, reset_query}
use Rattle.unit_any.specs.AnyFields.{serial_query}
use Rattle.data_recordings.specs.declared.stop.Refusal.{Refusal}
use Rattle.data_recordings.specs.declared.stop.Refusal.TheVariants.{CacheReset, Change, ErrorReport}
use Rattle.data_recordings.specs.declared.stop.Refusal.TheVariants.{Serial, Session}

-- an answer whose end of data hasn't come
pub record OpenAnswer : Type 0 where
  -- the payloads that its units have made so far
  pub payloads : List Payload
  -- its session, if its cache response or the whole answer before it says one
  pub session : Option ℕ
  -- the serial number of the data that it changes; none if it began anew, or was the first
  pub since : Option ℕ
  -- whether it is to a request for all data
  pub has_all : Bool

-- what so much of a recording leaves
pub record SoMuch : Type 0 where
  -- the payloads that the whole answers leave
  pub kept : List Payload
  -- the end of data of the last whole answer
  pub end : Option EndMeaning
  -- the answer that is open, if one is
  pub pending : Option OpenAnswer
  -- whether all data were asked for, if anything was since the last answer began
  pub asks_all : Option Bool
  -- whether an answer was cut off
  pub has_cut : Bool

-- before the first unit
abbrev pub nothing : SoMuch
nothing = record {
  kept = [];
  end = None;
  pending = None;
  asks_all = None;
  has_cut = false;
}

-- ---- cache responses (RFC 8210 section 5.5)

abbrev pub last_session : SoMuch → Option ℕ
last_session m = option_map (λ end. end.session) m.end

abbrev pub last_serial : SoMuch → Option ℕ
last_serial m = option_map (λ end. end.serial) m.end

-- the session is another than that before it
abbrev pub is_other : (last session : Option ℕ) → Bool
is_other None session = false
is_other (Some last) None = false
is_other (Some last) (Some session) = not (last == session)

-- Whether the next answer is to a request for all data. After an answer that was cut off, with
-- nothing asked since, it is to the same request.
abbrev pub wants_all : (asks_all : Option Bool) → (cut : Option OpenAnswer) → Bool
wants_all (Some all) cut = all
wants_all None (Some cut) = cut.has_all
wants_all None None = false

abbrev pub is_wanted : SoMuch → Bool
is_wanted m = wants_all m.asks_all m.pending

-- An answer begins anew to a request for all data (RFC 8210 sections 5.4, 5.9 and 8.3), and in
-- another session than the last whole answer (section 5.1).
abbrev pub begins_anew : SoMuch → (session : Option ℕ) → Bool
begins_anew m session = is_wanted m || is_other (last_session m) session

-- One that begins anew has no payloads before it, and no serial number. The data themselves stay.
abbrev pub begun_if : (anew : Bool) → SoMuch → (session : Option ℕ) → OpenAnswer
begun_if true m session = record {
  payloads = [];
  session = session;
  since = None;
  has_all = is_wanted m;
}
begun_if false m session = record {
  payloads = m.kept;
  session = session;
  since = last_serial m;
  has_all = is_wanted m;
}

-- the answer of this session that begins next
abbrev pub begun_in : SoMuch → (session : Option ℕ) → OpenAnswer
begun_in m session = begun_if (begins_anew m session) m session

-- a cache response opens an answer, and cuts off the one that is open
abbrev pub opens_answer : SoMuch → (session : ℕ) → SoMuch
opens_answer m session = record m {
  pending = Some (begun_in m (Some session));
  asks_all = None;
  has_cut = m.has_cut || is_some m.pending;
}

-- units without a cache response before them open one, too, where none is
abbrev pub open_in : (pending : Option OpenAnswer) → SoMuch → OpenAnswer
open_in (Some answer) m = answer
open_in None m = begun_in m (last_session m)

-- the answer that the next payload unit or end of data is of
abbrev pub current : SoMuch → OpenAnswer
current m = open_in m.pending m

-- what was asked since that answer began
abbrev pub asked_since : (pending : Option OpenAnswer) → (asks_all : Option Bool) → Option Bool
asked_since (Some answer) asks_all = asks_all
asked_since None asks_all = None

-- it is open
abbrev pub with_open : SoMuch → SoMuch
with_open m = record m {
  pending = Some (current m);
  asks_all = asked_since m.pending m.asks_all;
}

-- ---- payload units (RFC 8210 sections 5.6, 5.7 and 5.10)

abbrev pub with_payloads : OpenAnswer → List Payload → OpenAnswer
with_payloads answer d = record answer { payloads = d }

-- the change of a payload unit was made, in the answer that is then open, or it is refused
abbrev pub with_change : SoMuch → Result (List Payload) ChangeError → Result SoMuch Refusal
with_change m (Ok d) = Ok (record (with_open m) { pending = Some (with_payloads (current m) d) })
with_change m (Err e) = Err (Change e)

-- ---- ends of data (RFC 8210 section 5.8)

-- the answer is whole: what it made is kept, in the place of what was before
abbrev pub whole : SoMuch → List Payload → EndMeaning → SoMuch
whole m d end = record m { kept = d; end = Some end; pending = None }

-- a serial number comes before another (RFC 1982)
abbrev pub is_less : Option Ordering → Bool
is_less None = false
is_less (Some Less) = true
is_less (Some Equal) = false
is_less (Some Greater) = false

abbrev pub is_before : (serial last : ℕ) → Bool
is_before serial last = is_less (serial_cmp serial last)

-- the serial number of changes doesn't come before that of the data that they change
abbrev pub refused_since : (since : Option ℕ) → (serial : ℕ) → Option Refusal
refused_since None serial = None
refused_since (Some last) serial = if is_before serial last then Some (Serial serial last) else None

-- the session of the end of data has to be that of its answer, if that has one
abbrev pub refused_in : (session since : Option ℕ) → EndMeaning → Option Refusal
refused_in None since end = refused_since since end.serial
refused_in (Some begun) since end =
    if begun == end.session then refused_since since end.serial
    else Some (Session end.session begun)

-- why an end of data can't close an answer
abbrev pub refusal_in : OpenAnswer → EndMeaning → Option Refusal
refusal_in answer end = refused_in answer.session answer.since end

abbrev pub unless_refused : Option Refusal → SoMuch → Result SoMuch Refusal
unless_refused None m = Ok m
unless_refused (Some why) m = Err why

-- an end of data closes the answer
abbrev pub closed : SoMuch → EndMeaning → Result SoMuch Refusal
closed m end =
    unless_refused (refusal_in (current m) end) (whole (with_open m) (current m).payloads end)

-- ---- units that end a session, or an answer that none came for

-- where an answer is open the unit is refused
abbrev pub unless_open : Option OpenAnswer → Refusal → SoMuch → Result SoMuch Refusal
unless_open (Some answer) why m = Err why
unless_open None why m = Ok m

-- ---- units in turn

-- What one unit makes of what came before it, or why it is refused. A reset query asks for all
-- data, and a serial query for changes (RFC 8210 sections 5.3 and 5.4); after a cache reset all
-- data have to be asked for (sections 5.9 and 8.3). A cache reset answers a serial query in the
-- place of a cache response, and an error report ends the session (section 5.11), so that neither
-- stands inside an answer. Serial notifies are ignored.
abbrev pub step : AnyFields → SoMuch → Result SoMuch Refusal
step (payload fields) m = with_change m (after (change_of (meaning fields)) (current m).payloads)
step (cache_response version session) m = Ok (opens_answer m session)
step (end_of_data end) m = closed m end
step (cache_reset version session) m =
    unless_open m.pending CacheReset (record m { asks_all = Some true })
step (error_report version code body) m = unless_open m.pending ErrorReport m
step (reset_query version session) m = Ok (record m { asks_all = Some true })
step (serial_query version session serial) m = Ok (record m { asks_all = Some false })
step others m = Ok m

-- what units in turn make of it, up to the first that is refused
abbrev pub held_after : List AnyFields → Result SoMuch Refusal → Result SoMuch Refusal
held_after [] r = r
held_after (unit ∷ units) (Ok m) = held_after units (step unit m)
held_after (unit ∷ units) (Err e) = Err e

-- the recording is whole: an answer came, and none is open
abbrev pub is_whole : SoMuch → Bool
is_whole m = not (is_some m.pending) && is_some m.end

abbrev pub IsNoEnd : AnyFields → Type 0
IsNoEnd (end_of_data end) = ⊥
IsNoEnd others = ⊤

-- no end of data is among the units
abbrev pub HasNoEnd : List AnyFields → Type 0
HasNoEnd = AllByRecursion IsNoEnd
