-- What a caller of the calls for a router's end has to do next, as C is told (this library's own).
use Rattle.std.specs.Prelude.{◌≡◌, ℕ, ◌+◌, ◌-◌, ◌^◌, ◌≤◌, ◌<◌, Bool, true, false, length, min}
use Rattle.std.specs.Prelude.{Option, Some, None, if◌then◌else◌}
use Rattle.std.specs.Option.{is_some, unwrap_or}
use Rattle.rtr_payload.specs.declared.pdu.prefix_rule.PrefixRule.{PrefixRule}
use Rattle.session_router.specs.Pace.{wakes_at}
use Rattle.session_router.specs.Step.{IsStep}
use Rattle.session_router.specs.declared.event.Action.{Action}
use Rattle.session_router.specs.declared.event.Cause.{Cause}
use Rattle.session_router.specs.declared.event.Cause.TheVariants as causes
use Rattle.session_router.specs.declared.event.Ending.{Ending}
use Rattle.session_router.specs.declared.event.Event.TheVariants as events
use Rattle.session_router.specs.declared.settings.Settings.{Settings}
use Rattle.session_bytes.specs.declared.refusal.Refusal.{Refusal}
use Rattle.session_bytes.specs.declared.refusal.Refusal.TheVariants as refusals
use Rattle.session_client.specs.Calls.{closed_after, is_data, opened_after, said_after}
use Rattle.session_client.specs.Calls.{second_after}
use Rattle.session_client.specs.Counting.{CountsKept}
use Rattle.session_client.specs.Holding.{Fits, IsClient, IsHearing, data_in, room_at}
use Rattle.session_client.specs.Makings.{Octets, ShowsMade}
use Rattle.session_client.specs.Next.{IsDataRoom, IsIndexRoom, IsInputRoom, IsOutputRoom, IsRoom}
use Rattle.session_client.specs.Next.{IsTodoOf, IsWait, NamesRoom, RestsNow, Turns}
use Rattle.session_client.specs.Over.{IfNamed, IsOverNone, none_of, over_of}
use Rattle.session_client.specs.Said.{given_up, with_room}
use Rattle.session_client.specs.Tells.{TellsCall}
use Rattle.session_client.specs.Turning.{HasAnswer, IsTurn, turns_left}
use Rattle.session_client.specs.Words.{IsOfAsking, IsOfEvent, IsOfNext, IsUntold}
use Rattle.session_client.specs.declared.client.Client.{Client}
use Rattle.session_client.specs.declared.next.Todo.{Todo}
use Rattle.session_client.specs.declared.next.Todo.TheVariants as todos
use Rattle.rtr_c.specs.Answers.{rtr_duplicate, rtr_empty_providers, rtr_prefix, rtr_short}
use Rattle.rtr_c.specs.Answers.{rtr_too_long, rtr_unit_length, rtr_unit_type, rtr_unit_version}
use Rattle.rtr_c.specs.Answers.{rtr_ok, rtr_unknown, rule_number}
use Rattle.rtr_c.specs.Links.{IsPlainLink, came_before, client_of, is_begun}
use Rattle.rtr_c.specs.RouterActions.{cause_number}
use Rattle.rtr_c.specs.declared.link.RtrLink.{RtrLink}
use Rattle.rtr_c.specs.declared.link_todo.RtrTodo.{RtrTodo}

-- ---- the numbers

-- the call was refused
abbrev pub todo_nothing : ℕ
todo_nothing = 0

abbrev pub todo_go : ℕ
todo_go = 1

abbrev pub todo_wait : ℕ
todo_wait = 2

abbrev pub todo_connect : ℕ
todo_connect = 3

abbrev pub todo_close : ℕ
todo_close = 4

abbrev pub todo_data : ℕ
todo_data = 5

abbrev pub todo_dropped : ℕ
todo_dropped = 6

abbrev pub todo_no_data : ℕ
todo_no_data = 7

abbrev pub todo_input_room : ℕ
todo_input_room = 8

abbrev pub todo_first_room : ℕ
todo_first_room = 9

abbrev pub todo_second_room : ℕ
todo_second_room = 10

abbrev pub todo_index_room : ℕ
todo_index_room = 11

abbrev pub todo_output_room : ℕ
todo_output_room = 12

-- ---- what is told

abbrev rule_detail : Option PrefixRule → ℕ
rule_detail None = 0
rule_detail (Some rule) = rule_number rule

-- the status of a unit or a change that is refused, or that of none
abbrev pub status_of_refusal : Option Refusal → ℕ
status_of_refusal None = rtr_ok
status_of_refusal (Some refusals.Short) = rtr_short
status_of_refusal (Some (refusals.UnitType t)) = rtr_unit_type
status_of_refusal (Some (refusals.UnitVersion v)) = rtr_unit_version
status_of_refusal (Some refusals.TooLong) = rtr_too_long
status_of_refusal (Some refusals.UnitLength) = rtr_unit_length
status_of_refusal (Some refusals.EmptyProviders) = rtr_empty_providers
status_of_refusal (Some (refusals.Prefix rule)) = rtr_prefix
status_of_refusal (Some refusals.Duplicate) = rtr_duplicate
status_of_refusal (Some refusals.Unknown) = rtr_unknown

-- the type or the version that is refused, or the rule that is broken
abbrev pub detail_of_refusal : Option Refusal → ℕ
detail_of_refusal (Some (refusals.UnitType t)) = t
detail_of_refusal (Some (refusals.UnitVersion v)) = v
detail_of_refusal (Some (refusals.Prefix rule)) = rule_detail rule
detail_of_refusal _ = 0

abbrev pub plain_todo : (kind wakes : ℕ) → RtrTodo
plain_todo kind wakes = record {
  wakes = wakes;
  position = 0;
  room = 0;
  offset = 0;
  code = 0;
  kind = kind;
  cause = 0;
  status = 0;
  detail = 0;
  drops = false;
  reports = false;
}

abbrev pub room_todo : (kind room wakes : ℕ) → RtrTodo
room_todo kind room wakes = record (plain_todo kind wakes) { room = room }

abbrev pub close_todo : Ending → Option Refusal → (offset position wakes : ℕ) → RtrTodo
close_todo x refusal offset position wakes = record (plain_todo todo_close wakes) {
  position = position;
  offset = offset;
  code = (unwrap_or x.report (record { 0 = 0 })).0;
  cause = cause_number x.cause;
  status = status_of_refusal refusal;
  detail = detail_of_refusal refusal;
  drops = x.drop;
  reports = is_some x.report;
}

-- the offset of a unit in all bytes of the connection, of which `before` came before the input's
abbrev pub position_after : (before offset : ℕ) → ℕ
position_after before offset = min (before + offset) (2 ^ 64 - 1)

-- a change that isn't applied has its offset in the answer
abbrev pub position_told : Cause → (offset before : ℕ) → ℕ
position_told causes.NotApplied offset before = offset
position_told _ offset before = position_after before offset

-- What a caller has to do next, where the data are in the second buffer or not, `before` bytes of
-- the connection came before those of the input, and the machine is to be called again at this
-- time.
abbrev pub todo_told : Todo → (second : Bool) → (before wakes : ℕ) → RtrTodo
todo_told todos.Go second before wakes = plain_todo todo_go wakes
todo_told todos.Wait second before wakes = plain_todo todo_wait wakes
todo_told todos.Connect second before wakes = plain_todo todo_connect wakes
todo_told (todos.Close x refusal offset) second before wakes =
    close_todo x refusal offset (position_told x.cause offset before) wakes
todo_told todos.Data second before wakes = plain_todo todo_data wakes
todo_told todos.Dropped second before wakes = plain_todo todo_dropped wakes
todo_told (todos.NoData offset) second before wakes =
    record (plain_todo todo_no_data wakes) {
      position = position_after before offset;
      offset = offset;
    }
todo_told (todos.InputRoom n) second before wakes = room_todo todo_input_room n wakes
todo_told (todos.DataRoom n) second before wakes =
    room_todo (if second then todo_first_room else todo_second_room) n wakes
todo_told (todos.IndexRoom n) second before wakes = room_todo todo_index_room n wakes
todo_told (todos.OutputRoom n) second before wakes = room_todo todo_output_room n wakes

-- a refused call leaves nothing to do
abbrev pub refused_todo : RtrTodo
refused_todo = plain_todo todo_nothing 0

-- ---- the calls

-- a new connection has no bytes yet
abbrev pub received_after : Todo → (received : ℕ) → ℕ
received_after todos.Connect n = 0
received_after _ n = n

-- After a call at this time the struct, which was `was`, stands for a client whose offsets are in
-- the buffers, and this is to be done.
pub record TellsTodo (now : ℕ) (was l : RtrLink) (input output : Octets) (a : RtrTodo) (t : Todo) :
    Type 0 where
  pub told :
      a ≡ todo_told t (client_of l).second (came_before was) (wakes_at (client_of l).router)
  pub latest : l.latest ≡ now
  pub received : l.received ≡ received_after t was.received
  pub begun : is_begun l ≡ true
  pub plain : IsPlainLink l
  pub fits : Fits (client_of l) input
  pub room : l.unsent ≤ length output

-- What `Client::next` promises of the client that the struct stands for, where the data are in
-- `held` before and in `made` after.
pub record TakesTurn (now : ℕ) (k : Client) (input first second : Octets) (places : ℕ)
    (output : Octets) (k' : Client) (input' first' second' output' : Octets) (t : Todo) :
    Type 0 where
  pub serves :
      (s : Settings) → IsClient s k input (data_in k.second first second)
      → IsClient s k' input' (data_in k'.second first' second')
  pub opened : k'.opened ≡ opened_after now k (length output) t
  pub closed : k'.closed ≡ closed_after now k input (length output) t
  pub in_second : k'.second ≡ second_after t k.second
  pub held : data_in k.second first' second' ≡ data_in k.second first second
  pub turns : Turns t now k.router k'.router k.unsent k'.unsent output output'
  pub told :
      TellsCall
      (IsOfNext now k input (data_in k.second first second) (length output) places
      (data_in k.second second first) (data_in k.second second' first'))
      t now k input (data_in k.second first second) k' input' (data_in k'.second first' second')
      output output'
  pub full : NamesRoom t k' input' output'
  pub first_of_all : length output < k.unsent + 65535 → IsOutputRoom t
  pub names :
      IfNamed t (over_of now k input (data_in k.second first second) k' output output')
      (none_of now k input k' input')
  pub ends : IsTurn t → turns_left k' input' < turns_left k input
  pub still : IsRoom t → (k' ≡ k) × (input' ≡ input)
  pub index : CountsKept k input → k.router.units ≤ places → IsIndexRoom t → ⊥
  pub enough :
      room_at k.holding k.shown k.kept ≤ length (data_in k.second second first)
      → IsDataRoom t → ⊥
  pub short :
      HasAnswer k.holding → k.unsent + 65535 ≤ length output
      → length (data_in k.second second first)
      < min (room_at k.holding k.shown k.kept) (2 ^ 64 - 1)
      → IsDataRoom t
  pub rests : IsWait t → RestsNow now k input
  pub acts : HasAnswer k.holding → k.unsent + 65535 ≤ length output → IsWait t → ⊥
  pub input_room : HasAnswer k.holding → IsInputRoom t → ⊥
  pub index_room : IsIndexRoom t → HasAnswer k.holding
  pub over_none : IsHearing k.holding → IsUntold now k → IsOverNone t
  pub spare :
      IsHearing k.holding
      → data_in k.second second' first' ≡ data_in k.second second first
  pub whole :
      is_data t ≡ true
      → ShowsMade k.holding k.kept k.shown input (data_in k.second first second) places
      (data_in k.second second first) (data_in k.second second' first') k'.shown

-- What `Client::ask_now` and `Client::give_up` promise, but for the event. Before it this many
-- bytes were still to be sent.
pub record TakesEvent (now : ℕ) (k : Client) (input output : Octets) (k' : Client)
    (input' output' : Octets) (t : Todo) : Type 0 where
  pub serves :
      (s : Settings) (buffer : Octets) → IsClient s k input buffer → IsClient s k' input' buffer
  pub second : k'.second ≡ k.second
  pub opened : k'.opened ≡ said_after t k.opened
  pub closed : k'.closed ≡ said_after t k.closed
  pub turns : Turns t now k.router k'.router k.unsent k'.unsent output output'
  pub names :
      (held : Octets)
      → IfNamed t (over_of now k input held k' output output') (none_of now k input k' input')
  pub over_none : IsOverNone t

-- The caller wants the present data; where the output has no room, nothing has happened.
pub record AsksNow (now : ℕ) (k : Client) (input output : Octets) (k' : Client)
    (input' output' : Octets) (t : Todo) : Type 0 where
  pub takes : TakesEvent now k input output k' input' output' t
  pub told :
      (held : Octets)
      → TellsCall (IsOfAsking k (length output)) t now k input held k' input' held output output'
  pub full : NamesRoom t k' input' output'
  pub first_of_all : length output < k.unsent + 65535 → IsOutputRoom t
  pub still : IsRoom t → (k' ≡ k) × (input' ≡ input)
  pub asks :
      k.unsent + 65535 ≤ length output
      → (a : Action) × IsTodoOf (Some a) t × IsStep k.router now events.Asked a k'.router

-- The caller gives a buffer no more room.
pub record GivesUpRoom (now : ℕ) (k : Client) (input output : Octets) (k' : Client)
    (input' output' : Octets) (t : Todo) : Type 0 where
  pub takes :
      TakesEvent now (record k { unsent = with_room k.unsent (length output) }) input output k'
      input' output' t
  pub told :
      (held : Octets)
      → TellsCall (IsOfEvent (given_up k.router.phase)) t now
      (record k { unsent = with_room k.unsent (length output) }) input held k' input' held output
      output'
  pub gives :
      (a : Action) × IsTodoOf (Some a) t × IsStep k.router now (given_up k.router.phase) a k'.router
