-- What a client's numbers and buffers hold of a run of a router and its caller.
use Rattle.std.specs.Prelude.{◌≡◌, ◌≢◌, ℕ, Bool, false, ◌+◌, ◌≤◌, List, [], length, take, drop}
use Rattle.std.specs.Prelude.{Option, Some, None, if◌then◌else◌, ◌-◌, ◌^◌, min}
use Rattle.std.specs.List.{concat}
use Rattle.session_router.specs.declared.event.Action.{Action}
use Rattle.session_router.specs.declared.event.Action.TheVariants as actions
use Rattle.session_router.specs.declared.event.Event.{Event}
use Rattle.session_router.specs.declared.event.Event.TheVariants as events
use Rattle.session_router.specs.declared.router.Phase.TheVariants as phases
use Rattle.session_router.specs.declared.router.Router.{Router}
use Rattle.session_router.specs.Histories.{Caller, Host, IsHistory, Moment}
use Rattle.session_bytes.specs.ShownData.{AreHeard, ShowsAnswer}
use Rattle.session_client.specs.declared.applying.Applied.{Applied}
use Rattle.session_client.specs.declared.applying.Applied.TheVariants as applied
use Rattle.session_client.specs.Counting.{IsKeptCount}
use Rattle.session_client.specs.Makings.{Octets, MakesAll, MadeAnswer, WereMade}
use Rattle.session_router.specs.After.{new_router}
use Rattle.session_router.specs.declared.settings.Settings.{Settings}
use Rattle.session_bytes.specs.Reading.{Hears}
use Rattle.session_bytes.specs.declared.telling.Told.{Told}
use Rattle.session_bytes.specs.declared.telling.Told.TheVariants as told
use Rattle.session_client.specs.declared.client.Client.{Client}
use Rattle.session_client.specs.declared.hearing.Heard.{Heard}
use Rattle.session_client.specs.declared.hearing.Heard.TheVariants as heard
use Rattle.session_client.specs.declared.client.Holding.{Holding}
use Rattle.session_client.specs.declared.client.Holding.TheVariants as holdings

-- data that are shown are this many bytes at the front of a buffer
abbrev pub ShowsFront : Option Octets → Option ℕ → (buffer : Octets) → Type 0
ShowsFront None None buffer = Unit {0}
ShowsFront (Some d) (Some n) buffer = d ≡ take n buffer
ShowsFront _ _ buffer = ⊥

-- A whole answer is there, and its changes are to be made: its units, of this many bytes, stand at
-- the front of the input, and its end of data behind them.
pub record IsDue (c : Caller Octets Octets) (h : Host Octets Octets) (size : ℕ) (since : Bool)
    (kept : ℕ) (input : Octets) : Type 0 where
  pub units : List Octets
  pub end : Octets
  pub made : h.made ≡ c.make (if since then h.shown else None) units end
  pub units_are : concat units ≡ take kept input
  pub end_is : end ≡ take size (drop kept input)

-- what stands at the front of the input
abbrev pub Holds : Caller Octets Octets → Host Octets Octets → Holding → (kept : ℕ) →
    (input : Octets) → Type 0
Holds c h holdings.Nothing kept input = Unit {0}
Holds c h holdings.Units kept input = concat h.kept ≡ take kept input
Holds c h (holdings.Answer size since) kept input = IsDue c h size since kept input

-- units may come
abbrev pub IsHearing : Holding → Type 0
IsHearing (holdings.Answer size since) = ⊥
IsHearing m = Unit {0}

-- what a client tells its machine of itself, and of units that are refused
abbrev pub SaysItself : Router → Event → Type 0
SaysItself r (events.Came u) = ⊥
SaysItself r events.Applied = ⊥
SaysItself r events.Connected = r.phase ≡ phases.Connecting
SaysItself r e = Unit {0}

-- There is a run of the machine and of this caller, in which the machine was told of each unit by
-- its bytes; the input holds what the caller keeps, and the data are what it shows.
pub record RunsBeside (c : Caller Octets Octets) (r : Router) (m : Holding) (kept : ℕ)
    (shown : Option ℕ) (input buffer : Octets) : Type 0 where
  pub history : List (Moment Octets)
  pub host : Host Octets Octets
  pub run : IsHistory c history r host
  pub heard : AreHeard history
  pub shows : ShowsFront host.shown shown buffer
  pub holds : Holds c host m kept input

-- the same of a client
abbrev pub Stands : Caller Octets Octets → Client → (input buffer : Octets) → Type 0
Stands c k input buffer = RunsBeside c k.router k.holding k.kept k.shown input buffer

-- A client with these settings stands where a run of its machine does: these answers were made so
-- far, and of any caller that makes the same of them there is such a run. The machine counted the
-- payload units that are held.
pub record Running (s : Settings) (r : Router) (m : Holding) (kept : ℕ) (shown : Option ℕ)
    (input buffer : Octets) : Type 0 where
  pub made : List MadeAnswer
  pub were : WereMade made
  pub stands :
      (c : Caller Octets Octets) → c.settings ≡ s → MakesAll c made
      → RunsBeside c r m kept shown input buffer
  pub counts : IsKeptCount m r kept input

abbrev pub IsClient : Settings → Client → (input buffer : Octets) → Type 0
IsClient s k input buffer = Running s k.router k.holding k.kept k.shown input buffer

-- the bytes of an end of data whose changes are to be made
abbrev pub due_size : Holding → ℕ
due_size (holdings.Answer size since) = size
due_size m = 0

-- the numbers of a client are places in its input
pub record Fits (k : Client) (input : Octets) : Type 0 where
  pub kept : k.kept ≤ k.filled
  pub due : k.kept + due_size k.holding ≤ k.filled
  pub filled : k.filled ≤ length input

-- a client without data, and without a connection
abbrev pub new_client : Settings → Client
new_client s = record {
  router = new_router s;
  holding = holdings.Nothing;
  kept = 0;
  filled = 0;
  shown = None;
  unsent = 0;
  second = false;
  opened = false;
  closed = false;
}

-- one that goes on with a cache that was asked before
abbrev pub client_again : Client → Client
client_again k = record (new_client k.router.settings) {
  router = record (new_router k.router.settings) { wait = k.router.wait };
}

-- the payload units of an answer whose changes are to be made: this many bytes at the front of the
-- input
abbrev pub answer_at : Holding → (kept : ℕ) → Option (ℕ × Bool)
answer_at (holdings.Answer size since) kept = Some (kept, since)
answer_at m kept = None

abbrev pub whole_answer : Client → Option (ℕ × Bool)
whole_answer k = answer_at k.holding k.kept

-- how many bytes of data are shown after an action
abbrev pub shown_after : Action → Option ℕ → Option ℕ
shown_after actions.Drop n = None
shown_after (actions.End x) n = if x.drop then None else n
shown_after _ n = n

-- what stands at the front of the input after an end of data of this many bytes
abbrev pub due_after : Holding → ℕ → Bool → Holding
due_after holdings.Units size since = holdings.Answer size since
due_after m size since = holdings.Nothing

-- the most bytes that the changes of an answer make: those of what they are made of, and of the
-- answer
abbrev pub base_room : (since : Bool) → Option ℕ → (size : ℕ) → ℕ
base_room since None size = size
base_room since (Some n) size = if since then n else size

abbrev pub room_for : (since : Bool) → Option ℕ → (size kept : ℕ) → ℕ
room_for since shown size kept = base_room since shown size + (kept + size)

abbrev pub room_at : Holding → Option ℕ → (kept : ℕ) → ℕ
room_at (holdings.Answer size since) shown kept = room_for since shown size kept
room_at m shown kept = 0

-- the other buffer needs more room
abbrev pub WantsData : Applied → Type 0
WantsData (applied.Data n) = Unit {0}
WantsData _ = ⊥

-- a buffer needs more room
abbrev pub WantsIndex : Applied → Type 0
WantsIndex (applied.Index n) = Unit {0}
WantsIndex _ = ⊥

abbrev pub WantsRoom : Applied → Type 0
WantsRoom (applied.Data n) = Unit {0}
WantsRoom (applied.Index n) = Unit {0}
WantsRoom _ = ⊥

-- new data are shown
abbrev pub ShowsNew : Applied → Type 0
ShowsNew (applied.Shown n) = Unit {0}
ShowsNew _ = ⊥

-- the changes of an answer show data by `Shown` alone
abbrev pub ShowsByThis : Applied → Type 0
ShowsByThis (applied.Acted action refusal offset) = action ≢ actions.Show
ShowsByThis _ = Unit {0}

-- as much as the changes may make, or a place for each unit
abbrev pub AsksRoom : Applied → (most units : ℕ) → Type 0
AsksRoom (applied.Data n) most units = n ≡ min most (2 ^ 64 - 1)
AsksRoom (applied.Index n) most units = n ≡ units
AsksRoom _ most units = Unit {0}

-- the buffer of the data after an answer
abbrev pub data_after : Applied → (held made : Octets) → Octets
data_after (applied.Shown n) held made = made
data_after _ held made = held

-- The bytes that are shown are those of a whole answer, in a run of the machine in which it was
-- told of units by their bytes.
pub record ShowsWholeAnswer (s : Settings) (k : Client) (buffer : Octets) : Type 0 where
  pub caller : Caller Octets Octets
  pub settings : caller.settings ≡ s
  pub history : List (Moment Octets)
  pub host : Host Octets Octets
  pub run : IsHistory caller history k.router host
  pub heard : AreHeard history
  pub size : ℕ
  pub shown : k.shown ≡ Some size
  pub whole : ShowsAnswer s history k.router.known (take size buffer)

-- of two buffers the data that are shown are the same
abbrev pub SameShown : Option ℕ → (buffer buffer' : Octets) → Type 0
SameShown None buffer buffer' = Unit {0}
SameShown (Some n) buffer buffer' = take n buffer ≡ take n buffer'

-- Of two inputs and two buffers what a client says is there is the same: of those that grew, and of
-- an input where bytes were read to behind what is there.
pub record SameThere (k : Client) (input input' buffer buffer' : Octets) : Type 0 where
  pub front : take k.filled input ≡ take k.filled input'
  pub shown : SameShown k.shown buffer buffer'

-- the buffer that the data stand in
abbrev pub data_in : Bool → (first second : Octets) → Octets
data_in b first second = if b then second else first

-- what a caller said stays
pub record SameCalls (k k' : Client) : Type 0 where
  pub second : k'.second ≡ k.second
  pub opened : k'.opened ≡ k.opened
  pub closed : k'.closed ≡ k.closed

-- ---- what the machine wasn't told of yet

abbrev pub untold : Client → (input : Octets) → Octets
untold k input = drop (k.kept + due_size k.holding) (take k.filled input)

-- What is left of it after an action at its first bytes: what follows them, or nothing where a
-- connection ends or is to be made.
abbrev pub LeavesInput : Action → ℕ → (before after : Octets) → Type 0
LeavesInput (actions.End x) n before after = after ≡ []
LeavesInput actions.Connect n before after = after ≡ []
LeavesInput a n before after = after ≡ drop n before

-- The machine was told of what it wasn't told of yet, and this is left.
abbrev pub LeavesTold : Told → (before after : Octets) → Type 0
LeavesTold told.Awaits before after = after ≡ before
LeavesTold (told.Kept k) before after = after ≡ drop k before
LeavesTold (told.Acted start end a) before after = LeavesInput a end before after
LeavesTold (told.Refused e a) before after = LeavesInput a 0 before after

pub record HearsAll (r : Router) (n : ℕ) (ended : Bool) (before after : Octets) (r' : Router) :
    Type 0 where
  pub told : Told
  pub hears : Hears r n before ended told r'
  pub leaves : LeavesTold told before after

abbrev pub IsAwaits : Heard → Type 0
IsAwaits heard.Awaits = Unit {0}
IsAwaits _ = ⊥
