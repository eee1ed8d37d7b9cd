-- Clients as the members of a group, with their buffers: the bytes that the group shows.
use Rattle.std.specs.Prelude.{◌≡◌, ℕ, List, [], ◌∷◌, Some, None}
use Rattle.session_router.specs.declared.settings.Settings as routers
use Rattle.session_client.specs.Holding.{Fits, IsClient, SameThere, ShowsFront, ShowsWholeAnswer}
use Rattle.session_client.specs.Makings.{Octets}
use Rattle.session_client.specs.declared.next.Todo.{Todo}
use Rattle.session_group.specs.declared.event.Event.{Event}
use Rattle.session_group.specs.declared.event.Event.TheVariants as events
use Rattle.session_group.specs.declared.group.Group.{Group}
use Rattle.session_group.specs.declared.settings.Settings.{Settings}
use Rattle.session_group.specs.Groups.{answer, group_after, group_ticked, tick_answer}
use Rattle.session_group.specs.Runs.{GroupMoment, IsBest, IsNewGroup, Listener, caller_after}
use Rattle.session_group.specs.Runs.{caller_ticked, first_caller}
use Rattle.session_group.specs.Runs.Happened.{time_passed, to_member}
use Rattle.session_group_laws.specs.Members.{CallsMember, MemberClient, todo_tells, with_member}

-- ---- what is shown

-- These bytes are the data of a client: the first ones of its data buffer, as many as it says.
abbrev pub ClientHas : Octets → MemberClient → Type 0
ClientHas d x = ShowsFront (Some d) x.client.shown x.held

-- The group shows nothing, and no member has data; or it shows the data of one member, the best.
-- The bytes of these data, which came with the last data that this member's client told, are still
-- the data of that client; and one whole answer of its cache made them.
pub data ShowsDataOfClient (bytes : ℕ → Octets) (t : ℕ → routers.Settings) (c : Listener ℕ)
    (xs : ℕ → MemberClient) : Type 0 where
  shows_none :
      c.shown ≡ None → ((i : ℕ) → (c.members i).has ≡ None) → ShowsDataOfClient bytes t c xs
  shows_one :
      (k d : ℕ) → c.shown ≡ Some d → IsBest c k d → ClientHas (bytes d) (xs k)
      → ShowsWholeAnswer (t k) (xs k).client (xs k).held
      → ShowsDataOfClient bytes t c xs

-- ---- what a caller does

-- a client with these settings, whatever calls of it were made
abbrev pub IsMemberClient : routers.Settings → MemberClient → Type 0
IsMemberClient s x = IsClient s x.client x.input x.held

-- One call, as its contract says; the client stays one.
pub record CallsClient (x x' : MemberClient) (t : Todo) : Type 0 where
  pub calls : CallsMember x x' t
  pub serves : (s : routers.Settings) → IsMemberClient s x → IsMemberClient s x'

-- With new data come the bytes that are the client's data then.
abbrev pub ComesWith : Event → Octets → MemberClient → Type 0
ComesWith (events.Shows p) d x = ClientHas d x
ComesWith e d x = Unit {0}

-- Between two calls its caller sends, opens and loses connections, reads into the input from the
-- offset `filled` on, and moves buffers or makes them longer.
pub record MovesClient (x x' : MemberClient) : Type 0 where
  pub fits : Fits x.client x.input
  pub same : SameThere x.client x.input x'.input x.held x'.held
  pub client :
      x'.client ≡ record x.client {
        filled = x'.client.filled;
        unsent = x'.client.unsent;
        opened = x'.client.opened;
        closed = x'.client.closed;
      }

-- ---- runs

-- Any run of a group of so many clients with these settings, from when it was made: with its
-- history, the group, its caller, and the clients. Whatever calls are made, of whichever clients,
-- and whenever. Its caller numbers the data that it is told of, and these are the bytes of each.
pub data IsRunOfClients (count : ℕ) (s : Settings) (t : ℕ → routers.Settings)
    (bytes : ℕ → Octets) :
    List (GroupMoment ℕ) → Group → Listener ℕ → (ℕ → MemberClient) → Type 0 where
  clients_begin :
      (n : ℕ) (g : Group) (xs : ℕ → MemberClient)
      → IsNewGroup count s n g → ((i : ℕ) → IsMemberClient (t i) (xs i))
      → IsRunOfClients count s t bytes [] g (first_caller count s n) xs
  -- a call of a client, of which the group is told
  client_tells :
      (m n p d : ℕ) (todo : Todo) (e : Event) (x' : MemberClient)
      (ms : List (GroupMoment ℕ)) (g : Group) (c : Listener ℕ) (xs : ℕ → MemberClient)
      → IsRunOfClients count s t bytes ms g c xs
      → CallsClient (xs m) x' todo → todo_tells p todo ≡ Some e → ComesWith e (bytes d) x'
      → IsRunOfClients count s t bytes
      (record { now = n; happened = to_member m e d; answer = answer g n m e } ∷ ms)
      (group_after g n m e)
      (caller_after c n m e d (answer g n m e))
      (with_member xs m x')
  -- a call that is no event
  client_is_silent :
      (m p : ℕ) (todo : Todo) (x' : MemberClient)
      (ms : List (GroupMoment ℕ)) (g : Group) (c : Listener ℕ) (xs : ℕ → MemberClient)
      → IsRunOfClients count s t bytes ms g c xs
      → CallsClient (xs m) x' todo → todo_tells p todo ≡ None
      → IsRunOfClients count s t bytes ms g c (with_member xs m x')
  client_is_moved :
      (m : ℕ) (x' : MemberClient)
      (ms : List (GroupMoment ℕ)) (g : Group) (c : Listener ℕ) (xs : ℕ → MemberClient)
      → IsRunOfClients count s t bytes ms g c xs → MovesClient (xs m) x'
      → IsRunOfClients count s t bytes ms g c (with_member xs m x')
  -- the client of a member without data is begun anew, as `new` and `again` do
  client_begins_anew :
      (m : ℕ) (x' : MemberClient)
      (ms : List (GroupMoment ℕ)) (g : Group) (c : Listener ℕ) (xs : ℕ → MemberClient)
      → IsRunOfClients count s t bytes ms g c xs
      → (c.members m).has ≡ None → IsMemberClient (t m) x'
      → IsRunOfClients count s t bytes ms g c (with_member xs m x')
  -- the patience may be over
  clients_wait :
      (n : ℕ)
      (ms : List (GroupMoment ℕ)) (g : Group) (c : Listener ℕ) (xs : ℕ → MemberClient)
      → IsRunOfClients count s t bytes ms g c xs
      → IsRunOfClients count s t bytes
      (record { now = n; happened = time_passed; answer = tick_answer g n } ∷ ms)
      (group_ticked g n)
      (caller_ticked c n (tick_answer g n))
      xs
