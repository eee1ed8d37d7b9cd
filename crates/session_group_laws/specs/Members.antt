-- Clients as the members of a group: what each has to do next is told to the group, once.
use Rattle.std.specs.Prelude.{◌≡◌, ℕ, ◌==◌, List, [], ◌∷◌, Option, Some, None, if◌then◌else◌}
use Rattle.session_router.specs.declared.event.Action.{Action}
use Rattle.session_client.specs.Makings.{Octets}
use Rattle.session_client.specs.Next.{IsTodoOf}
use Rattle.session_client.specs.Tells.{TakesCall}
use Rattle.session_client.specs.declared.client.Client.{Client}
use Rattle.session_client.specs.declared.next.Todo.{Todo}
use Rattle.session_client.specs.declared.next.Todo.TheVariants as todos
use Rattle.session_group.specs.declared.event.Event.{Event}
use Rattle.session_group.specs.declared.event.Event.TheVariants as events
use Rattle.session_group.specs.declared.group.Group.{Group}
use Rattle.session_group.specs.declared.settings.Settings.{Settings}
use Rattle.session_group.specs.Ends.{tells, tells_at_end}
use Rattle.session_group.specs.Groups.{answer, group_after, group_ticked, tick_answer}
use Rattle.session_group.specs.Runs.{GroupMoment, IsNewGroup, Listener, caller_after}
use Rattle.session_group.specs.Runs.{caller_ticked, first_caller}
use Rattle.session_group.specs.Runs.Happened.{time_passed, to_member}

-- ---- the event of what a client has to do next

-- At most one: new data of this number of payloads, a loss of data, or a failure. A connection that
-- ends for another version is none, nor is what the client waits, sends, or has no room for.
abbrev pub todo_tells : (payloads : ℕ) → Todo → Option Event
todo_tells p todos.Data = Some (events.Shows p)
todo_tells p todos.Dropped = Some events.Drops
todo_tells p (todos.NoData offset) = Some events.Fails
todo_tells p (todos.Close x refusal offset) = tells_at_end x.drop x.cause
todo_tells p t = None

-- the event of the action that a client's machine took, if it took one
abbrev pub taken_tells : (payloads : ℕ) → Option Action → Option Event
taken_tells p None = None
taken_tells p (Some a) = tells p a

-- ---- members

-- a client, its input, and the data buffer that its data are in
pub record MemberClient : Type 0 where
  pub client : Client
  pub input : Octets
  pub held : Octets

-- One call of `next`, `ask_now` or `give_up`, as their contracts say, after which this is to be
-- done.
pub record CallsMember (x x' : MemberClient) (t : Todo) : Type 0 where
  pub now : ℕ
  pub action : Option Action
  pub is_todo : IsTodoOf action t
  pub takes : TakesCall action now x.client x.input x.held x'.client x'.input x'.held

abbrev pub with_member : (ℕ → MemberClient) → ℕ → MemberClient → ℕ → MemberClient
with_member xs m x i = if i == m then x else xs i

-- ---- runs

-- Any run of a group of so many clients, from when it was made: with its history, the group, its
-- caller, and the clients. Whatever calls are made, of whichever clients, and whenever.
pub data IsRunOfMembers (count : ℕ) (s : Settings) :
    List (GroupMoment ℕ) → Group → Listener ℕ → (ℕ → MemberClient) → Type 0 where
  members_begin :
      (n : ℕ) (g : Group) (xs : ℕ → MemberClient)
      → IsNewGroup count s n g
      → IsRunOfMembers count s [] g (first_caller count s n) xs
  -- a call of a client, of which the group is told, with the data `d` of this number of payloads
  member_tells :
      (m n p d : ℕ) (t : Todo) (e : Event) (x' : MemberClient)
      (ms : List (GroupMoment ℕ)) (g : Group) (c : Listener ℕ) (xs : ℕ → MemberClient)
      → IsRunOfMembers count s ms g c xs
      → CallsMember (xs m) x' t → todo_tells p t ≡ Some e
      → IsRunOfMembers count s
      (record { now = n; happened = to_member m e d; answer = answer g n m e } ∷ ms)
      (group_after g n m e)
      (caller_after c n m e d (answer g n m e))
      (with_member xs m x')
  -- a call that is no event
  member_is_silent :
      (m p : ℕ) (t : Todo) (x' : MemberClient)
      (ms : List (GroupMoment ℕ)) (g : Group) (c : Listener ℕ) (xs : ℕ → MemberClient)
      → IsRunOfMembers count s ms g c xs
      → CallsMember (xs m) x' t → todo_tells p t ≡ None
      → IsRunOfMembers count s ms g c (with_member xs m x')
  -- what its caller does between two calls: it reads, sends, opens and loses connections, moves
  -- buffers, or begins the client anew
  member_is_moved :
      (m : ℕ) (x' : MemberClient)
      (ms : List (GroupMoment ℕ)) (g : Group) (c : Listener ℕ) (xs : ℕ → MemberClient)
      → IsRunOfMembers count s ms g c xs
      → IsRunOfMembers count s ms g c (with_member xs m x')
  -- the patience may be over
  members_wait :
      (n : ℕ)
      (ms : List (GroupMoment ℕ)) (g : Group) (c : Listener ℕ) (xs : ℕ → MemberClient)
      → IsRunOfMembers count s ms g c xs
      → IsRunOfMembers count s
      (record { now = n; happened = time_passed; answer = tick_answer g n } ∷ ms)
      (group_ticked g n)
      (caller_ticked c n (tick_answer g n))
      xs
