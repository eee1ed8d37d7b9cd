-- What a group is told of what a client has to do next (this library's own).
use Rattle.std.specs.Prelude.{◌≡◌, ℕ, Bool, ◌==◌, ◌&&◌, ◌||◌, not, nat_le, nat_lt}
use Rattle.std.specs.Prelude.{Option, Some, None, if◌then◌else◌}
use Rattle.session_router.specs.declared.event.Action.{Action}
use Rattle.session_group.specs.declared.event.Event.{Event}
use Rattle.session_group.specs.declared.event.Event.TheVariants as events
use Rattle.session_group.specs.declared.event.Shown.TheVariants as shows
use Rattle.session_group.specs.Ends.{tells, tells_at_end}
use Rattle.rtr_c.specs.GroupsShown.{IsGroupStep, answer_shown}
use Rattle.rtr_c.specs.LinkTodos.{todo_close, todo_data, todo_dropped, todo_go, todo_no_data}
use Rattle.rtr_c.specs.LinkTodos.{todo_output_room}
use Rattle.rtr_c.specs.RouterActions.{numbered_cause}
use Rattle.rtr_c.specs.declared.group.RtrGroup.{RtrGroup}
use Rattle.rtr_c.specs.declared.group.RtrGroupAnswer.{RtrGroupAnswer}
use Rattle.rtr_c.specs.declared.link_todo.RtrTodo.{RtrTodo}

-- ---- the numbers

abbrev pub group_told : ℕ
group_told = 0

-- no call for a client leaves this
abbrev pub group_no_todo : ℕ
group_no_todo = 1

-- the group has fewer members
abbrev pub group_no_member : ℕ
group_no_member = 2

-- ---- the event

-- New data are shown; a loss of data, also at the end of a connection, is a loss of data; a cache
-- without data, and each other end of a connection, is a failure, unless the next connection begins
-- at once in another version. Nothing else is an event.
abbrev pub event_of_todo : (payloads : ℕ) → RtrTodo → Option Event
event_of_todo p t =
    if t.kind == todo_data then Some (events.Shows p)
    else if t.kind == todo_dropped then Some events.Drops
    else if t.kind == todo_no_data then Some events.Fails
    else if t.kind == todo_close then tells_at_end t.drops (numbered_cause t.cause)
    else None

-- what a group of routers' ends is told of an action, or of none
abbrev pub action_tells : (payloads : ℕ) → Option Action → Option Event
action_tells p None = None
action_tells p (Some a) = tells p a

-- ---- the call

-- a call for a client that wasn't refused may leave this
abbrev pub is_known_todo : RtrTodo → Bool
is_known_todo t =
    nat_le todo_go t.kind && nat_le t.kind todo_output_room
    && (not (t.kind == todo_close) || nat_le t.cause 15)

abbrev pub telling_group_status : RtrGroup → (member : ℕ) → RtrTodo → ℕ
telling_group_status g m t =
    if is_known_todo t
    then (if nat_lt m g.count then group_told else group_no_member)
    else group_no_todo

-- the caller has nothing to do
abbrev pub no_group_answer : RtrGroupAnswer
no_group_answer = answer_shown (record { shown = shows.Same; stops = None; starts = None })

-- an event of a member is a step of the group; without one nothing happens
abbrev pub IsGroupTold : RtrGroup → (now m : ℕ) → Option Event → RtrGroupAnswer → RtrGroup → Type 0
IsGroupTold g n m None a g' = (g' ≡ g) × (a ≡ no_group_answer)
IsGroupTold g n m (Some e) a g' = IsGroupStep g n m e a g'
