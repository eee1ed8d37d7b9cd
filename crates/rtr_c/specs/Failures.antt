-- Which failure the end of a router's connection is (this library's own).
use Rattle.std.specs.Prelude.{ℕ, Bool, true, false, ◌==◌, if◌then◌else◌}
use Rattle.session_router.specs.declared.event.Cause.{Cause}
use Rattle.session_router.specs.declared.event.Cause.TheVariants as causes
use Rattle.rtr_c.specs.Answers.{rtr_ok}
use Rattle.rtr_c.specs.LinkTodos.{todo_close, todo_dropped, todo_no_data}
use Rattle.rtr_c.specs.RouterActions.{numbered_cause}
use Rattle.rtr_c.specs.declared.link_todo.RtrTodo.{RtrTodo}

-- ---- the numbers

-- nothing failed
abbrev pub client_none : ℕ
client_none = 0

-- connecting failed, or the connection broke or was closed
abbrev pub client_lost : ℕ
client_lost = 1

-- the cache took too long
abbrev pub client_slow : ℕ
client_slow = 2

-- an answer has too many units or bytes
abbrev pub client_too_long : ℕ
client_too_long = 3

-- a unit, or the changes of an answer, are refused
abbrev pub client_refused : ℕ
client_refused = 4

-- a unit breaks the rules of a session
abbrev pub client_breach : ℕ
client_breach = 5

-- the cache reports an error
abbrev pub client_reported : ℕ
client_reported = 6

-- the data have expired
abbrev pub client_expired : ℕ
client_expired = 7

-- there is no memory for an answer
abbrev pub client_memory : ℕ
client_memory = 8

-- ---- which one it is

-- the router connects again at once, in another version
abbrev pub changes_version : Cause → Bool
changes_version causes.Lower = true
changes_version causes.Higher = true
changes_version _ = false

-- Of a connection that ends for this cause, with the status of what is refused. Changes that aren't
-- applied, though none is refused, had no memory.
abbrev pub cause_failure : Cause → (status : ℕ) → ℕ
cause_failure causes.Lost s = client_lost
cause_failure causes.Slow s = client_slow
cause_failure causes.Faulty s = client_refused
cause_failure causes.Reported s = client_reported
cause_failure causes.OutOfPlace s = client_breach
cause_failure causes.NoSuchPayload s = client_breach
cause_failure causes.OtherVersion s = client_breach
cause_failure causes.HigherVersion s = client_breach
cause_failure causes.OtherSession s = client_breach
cause_failure causes.OldSerial s = client_breach
cause_failure causes.OtherData s = client_breach
cause_failure causes.TooLong s = client_too_long
cause_failure causes.NotApplied s = if s == rtr_ok then client_memory else client_refused
cause_failure causes.Expired s = client_expired
cause_failure causes.Lower s = client_none
cause_failure causes.Higher s = client_none

-- Where a buffer could not grow, that is the failure, whatever the cause of the end; but a change
-- of the version is none.
abbrev pub ending_failure : Cause → (status : ℕ) → (gave_up : Bool) → ℕ
ending_failure c s gave_up =
    if changes_version c then client_none
    else if gave_up then client_memory
    else cause_failure c s

-- of what a caller has to do: none unless a connection ends, the data have expired, or the cache
-- reports that it has none
abbrev pub failure_of : RtrTodo → (gave_up : Bool) → ℕ
failure_of t gave_up =
    if t.kind == todo_close then ending_failure (numbered_cause t.cause) t.status gave_up
    else if t.kind == todo_dropped then client_expired
    else if t.kind == todo_no_data then client_reported
    else client_none
