-- What a group is told of a client's calls, and what the client has then.
use Rattle.std.proofs.Common.{◌≡◌, ◌≢◌, ℕ, Bool, true, false, Some, None, List, Option, refl, ap}
use Rattle.std.proofs.Common.{◌∙◌, sym}
use Rattle.std.specs.Prelude.{if◌then◌else◌}
use Rattle.session_router.specs.declared.event.Action.{Action}
use Rattle.session_router.specs.declared.event.Action.TheVariants as actions
use Rattle.session_router.specs.declared.event.Cause.{Cause}
use Rattle.session_router.specs.declared.event.Cause.TheVariants as causes
use Rattle.session_router.specs.declared.event.Ending.{Ending}
use Rattle.session_client.specs.Next.{IsTodoOf}
use Rattle.session_client.specs.Tells.{IsShownAfter}
use Rattle.session_client.specs.declared.next.Todo.{Todo}
use Rattle.session_client.specs.declared.next.Todo.TheVariants as todos
use Rattle.session_group.specs.declared.event.Event.{Event}
use Rattle.session_group.specs.declared.event.Event.TheVariants as events
use Rattle.session_group.specs.declared.group.Group.{Group}
use Rattle.session_group.specs.declared.settings.Settings.{Settings}
use Rattle.session_group.specs.Ends.{tells_at_end}
use Rattle.session_group.specs.Runs.{GroupMoment, IsGroupRun, Listener}
use Rattle.session_group.specs.Runs.Happened.{time_passed, to_member}
use Rattle.session_group.specs.Runs.IsGroupRun.{group_run_begins, group_run_goes_on}
use Rattle.session_group_laws.specs.Members.{CallsMember, IsRunOfMembers, MemberClient}
use Rattle.session_group_laws.specs.Members.{taken_tells, todo_tells}
use Rattle.session_group_laws.specs.Members.IsRunOfMembers.{member_is_moved, member_is_silent}
use Rattle.session_group_laws.specs.Members.IsRunOfMembers.{member_tells, members_begin}
use Rattle.session_group_laws.specs.Members.IsRunOfMembers.{members_wait}

-- ---- the event is that of the action

pub tells_taken :
    (a : Option Action) (t : Todo) (p : ℕ) → IsTodoOf a t → todo_tells p t ≡ taken_tells p a
tells_taken (Some actions.Connect) todos.Connect p is = refl
tells_taken (Some (actions.End x)) (todos.Close y refusal offset) p is =
    ap (λ (z : Ending). tells_at_end z.drop z.cause) is
tells_taken (Some actions.Show) todos.Data p is = refl
tells_taken (Some actions.Drop) todos.Dropped p is = refl
tells_taken (Some actions.NoData) (todos.NoData offset) p is = refl
tells_taken (Some actions.Wait) todos.Go p is = refl
tells_taken (Some (actions.Ask q)) todos.Go p is = refl
tells_taken (Some actions.Begin) todos.Go p is = refl
tells_taken (Some actions.Keep) todos.Go p is = refl
tells_taken (Some (actions.Apply since)) todos.Go p is = refl
tells_taken None todos.Go p is = refl
tells_taken None todos.Wait p is = refl
tells_taken None (todos.InputRoom n) p is = refl
tells_taken None (todos.DataRoom n) p is = refl
tells_taken None (todos.IndexRoom n) p is = refl
tells_taken None (todos.OutputRoom n) p is = refl
tells_taken a t p is = absurd is

-- ---- a run of clients is a run of a group

pub is_group_run :
    (count : ℕ) (s : Settings) (ms : List (GroupMoment ℕ)) (g : Group) (c : Listener ℕ)
    (xs : ℕ → MemberClient) → IsRunOfMembers count s ms g c xs → IsGroupRun count s ms g c
is_group_run count s _ _ _ _ (members_begin n g xs new) = group_run_begins n g new
is_group_run count s _ _ _ _ (member_tells m n p d t e x ms g c xs run calls tells) =
    group_run_goes_on n (to_member m e d) ms g c (is_group_run count s ms g c xs run)
is_group_run count s _ _ _ _ (member_is_silent m p t x ms g c xs run calls tells) =
    is_group_run count s ms g c xs run
is_group_run count s _ _ _ _ (member_is_moved m x ms g c xs run) =
    is_group_run count s ms g c xs run
is_group_run count s _ _ _ _ (members_wait n ms g c xs run) =
    group_run_goes_on n time_passed ms g c (is_group_run count s ms g c xs run)

-- ---- what the client has after a call

-- an end is told as a loss only where it drops data
drops_at_end :
    (shown shown' : Option ℕ) (drop : Bool) (cause : Cause)
    → tells_at_end drop cause ≡ Some events.Drops → shown' ≡ (if drop then None else shown)
    → shown' ≡ None
drops_at_end shown shown' true cause tells is = is
drops_at_end shown shown' false causes.Lost tells is = cc
drops_at_end shown shown' false causes.Slow tells is = cc
drops_at_end shown shown' false causes.Faulty tells is = cc
drops_at_end shown shown' false causes.Reported tells is = cc
drops_at_end shown shown' false causes.OutOfPlace tells is = cc
drops_at_end shown shown' false causes.NoSuchPayload tells is = cc
drops_at_end shown shown' false causes.OtherVersion tells is = cc
drops_at_end shown shown' false causes.HigherVersion tells is = cc
drops_at_end shown shown' false causes.OtherSession tells is = cc
drops_at_end shown shown' false causes.OldSerial tells is = cc
drops_at_end shown shown' false causes.OtherData tells is = cc
drops_at_end shown shown' false causes.TooLong tells is = cc
drops_at_end shown shown' false causes.NotApplied tells is = cc
drops_at_end shown shown' false causes.Expired tells is = cc
drops_at_end shown shown' false causes.Lower tells is = cc
drops_at_end shown shown' false causes.Higher tells is = cc

stays_at_end :
    (shown shown' : Option ℕ) (drop : Bool) (cause : Cause) (told : Option Event)
    → tells_at_end drop cause ≡ told → told ≢ Some events.Drops
    → shown' ≡ (if drop then None else shown) → shown' ≡ shown
stays_at_end shown shown' true cause told tells other is = absurd (other (sym tells))
stays_at_end shown shown' false cause told tells other is = is

none_once_lost :
    (p : ℕ) (shown shown' : Option ℕ) (a : Option Action)
    → IsShownAfter a shown shown' → taken_tells p a ≡ Some events.Drops → shown' ≡ None
none_once_lost p shown shown' None is tells = cc
none_once_lost p shown shown' (Some actions.Drop) is tells = is
none_once_lost p shown shown' (Some (actions.End x)) is tells =
    drops_at_end shown shown' x.drop x.cause tells is
none_once_lost p shown shown' (Some actions.Show) is tells = cc
none_once_lost p shown shown' (Some actions.NoData) is tells = cc
none_once_lost p shown shown' (Some actions.Wait) is tells = cc
none_once_lost p shown shown' (Some actions.Connect) is tells = cc
none_once_lost p shown shown' (Some (actions.Ask q)) is tells = cc
none_once_lost p shown shown' (Some actions.Begin) is tells = cc
none_once_lost p shown shown' (Some actions.Keep) is tells = cc
none_once_lost p shown shown' (Some (actions.Apply since)) is tells = cc

-- all but new data and a loss leave them
same_unless :
    (p : ℕ) (shown shown' : Option ℕ) (a : Option Action) (told : Option Event)
    → IsShownAfter a shown shown' → taken_tells p a ≡ told → told ≢ Some events.Drops
    → told ≢ Some (events.Shows p) → shown' ≡ shown
same_unless p shown shown' None told is tells lost new = is
same_unless p shown shown' (Some actions.Drop) told is tells lost new = absurd (lost (sym tells))
same_unless p shown shown' (Some (actions.End x)) told is tells lost new =
    stays_at_end shown shown' x.drop x.cause told tells lost is
same_unless p shown shown' (Some actions.Show) told is tells lost new = absurd (new (sym tells))
same_unless p shown shown' (Some actions.NoData) told is tells lost new = is
same_unless p shown shown' (Some actions.Wait) told is tells lost new = is
same_unless p shown shown' (Some actions.Connect) told is tells lost new = is
same_unless p shown shown' (Some (actions.Ask q)) told is tells lost new = is
same_unless p shown shown' (Some actions.Begin) told is tells lost new = is
same_unless p shown shown' (Some actions.Keep) told is tells lost new = is
same_unless p shown shown' (Some (actions.Apply since)) told is tells lost new = is

pub none_left :
    (p : ℕ) (t : Todo) (x x' : MemberClient) → CallsMember x x' t
    → todo_tells p t ≡ Some events.Drops → x'.client.shown ≡ None
none_left p t x x' calls tells =
    none_once_lost p x.client.shown x'.client.shown calls.action calls.takes.size
    (sym (tells_taken calls.action t p calls.is_todo) ∙ tells)

pub same_left :
    (p : ℕ) (t : Todo) (x x' : MemberClient) (told : Option Event) → CallsMember x x' t
    → todo_tells p t ≡ told → told ≢ Some events.Drops → told ≢ Some (events.Shows p)
    → x'.client.shown ≡ x.client.shown
same_left p t x x' told calls tells lost new =
    same_unless p x.client.shown x'.client.shown calls.action told calls.takes.size
    (sym (tells_taken calls.action t p calls.is_todo) ∙ tells) lost new
