-- Runs of a group and its caller, whatever comes: what each member has after a history, and what is
-- shown. Histories have the newest moment first.
use Rattle.std.specs.Prelude.{◌≡◌, ◌≢◌, ◌↔◌, ◌⊎◌, ℕ, Bool, true, false, ◌+◌, ◌<◌, ◌≤◌, ◌==◌}
use Rattle.std.specs.Prelude.{◌&&◌, ◌||◌, not, nat_lt, nat_le, min}
use Rattle.std.specs.Prelude.{Option, Some, None, List, [], ◌∷◌, is_some, replicate, if◌then◌else◌}
use Rattle.session_group.specs.declared.event.Event.{Event}
use Rattle.session_group.specs.declared.event.Event.TheVariants as events
use Rattle.session_group.specs.declared.event.Shown.{Shown}
use Rattle.session_group.specs.declared.event.Shown.TheVariants as shows
use Rattle.session_group.specs.declared.event.Answer.{Answer}
use Rattle.session_group.specs.declared.settings.Settings.{Settings}
use Rattle.session_group.specs.declared.group.Group.{Group}
use Rattle.session_group.specs.Groups.{answer, change_shown, counts, group_after, group_ticked}
use Rattle.session_group.specs.Groups.{last}
use Rattle.session_group.specs.Groups.{news, tick_answer}

-- ---- members and their caller

-- A member as its caller sees it: whether it runs, and of one that runs whether it gave way, by a
-- failure or the end of the patience, since it began and since its last whole answer; its data; the
-- number of the event at which it had its last whole answer; and when it began.
pub record Member (Data : Type 0) : Type 0 where
  pub runs : Bool
  pub gave_way : Bool
  pub has : Option Data
  pub answered : ℕ
  pub began : ℕ

-- one that doesn't run
abbrev pub left : {Data : Type 0} → Member Data
left = record { runs = false; gave_way = false; has = None; answered = 0; began = 0 }

-- one that begins
abbrev pub begun : {Data : Type 0} → (now : ℕ) → Member Data
begun n = record { runs = true; gave_way = false; has = None; answered = 0; began = n }

-- It is current from a whole answer until its next failure.
abbrev pub is_current : {Data : Type 0} → Member Data → Bool
is_current x = not x.gave_way && is_some x.has

-- it failed, and its data stay or are gone
abbrev pub failed : {Data : Type 0} → Option Data → Member Data → Member Data
failed has x = record x { gave_way = true; has = has }

-- What an event, by its number, and the data that come with it make of a member that runs.
abbrev pub once_told : {Data : Type 0} → Settings → ℕ → Event → Data → Member Data → Member Data
once_told s number (events.Shows p) d x =
    if counts s p
    then record x { gave_way = false; has = Some d; answered = number }
    else failed None x
once_told s number events.Drops d x = failed None x
once_told s number events.Fails d x = failed x.has x

-- the patience with a member is over: it was started that long ago, and isn't current
abbrev pub is_silent : {Data : Type 0} → Settings → (now : ℕ) → Member Data → Bool
is_silent s n x = x.runs && not (is_current x) && nat_le (x.began + s.patience) n

abbrev pub once_ticked : {Data : Type 0} → Settings → (now : ℕ) → Member Data → Member Data
once_ticked s n x = record x { gave_way = is_silent s n x || x.gave_way }

-- a caller, which knows each of the members, shows data or none, and counts the events
pub record Listener (Data : Type 0) : Type 0 where
  pub settings : Settings
  pub members : ℕ → Member Data
  pub shown : Option Data
  pub events : ℕ

-- one that has started the first member, if there is one
abbrev pub first_caller : {Data : Type 0} → (count : ℕ) → Settings → (now : ℕ) → Listener Data
first_caller count s n = record {
  settings = s;
  members = λ i. if i == 0 then (if nat_lt 0 count then begun n else left) else left;
  shown = None;
  events = 0;
}

-- ---- what a caller does

-- it hears a member that runs
abbrev pub hears : {Data : Type 0} → Listener Data → Event → Data → Member Data → Member Data
hears c e d x = if x.runs then once_told c.settings (c.events + 1) e d x else x

abbrev pub told_of : {Data : Type 0} → Listener Data → ℕ → Event → Data → ℕ → Member Data
told_of c m e d i = if i == m then hears c e d (c.members i) else c.members i

-- the patience is over with those that are silent
abbrev pub ticked : {Data : Type 0} → Listener Data → (now : ℕ) → ℕ → Member Data
ticked c n i = once_ticked c.settings n (c.members i)

-- it shows what the answer says
abbrev pub shown_by : {Data : Type 0} → Shown → (ℕ → Member Data) → Option Data → Option Data
shown_by shows.Same members shown = shown
shown_by (shows.Data k) members shown = (members k).has
shown_by shows.Nothing members shown = None

-- it stops this member and those after it
abbrev pub once_stopped : {Data : Type 0} → Option ℕ → ℕ → Member Data → Member Data
once_stopped None i x = x
once_stopped (Some k) i x = if nat_lt i k then x else left

-- it starts this one
abbrev pub once_started : {Data : Type 0} → (now : ℕ) → Option ℕ → ℕ → Member Data → Member Data
once_started n None i x = x
once_started n (Some k) i x = if i == k then begun n else x

-- it does what the answer says, with what became of the members
abbrev pub obeys : {Data : Type 0} → Listener Data → (now : ℕ) → (ℕ → Member Data) → Answer
    → Listener Data
obeys c n members a = record {
  settings = c.settings;
  members = λ i. once_started n a.starts i (once_stopped a.stops i (members i));
  shown = shown_by a.shown members c.shown;
  events = c.events + 1;
}

abbrev pub caller_after : {Data : Type 0} → Listener Data → (now : ℕ) → ℕ → Event → Data → Answer
    → Listener Data
caller_after c n m e d a = obeys c n (told_of c m e d) a

abbrev pub caller_ticked : {Data : Type 0} → Listener Data → (now : ℕ) → Answer → Listener Data
caller_ticked c n a = obeys c n (ticked c n) a

-- ---- runs

-- what happened once: time passed, or of which member, what, and the data that came with it
pub data Happened (Data : Type 0) : Type 0 where
  time_passed : Happened Data
  to_member : (member : ℕ) → (event : Event) → (came : Data) → Happened Data

-- what happened once, when, and the answer
pub record GroupMoment (Data : Type 0) : Type 0 where
  pub now : ℕ
  pub happened : Happened Data
  pub answer : Answer

-- a group as `new` makes it
pub record IsNewGroup (wanted : ℕ) (s : Settings) (n : ℕ) (g : Group) : Type 0 where
  pub settings : g.settings ≡ s
  pub most : wanted ≤ 16
  pub count : g.count ≡ wanted
  pub runs : g.runs ≡ min wanted 1
  pub has : g.has ≡ replicate 16 false
  pub current : g.current ≡ false
  pub due : g.due ≡ n + s.patience

-- the group, its caller and the answer after what happened
abbrev pub group_then : {Data : Type 0} → Group → (now : ℕ) → Happened Data → Group
group_then g n time_passed = group_ticked g n
group_then g n (to_member m e d) = group_after g n m e

abbrev pub answer_then : {Data : Type 0} → Group → (now : ℕ) → Happened Data → Answer
answer_then g n time_passed = tick_answer g n
answer_then g n (to_member m e d) = answer g n m e

abbrev pub caller_then : {Data : Type 0} → Listener Data → (now : ℕ) → Happened Data → Answer
    → Listener Data
caller_then c n time_passed a = caller_ticked c n a
caller_then c n (to_member m e d) a = caller_after c n m e d a

-- the member that has new data
abbrev pub news_of : {Data : Type 0} → Settings → Happened Data → Option ℕ
news_of s time_passed = None
news_of s (to_member m e d) = news s m e

-- any run of a group of this many members and its caller, whatever comes, and whenever
pub data IsGroupRun {Data : Type 0} (count : ℕ) (s : Settings) :
    List (GroupMoment Data) → Group → Listener Data → Type 0 where
  group_run_begins :
      (n : ℕ) (g : Group) → IsNewGroup count s n g
      → IsGroupRun count s [] g (first_caller count s n)
  group_run_goes_on :
      (n : ℕ) (h : Happened Data) (ms : List (GroupMoment Data)) (g : Group) (c : Listener Data)
      → IsGroupRun count s ms g c
      → IsGroupRun count s
      (record { now = n; happened = h; answer = answer_then g n h } ∷ ms)
      (group_then g n h)
      (caller_then c n h (answer_then g n h))

-- ---- what holds of them

-- The data of member k are the ones to show: those of the most preferred member that is current; or
-- if none is current, of the members that have data, those of the one that had a whole answer last.
-- (A current member had its whole answer last, too.)
pub record IsBest {Data : Type 0} (c : Listener Data) (k : ℕ) (d : Data) : Type 0 where
  pub has : (c.members k).has ≡ Some d
  pub current :
      (i : ℕ) → is_current (c.members i) ≡ true → (is_current (c.members k) ≡ true) × (k ≤ i)
  pub newest :
      (i : ℕ) (e : Data) → i ≢ k → (c.members i).has ≡ Some e
      → (c.members i).answered < (c.members k).answered

-- What is shown is nothing if no member has data, and else the data that are best.
pub data ShowsBest {Data : Type 0} (c : Listener Data) : Type 0 where
  none_has : c.shown ≡ None → ((i : ℕ) → (c.members i).has ≡ None) → ShowsBest c
  of_best : (k : ℕ) (d : Data) → c.shown ≡ Some d → IsBest c k d → ShowsBest c

-- the member whose data these are
abbrev pub best_in : {Data : Type 0} → Listener Data → Option ℕ
best_in c = last (λ i. is_some (c.members i).has) 16

-- What is shown changes exactly if that member is another one, or has new data: `change_shown` says
-- so by cases.
abbrev pub ChangesRightly : {Data : Type 0} → Listener Data → Happened Data → Answer
    → Listener Data → Type 0
ChangesRightly c h a c' = a.shown ≡ change_shown (best_in c) (best_in c') (news_of c.settings h)

-- The data of a member give way to those of another one that is current, or are gone: never do
-- they, as long as there are any, give way to data of an earlier whole answer.
abbrev pub NeverOlder : {Data : Type 0} → Listener Data → Listener Data → Type 0
NeverOlder c c' =
    (b k : ℕ) → best_in c ≡ Some b → best_in c' ≡ Some k → b ≢ k
    → (is_current (c'.members k) ≡ true) ⊎ ((c'.members b).has ≡ None)

-- A member runs exactly if all before it gave way.
abbrev pub RunsInOrder : {Data : Type 0} → ℕ → Listener Data → Type 0
RunsInOrder count c =
    (k : ℕ) → ((c.members k).runs ≡ true)
    ↔ ((k < count) × ((i : ℕ) → i < k → (c.members i).gave_way ≡ true))

-- one that doesn't run has no data
abbrev pub LeavesNone : {Data : Type 0} → Listener Data → Type 0
LeavesNone c = (k : ℕ) → (c.members k).runs ≡ false → (c.members k).has ≡ None
