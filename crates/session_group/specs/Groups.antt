-- A group of caches by preference (RFC 8210 section 10): 0 is preferred most.
use Rattle.std.specs.Prelude.{◌≡◌, ℕ, zero, suc, Bool, true, false, ◌+◌, ◌-◌, ◌^◌, ◌&&◌, ◌||◌, ◌==◌}
use Rattle.std.specs.Prelude.{nat_lt, nat_le, min, Option, Some, None, get_or, set, not}
use Rattle.std.specs.Prelude.{if◌then◌else◌}
use Rattle.session_group.specs.declared.event.Event.{Event}
use Rattle.session_group.specs.declared.event.Event.TheVariants as events
use Rattle.session_group.specs.declared.event.Shown.{Shown}
use Rattle.session_group.specs.declared.event.Shown.TheVariants as shows
use Rattle.session_group.specs.declared.event.Answer.{Answer}
use Rattle.session_group.specs.declared.settings.Settings.{Settings}
use Rattle.session_group.specs.declared.group.Group.{Group}

-- ---- whose data are shown

-- the greatest of the numbers below n of which this holds
unfoldable pub last : (holds : ℕ → Bool) → (n : ℕ) → Option ℕ
last holds zero = None
last holds (suc n) = if holds n then Some n else last holds n

-- members run from the first one on, and there are at most 16
abbrev pub is_running : Group → ℕ → Bool
is_running g m = nat_lt m g.runs && nat_lt m 16

abbrev pub has_data : Group → ℕ → Bool
has_data g m = nat_lt m g.runs && get_or g.has m false

-- The member whose data are shown. A whole answer of a member stops all after it, so the last one
-- that has data had its whole answer last.
abbrev pub best_of : Group → Option ℕ
best_of g = last (has_data g) 16

-- ---- what an event makes of it

-- whether data of this number of payloads count as data
abbrev pub counts : Settings → (payloads : ℕ) → Bool
counts s p = s.empty_is_data || nat_lt 0 p

-- a member has a whole answer: it is current, and all after it are stopped
abbrev pub has_answer : Group → ℕ → Group
has_answer g m = record g { runs = m + 1; has = set g.has m true; current = true }

-- its data are gone
abbrev pub has_none : Group → ℕ → Group
has_none g m = record g { has = set g.has m false }

-- while no member is current, the next one is to be started, if there is one
abbrev pub may_ask_next : Group → Bool
may_ask_next g = not g.current && nat_lt g.runs (min g.count 16)

-- the next member is started, without data
abbrev pub asks_next : Group → (now : ℕ) → Group
asks_next g n = record g {
  runs = g.runs + 1;
  has = set g.has g.runs false;
  due = n + g.settings.patience;
}

abbrev pub asks_if_it_may : Group → (now : ℕ) → Group
asks_if_it_may g n = if may_ask_next g then asks_next g n else g

-- if the last member that runs fails, it isn't current any more, and the next one is started
abbrev pub has_failed : Group → (now : ℕ) → ℕ → Group
has_failed g n m =
    if m + 1 == g.runs then asks_if_it_may (record g { current = false }) n else g

-- data that don't count are a failure, as the loss of data
abbrev pub once_heard : Group → (now : ℕ) → ℕ → Event → Group
once_heard g n m (events.Shows p) =
    if counts g.settings p then has_answer g m else has_failed (has_none g m) n m
once_heard g n m events.Drops = has_failed (has_none g m) n m
once_heard g n m events.Fails = has_failed g n m

-- what happens to a member that doesn't run is ignored
abbrev pub group_after : Group → (now : ℕ) → ℕ → Event → Group
group_after g n m e = if is_running g m then once_heard g n m e else g

-- ---- time

-- the patience is over, and no member is current
abbrev pub is_over : Group → (now : ℕ) → Bool
is_over g n = may_ask_next g && nat_le g.due n

abbrev pub group_ticked : Group → (now : ℕ) → Group
group_ticked g n = if is_over g n then asks_next g n else g

-- when it acts by itself
abbrev pub group_wakes : Group → ℕ
group_wakes g = if may_ask_next g then g.due else 2 ^ 64 - 1

-- ---- what its caller does

-- other data are shown if the best member is another one, or has new data
abbrev pub change_shown : (before now news : Option ℕ) → Shown
change_shown None None news = shows.Same
change_shown (Some b) None news = shows.Nothing
change_shown None (Some k) news = shows.Data k
change_shown (Some b) (Some k) None = if k == b then shows.Same else shows.Data k
change_shown (Some b) (Some k) (Some m) =
    if (k == b) && not (k == m) then shows.Same else shows.Data k

-- the member that has new data
abbrev pub news : Settings → ℕ → Event → Option ℕ
news s m (events.Shows p) = if counts s p then Some m else None
news s m _ = None

abbrev pub if_less : ℕ → ℕ → Option ℕ
if_less a b = if nat_lt a b then Some a else None

abbrev pub answer_between : (before after : Group) → (news : Option ℕ) → Answer
answer_between g g' nw = record {
  shown = change_shown (best_of g) (best_of g') nw;
  stops = if_less g'.runs g.runs;
  starts = if_less g.runs g'.runs;
}

abbrev pub answer : Group → (now : ℕ) → ℕ → Event → Answer
answer g n m e = answer_between g (group_after g n m e) (news g.settings m e)

abbrev pub tick_answer : Group → (now : ℕ) → Answer
tick_answer g n = answer_between g (group_ticked g n) None

-- an event of a member changes nothing, and the caller has nothing to do
pub record ChangesNothing (g : Group) (n m : ℕ) (e : Event) : Type 0 where
  pub group : group_after g n m e ≡ g
  pub answer : answer g n m e ≡ record { shown = shows.Same; stops = None; starts = None }
