-- The structs of C as a group of caches by preference (this library's own).
use Rattle.std.specs.Prelude.{◌≡◌, ℕ, is_some, nat_lt, if◌then◌else◌}
use Rattle.std.specs.Option.{unwrap_or}
use Rattle.session_group.specs.declared.event.Answer.{Answer}
use Rattle.session_group.specs.declared.event.Event.{Event}
use Rattle.session_group.specs.declared.event.Shown.{Shown}
use Rattle.session_group.specs.declared.event.Shown.TheVariants as shows
use Rattle.session_group.specs.declared.group.Group.{Group}
use Rattle.session_group.specs.declared.settings.Settings.{Settings}
use Rattle.session_group.specs.Groups.{answer, group_after, group_ticked, tick_answer}
use Rattle.session_group.specs.Runs.{IsNewGroup}
use Rattle.rtr_c.specs.Answers.{rtr_ok, rtr_too_many_members}
use Rattle.rtr_c.specs.declared.group.RtrGroup.{RtrGroup}
use Rattle.rtr_c.specs.declared.group.RtrGroupAnswer.{RtrGroupAnswer}
use Rattle.rtr_c.specs.declared.group.RtrGroupSettings.{RtrGroupSettings}

abbrev pub group_settings_of : RtrGroupSettings → Settings
group_settings_of s = record { patience = s.patience; empty_is_data = s.empty_is_data }

abbrev pub group_of : RtrGroup → Group
group_of g = record {
  settings = group_settings_of g.settings;
  count = g.count;
  runs = g.runs;
  has = g.has;
  current = g.current;
  due = g.due;
}

abbrev pub shown_number : Shown → ℕ
shown_number shows.Same = 0
shown_number (shows.Data k) = 1
shown_number shows.Nothing = 2

abbrev pub member_shown : Shown → ℕ
member_shown (shows.Data k) = k
member_shown shown = 0

abbrev pub answer_shown : Answer → RtrGroupAnswer
answer_shown a = record {
  member = member_shown a.shown;
  stop = unwrap_or a.stops 0;
  start = unwrap_or a.starts 0;
  shown = shown_number a.shown;
  stops = is_some a.stops;
  starts = is_some a.starts;
}

-- A group of this number of members that begins now, or one without members if there are more than
-- 16; and the status.
pub record IsInitialGroup (s : RtrGroupSettings) (count now status : ℕ) (g : RtrGroup) :
    Type 0 where
  pub group :
      IsNewGroup (if nat_lt 16 count then 0 else count) (group_settings_of s) now (group_of g)
  pub answers : status ≡ (if nat_lt 16 count then rtr_too_many_members else rtr_ok)

-- an event of a member leads from g to g' with this answer
pub record IsGroupStep (g : RtrGroup) (now m : ℕ) (e : Event) (a : RtrGroupAnswer) (g' : RtrGroup) :
    Type 0 where
  pub group : group_of g' ≡ group_after (group_of g) now m e
  pub answers : a ≡ answer_shown (answer (group_of g) now m e)

-- and so does time
pub record IsGroupTick (g : RtrGroup) (now : ℕ) (a : RtrGroupAnswer) (g' : RtrGroup) : Type 0 where
  pub group : group_of g' ≡ group_ticked (group_of g) now
  pub answers : a ≡ answer_shown (tick_answer (group_of g) now)
