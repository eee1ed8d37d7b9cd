-- How long a group needs until it shows the data of a member that keeps the rules, or of a better
-- one.
use Rattle.std.specs.Prelude.{◌≡◌, ℕ, true, false, ◌+◌, ◌*◌, ◌≤◌, max}
use Rattle.session_group.specs.declared.group.Group.{Group}
use Rattle.session_group.specs.Groups.{group_wakes}
use Rattle.session_group.specs.Runs.{Happened, Listener, answer_then, caller_then, group_then}
use Rattle.session_group.specs.Runs.{is_current}

-- neither this member is current nor a better one
abbrev pub NoneUpTo : {Data : Type 0} → ℕ → Listener Data → Type 0
NoneUpTo i c = (j : ℕ) → j ≤ i → is_current (c.members j) ≡ false

-- A group at a time from `start` on, while neither member i is current nor a better one, although
-- member i keeps the rules: from when it runs, and from `start`, it isn't longer than `within`
-- without a whole answer. Something happens when the group wakes, at the latest.
pub data IsWaitedFor {Data : Type 0} (i within start : ℕ) (g₀ : Group) (c₀ : Listener Data) :
    Group → Listener Data → (now : ℕ) → Type 0 where
  waited_from : NoneUpTo i c₀ → IsWaitedFor i within start g₀ c₀ g₀ c₀ start
  waited_on :
      (n n' : ℕ) (h : Happened Data) (g : Group) (c : Listener Data)
      → IsWaitedFor i within start g₀ c₀ g c n
      → n ≤ n' → n' ≤ max n (group_wakes g)
      → ((c.members i).runs ≡ true → n' ≤ max (c.members i).began start + within)
      → NoneUpTo i (caller_then c n' h (answer_then g n' h))
      → IsWaitedFor i within start g₀ c₀ (group_then g n' h)
      (caller_then c n' h (answer_then g n' h)) n'

-- when the data of member i, or of a better one, are shown at the latest: each before it gets the
-- patience
abbrev pub shown_until : {Data : Type 0} → Listener Data → (i within start : ℕ) → ℕ
shown_until c i within start = start + i * c.settings.patience + within
