-- What a group knows of its members agrees with what its caller knows, in any run.
use Rattle.std.proofs.Common.{◌≡◌, ◌≢◌, ℕ, Bool, true, false, ◌+◌, ◌<◌, ◌≤◌, ◌⊎◌, inl, inr, arith}
use Rattle.std.proofs.Common.{Option, None, Some, refl, sym, ◌∙◌, ap, length, subst, List, ◌-◌}
use Rattle.std.specs.Prelude.{if◌then◌else◌, min, get_or, is_some, replicate, not, ◌&&◌, ◌||◌}
use Rattle.std.specs.Prelude.{nat_le}
use Rattle.std.proofs.lemmas.Bool.{cases_lt, cases_eq, cases_Bool}
use Rattle.session_group.specs.declared.event.Event.{Event}
use Rattle.session_group.specs.declared.group.Group.{Group}
use Rattle.session_group.specs.declared.settings.Settings.{Settings}
use Rattle.session_group.specs.Groups.{asks_next, group_after, group_ticked, has_failed, is_over}
use Rattle.session_group.specs.Groups.{is_running, may_ask_next, news, once_heard}
use Rattle.session_group.specs.Runs.{Listener, IsNewGroup, IsGroupRun, Member, GroupMoment}
use Rattle.session_group.specs.Runs.{Happened}
use Rattle.session_group.specs.Runs.{answer_then, begun, caller_then, first_caller, group_then}
use Rattle.session_group.specs.Runs.{is_current, is_silent, left, news_of, once_ticked, once_told}
use Rattle.session_group.specs.Runs.{ticked, told_of}
use Rattle.session_group.specs.Runs.Happened.{time_passed, to_member}
use Rattle.session_group.specs.Runs.IsGroupRun.{group_run_begins, group_run_goes_on}
use Rattle.session_group.proofs.Heard.{Moves, Told, failed_then, fails_how, keeps}
use Rattle.session_group.proofs.Heard.{moves}
use Rattle.session_group.proofs.Heard.Answered.{as_before}
use Rattle.session_group.proofs.Placed.{no_less, not_less, other_number, placed}
use Rattle.session_group.proofs.Placed.{same_number, yes}
use Rattle.session_group.proofs.Stepping.{Agrees, then_of, members_after, before, agrees_then}

clash : (b : Bool) → b ≡ true → b ≡ false → ⊥
clash b p q = grind arith

-- ---- any step

pub running : (g : Group) (m : ℕ) → m < g.runs → g.runs ≤ 16 → is_running g m ≡ true
running g m p q = rw (yes m g.runs p) (rw (yes m 16 (lt_le m g.runs 16 p q)) refl)
  where
    lt_le : (a b c : ℕ) → a < b → b ≤ c → a < c
    lt_le a b c p q = omega arith

pub not_running : (g : Group) (m : ℕ) → g.runs ≤ m → is_running g m ≡ false
not_running g m p = rw (no_less m g.runs p) refl

pub few :
    {D : Type 0} (wanted : ℕ) (s : Settings) (g : Group) (c : Listener D) → Agrees wanted s g c
    → g.runs ≤ 16
few wanted s g c a = le wanted g.count g.runs a.count a.few a.most
  where
    le : (w n r : ℕ) → n ≡ w → w ≤ 16 → r ≤ n → r ≤ 16
    le w n r e f p = omega arith

-- What happened is ignored, or changes one member that runs, of which there may be new data.
pub data Step {D : Type 0} (g : Group) (c : Listener D) (n : ℕ) (h : Happened D) : Type 0 where
  ignored :
      group_then g n h ≡ g → ((i : ℕ) → then_of c n h i ≡ c.members i)
      → ((j : ℕ) → news_of c.settings h ≡ Some j → g.runs ≤ j)
      → Step g c n h
  moved :
      (m : ℕ) → m < g.runs
      → ((i : ℕ) → i ≢ m → then_of c n h i ≡ c.members i)
      → Moves c.events n g (group_then g n h) m (c.members m) (then_of c n h m)
      → ((j : ℕ) → news_of c.settings h ≡ Some j → m ≡ j)
      → (news_of c.settings h ≡ None → is_some (then_of c n h m).has ≡ true
      → (then_of c n h m).has ≡ (c.members m).has)
      → Step g c n h

pub news_self : (s : Settings) (e : Event) (m j : ℕ) → news s m e ≡ Some j → m ≡ j
news_self s e m j p = grind arith

pub if_so : {A : Type 0} (b : Bool) (y z : A) → b ≡ true → (if b then y else z) ≡ y
if_so b y z p = rw p refl

step_told :
    {D : Type 0} (wanted : ℕ) (s : Settings) (g : Group) (c : Listener D) (n m : ℕ) (e : Event)
    (d : D) → Agrees wanted s g c → Step g c n (to_member m e d)
step_told {D = D} wanted s g c n m e d a = go (cases_lt m g.runs)
  where
    told_other : (i : ℕ) → i ≢ m → told_of c m e d i ≡ c.members i
    told_other i p = rw (other_number i m p) refl

    told_self : m < g.runs → told_of c m e d m ≡ once_told s (c.events + 1) e d (c.members m)
    told_self p =
        rw (same_number m m refl)
        (if_so (c.members m).runs (once_told c.settings (c.events + 1) e d (c.members m))
        (c.members m) (a.runs m p)
        ∙ ap (λ (z : Settings). once_told z (c.events + 1) e d (c.members m)) a.caller)

    told_none : g.runs ≤ m → (i : ℕ) → (i ≡ m) ⊎ (i ≢ m) → told_of c m e d i ≡ c.members i
    told_none p i (inl q) =
        rw (same_number i m q)
        (rw (ap (λ (j : ℕ). (c.members j).runs) q ∙ ap (λ (z : Member D). z.runs) (a.idle m p))
        refl)
    told_none p i (inr q) = told_other i q

    after : m < g.runs → group_after g n m e ≡ once_heard g n m e
    after p = rw (running g m p (few wanted s g c a)) refl

    go : (m < g.runs) ⊎ (g.runs ≤ m) → Step g c n (to_member m e d)
    go (inl p) =
        moved m p told_other
        (subst (λ (z : Group). Moves c.events n g z m (c.members m) (told_of c m e d m))
        (sym (after p))
        (subst (λ (z : Member D). Moves c.events n g (once_heard g n m e) m (c.members m) z)
        (sym (told_self p))
        (moves c.events n e s g m d (c.members m) a.settings (before wanted s g c m a p))))
        (λ j q. news_self c.settings e m j q)
        (λ q r. ap (λ (z : Member D). z.has) (told_self p)
        ∙ keeps (c.events + 1) e s m d (c.members m)
        (ap (λ (z : Settings). news z m e) (sym a.caller) ∙ q)
        (ap (λ (z : Member D). is_some z.has) (sym (told_self p)) ∙ r))
    go (inr p) =
        ignored (rw (not_running g m p) refl) (λ i. told_none p i (cases_eq i m))
        (λ j q. subst (λ k. g.runs ≤ k) (news_self c.settings e m j q) p)

-- ---- time

-- the last member that runs, as time passes
module _ {D : Type 0} (wanted : ℕ) (s : Settings) (g : Group) (c : Listener D) (n m : ℕ)
    (a : Agrees wanted s g c) (p : m + 1 ≡ g.runs) where
  abbrev x : Member D
  x = c.members m

  low : m < g.runs
  low = at_last m g.runs p
    where
      at_last : (a b : ℕ) → a + 1 ≡ b → a < b
      at_last a b p = omega arith

  may_true : g.current ≡ false → g.runs < g.count → may_ask_next g ≡ true
  may_true q r = rw q (rw (yes g.runs (min g.count 16)
      (room g.runs g.count wanted r a.count a.few)) refl)
    where
      room : (r k w : ℕ) → r < k → k ≡ w → w ≤ 16 → r < min k 16
      room r k w p q s = omega arith

  over_room : (q : may_ask_next g ≡ true) → (g.current ≡ false) × (g.runs < g.count)
  over_room q = grind arith

  silent_due : (z : Bool) → g.current ≡ false → g.runs < g.count → nat_le g.due n ≡ z
      → is_silent s n (c.members m) ≡ z
  silent_due z q r u =
      rw (a.runs m low) (rw (a.current m p ∙ q)
      (ap (λ (k : ℕ). nat_le k n) (sym (a.due m r q p)) ∙ u))

  silent_current : g.current ≡ true → is_silent s n (c.members m) ≡ false
  silent_current q = rw (a.runs m low) (rw (a.current m p ∙ q) refl)

  pub over_moves : is_over g n ≡ true
      → Moves c.events n g (group_ticked g n) m x (once_ticked s n x)
  over_moves o =
      subst (λ (z : Group). Moves c.events n g z m x (once_ticked s n x)) (sym as_failure)
      (failed_then c.events n g g m x (once_ticked s n x) (before wanted s g c m a low) facts
      (fails_how g n m))
    where
      both : (b z : Bool) → b && z ≡ true → (b ≡ true) × (z ≡ true)
      both b z p = grind arith

      may : may_ask_next g ≡ true
      may = (both (may_ask_next g) (nat_le g.due n) o).0

      is_idle : (g.current ≡ false) × (g.runs < g.count)
      is_idle = over_room may

      silent : is_silent s n x ≡ true
      silent = silent_due true is_idle.0 is_idle.1 (both (may_ask_next g) (nat_le g.due n) o).1

      as_failure : group_ticked g n ≡ has_failed g n m
      as_failure =
          rw o (rw (same_number (m + 1) g.runs p)
          (rw (yes g.runs (min g.count 16) (room g.runs g.count wanted is_idle.1 a.count a.few))
          (ap (λ (b : Bool). asks_next (record g { current = b }) n) is_idle.0)))
        where
          room : (r k w : ℕ) → r < k → k ≡ w → w ≤ 16 → r < min k 16
          room r k w p q s = omega arith

      facts : Told g g m x (once_ticked s n x)
      facts = record {
        settings = refl;
        count = refl;
        runs = refl;
        current = refl;
        due = refl;
        long = refl;
        other = λ i p q. refl;
        own = a.has m low;
        runs_on = refl;
        began = refl;
        gave_way = rw silent refl;
        answered = refl;
        had = λ q. q;
      }

  -- nothing changes but, of a member with no other after it, that the patience is over
  stay_moves : (y : Member D) → y.runs ≡ x.runs → y.has ≡ x.has → y.answered ≡ x.answered
      → y.began ≡ x.began → is_current y ≡ is_current x
      → (g.runs < g.count → y.gave_way ≡ x.gave_way)
      → Moves c.events n g g m x y
  stay_moves y r h e b u w = record {
    settings = refl;
    count = refl;
    long = refl;
    near = le_up g.runs;
    up = low;
    most = λ q. q;
    grows = λ q. absurd (not_self g.runs q);
    fresh = λ q. absurd (not_self g.runs q);
    new_idle = λ q. absurd (not_self g.runs q);
    new_due = λ q. absurd (not_self g.runs q);
    other = λ i q z. refl;
    own = ap (λ (o : Option D). is_some o) h ∙ a.has m low;
    runs = r;
    began = b;
    gave_way = λ q. absurd (past m g.runs p q);
    last = λ q z. w q ∙ a.last m q p;
    current = λ q. u ∙ a.current m p;
    steady = λ q z. refl;
    idle = λ q z. refl;
    due = λ q z o. (refl, (refl, o));
    shrinks = λ q. absurd (not_self g.runs q);
    order = as_before e (λ q. ap (λ (o : Option D). is_some o) (sym h) ∙ q);
  }
    where
      le_up : (a : ℕ) → a ≤ a + 1
      le_up a = omega arith

      not_self : (a : ℕ) → a < a → ⊥
      not_self a p = omega arith

      past : (a b : ℕ) → a + 1 ≡ b → a + 1 < b → ⊥
      past a b p q = omega arith

  pub rest_moves : is_over g n ≡ false
      → Moves c.events n g (group_ticked g n) m x (once_ticked s n x)
  rest_moves o =
      subst (λ (z : Group). Moves c.events n g z m x (once_ticked s n x)) (sym same_group)
      (by_silence (cases_Bool (is_silent s n x)) (cases_Bool g.current) (cases_lt g.runs g.count))
    where
      same_group : group_ticked g n ≡ g
      same_group = rw o refl

      second : (b z : Bool) → b && z ≡ false → b ≡ true → z ≡ false
      second b z p q = grind arith

      ticked_gave : is_silent s n x ≡ false → (once_ticked s n x).gave_way ≡ x.gave_way
      ticked_gave q = rw q refl

      gone_current : (y : Member D) → y.gave_way ≡ true → is_current y ≡ false
      gone_current y q = rw q refl

      quiet : is_silent s n x ≡ false → Moves c.events n g g m x (once_ticked s n x)
      quiet q = stay_moves (once_ticked s n x) refl refl refl refl (rw q refl)
          (λ r. ticked_gave q)

      by_silence : (is_silent s n x ≡ true) ⊎ (is_silent s n x ≡ false)
          → (g.current ≡ true) ⊎ (g.current ≡ false) → (g.runs < g.count) ⊎ (g.count ≤ g.runs)
          → Moves c.events n g g m x (once_ticked s n x)
      by_silence (inr q) r z = quiet q
      by_silence (inl q) (inl r) z = absurd (clash (is_silent s n x) q (silent_current r))
      by_silence (inl q) (inr r) (inl z) =
          absurd (clash (is_silent s n x) q (silent_due false r z
          (second (may_ask_next g) (nat_le g.due n) o (may_true r z))))
      by_silence (inl q) (inr r) (inr z) =
          stay_moves (once_ticked s n x) refl refl refl refl
          (gone_current (once_ticked s n x) (rw q refl) ∙ sym (a.current m p ∙ r))
          (λ w. absurd (full g.runs g.count z w))
        where
          full : (a b : ℕ) → b ≤ a → a < b → ⊥
          full a b p q = omega arith

  pub last_ticks : Moves c.events n g (group_ticked g n) m x (once_ticked s n x)
  last_ticks = go (cases_Bool (is_over g n))
    where
      go : (is_over g n ≡ true) ⊎ (is_over g n ≡ false)
          → Moves c.events n g (group_ticked g n) m x (once_ticked s n x)
      go (inl q) = over_moves q
      go (inr q) = rest_moves q

step_ticked :
    {D : Type 0} (wanted : ℕ) (s : Settings) (g : Group) (c : Listener D) (n : ℕ)
    → Agrees wanted s g c → Step g c n time_passed
step_ticked {D = D} wanted s g c n a = go (cases_lt 0 g.runs)
  where
    so : (i : ℕ) → ticked c n i ≡ once_ticked s n (c.members i)
    so i = ap (λ (z : Settings). once_ticked z n (c.members i)) a.caller

    no_news : (j : ℕ) → news_of {Data = D} c.settings time_passed ≡ Some j → ⊥
    no_news j p = grind arith

    idle_ticked : (i : ℕ) → g.runs ≤ i → ticked c n i ≡ c.members i
    idle_ticked i p =
        so i ∙ ap (λ (z : Member D). once_ticked s n z) (a.idle i p) ∙ sym (a.idle i p)

    both_ways : (b z : Bool) → z ≡ true → (b || z) ≡ z
    both_ways true z p = sym p
    both_ways false z p = refl

    given_way : (z : Member D) → z.gave_way ≡ true → once_ticked s n z ≡ z
    given_way z p =
        ap (λ (b : Bool). record z { gave_way = b }) (both_ways (is_silent s n z) z.gave_way p)

    other : (m : ℕ) → m + 1 ≡ g.runs → (i : ℕ) → i ≢ m → (i < g.runs) ⊎ (g.runs ≤ i)
        → ticked c n i ≡ c.members i
    other m p i q (inl r) =
        so i ∙ given_way (c.members i) (a.gave_way i (inner i m g.runs p q r))
      where
        inner : (i m r : ℕ) → m + 1 ≡ r → i ≢ m → i < r → i + 1 < r
        inner i m r p q s = grind arith
    other m p i q (inr r) = idle_ticked i r

    over_none : g.runs ≤ 0 → is_over g n ≡ false
    over_none p = go_over (cases_lt 0 g.count)
      where
        go_over : (0 < g.count) ⊎ (g.count ≤ 0) → is_over g n ≡ false
        go_over (inl q) = absurd (none g.runs g.count (a.least (pos g.count q)) p)
          where
            pos : (a : ℕ) → 0 < a → 1 ≤ a
            pos a p = omega arith

            none : (r k : ℕ) → 1 ≤ r → r ≤ 0 → ⊥
            none r k p q = omega arith
        go_over (inr q) =
            rw (no_less g.runs (min g.count 16) (small g.runs g.count q))
            (by_bool (cases_Bool g.current))
          where
            small : (r k : ℕ) → k ≤ 0 → min k 16 ≤ r
            small r k p = omega arith

            by_bool : (g.current ≡ true) ⊎ (g.current ≡ false)
                → (not g.current && false) && nat_le g.due n ≡ false
            by_bool (inl t) = rw t refl
            by_bool (inr t) = rw t refl

    go : (0 < g.runs) ⊎ (g.runs ≤ 0) → Step g c n time_passed
    go (inl p) =
        moved (g.runs - 1) (top g.runs p)
        (λ i q. other (g.runs - 1) (next g.runs p) i q (cases_lt i g.runs))
        (subst (λ (z : Member D).
        Moves c.events n g (group_ticked g n) (g.runs - 1) (c.members (g.runs - 1)) z)
        (sym (so (g.runs - 1)))
        (last_ticks wanted s g c n (g.runs - 1) a (next g.runs p)))
        (λ j q. absurd (no_news j q))
        (λ q r. refl)
      where
        top : (r : ℕ) → 0 < r → r - 1 < r
        top r p = omega arith

        next : (r : ℕ) → 0 < r → r - 1 + 1 ≡ r
        next r p = omega arith
    go (inr p) =
        ignored (rw (over_none p) refl) (λ i. idle_ticked i (from g.runs i p))
        (λ j q. absurd (no_news j q))
      where
        from : (r i : ℕ) → r ≤ 0 → r ≤ i
        from r i p = omega arith

pub step :
    {D : Type 0} (wanted : ℕ) (s : Settings) (g : Group) (c : Listener D) (n : ℕ) (h : Happened D)
    → Agrees wanted s g c → Step g c n h
step wanted s g c n time_passed a = step_ticked wanted s g c n a
step wanted s g c n (to_member m e d) a = step_told wanted s g c n m e d a

-- ---- any run

-- the members after what happened, in the words of a caller
pub after_so :
    {D : Type 0} (g : Group) (c : Listener D) (n : ℕ) (h : Happened D) (i : ℕ)
    → (caller_then c n h (answer_then g n h)).members i
    ≡ members_after n g (group_then g n h) (then_of c n h) i
after_so g c n time_passed i = refl
after_so g c n (to_member m e d) i = refl

le_self : (r : ℕ) → r ≤ r
le_self r = omega arith

-- what is ignored changes no member
pub ignored_members :
    {D : Type 0} (g : Group) (c : Listener D) (n : ℕ) (h : Happened D) (i : ℕ)
    → group_then g n h ≡ g → then_of c n h i ≡ c.members i
    → (caller_then c n h (answer_then g n h)).members i ≡ c.members i
ignored_members {D = D} g c n h i p q =
    after_so g c n h i
    ∙ ap (λ (z : Group). placed n g.runs z.runs i (then_of c n h i)) p
    ∙ rw (not_less g.runs g.runs (le_self g.runs)) q

agrees_same :
    {D : Type 0} (wanted : ℕ) (s : Settings) (g : Group) (c c' : Listener D)
    → Agrees wanted s g c → c'.settings ≡ c.settings → c.events ≤ c'.events
    → ((i : ℕ) → c'.members i ≡ c.members i) → Agrees wanted s g c'
agrees_same {D = D} wanted s g c c' a z l p = record {
  settings = a.settings;
  caller = z ∙ a.caller;
  count = a.count;
  few = a.few;
  long = a.long;
  most = a.most;
  least = a.least;
  runs = λ i q. ap (λ (z : Member D). z.runs) (p i) ∙ a.runs i q;
  has = λ i q. ap (λ (z : Member D). is_some z.has) (p i) ∙ a.has i q;
  gave_way = λ i q. ap (λ (z : Member D). z.gave_way) (p i) ∙ a.gave_way i q;
  last = λ i q r. ap (λ (z : Member D). z.gave_way) (p i) ∙ a.last i q r;
  current = λ i q. ap (λ (z : Member D). is_current z) (p i) ∙ a.current i q;
  due = λ i q r u. a.due i q r u ∙ ap (λ (z : Member D). z.began + s.patience) (sym (p i));
  order = λ i j q r u v.
      subst (λ (z : Member D). z.answered < (c'.members j).answered) (sym (p i))
      (subst (λ (z : Member D). (c.members i).answered < z.answered) (sym (p j))
      (a.order i j q r (ap (λ (z : Member D). is_some z.has) (sym (p i)) ∙ u)
      (ap (λ (z : Member D). is_some z.has) (sym (p j)) ∙ v)));
  told = λ i q. subst (λ (z : Member D). z.answered ≤ c'.events) (sym (p i))
      (le_le (c.members i).answered c.events c'.events (a.told i q) l);
  idle = λ i q. p i ∙ a.idle i q;
}
  where
    le_le : (a b c : ℕ) → a ≤ b → b ≤ c → a ≤ c
    le_le a b c p q = omega arith

pub settings_then :
    {D : Type 0} (c : Listener D) (g : Group) (n : ℕ) (h : Happened D)
    → (caller_then c n h (answer_then g n h)).settings ≡ c.settings
settings_then c g n time_passed = refl
settings_then c g n (to_member m e d) = refl

events_then :
    {D : Type 0} (c : Listener D) (g : Group) (n : ℕ) (h : Happened D)
    → c.events ≤ (caller_then c n h (answer_then g n h)).events
events_then c g n time_passed = le_next c.events
  where
    le_next : (a : ℕ) → a ≤ a + 1
    le_next a = omega arith
events_then c g n (to_member m e d) = le_next c.events
  where
    le_next : (a : ℕ) → a ≤ a + 1
    le_next a = omega arith

-- the caller after what happened, in these words
pub caller_so :
    {D : Type 0} (g : Group) (c : Listener D) (n : ℕ) (h : Happened D)
    → caller_then c n h (answer_then g n h) ≡ record {
      settings = c.settings;
      members = members_after n g (group_then g n h) (then_of c n h);
      shown = (caller_then c n h (answer_then g n h)).shown;
      events = c.events + 1;
    }
caller_so g c n time_passed = refl
caller_so g c n (to_member m e d) = refl

pub agrees_next :
    {D : Type 0} (wanted : ℕ) (s : Settings) (g : Group) (c : Listener D) (n : ℕ) (h : Happened D)
    → Agrees wanted s g c
    → Agrees wanted s (group_then g n h) (caller_then c n h (answer_then g n h))
agrees_next {D = D} wanted s g c n h a = go (step wanted s g c n h a)
  where
    go : Step g c n h → Agrees wanted s (group_then g n h) (caller_then c n h (answer_then g n h))
    go (moved m low other v news keep) =
        subst (λ (z : Listener D). Agrees wanted s (group_then g n h) z) (sym (caller_so g c n h))
        (agrees_then wanted s n g (group_then g n h) c m (then_of c n h) a low other v
        (caller_then c n h (answer_then g n h)).shown)
    go (ignored p q news) =
        subst (λ (z : Group). Agrees wanted s z (caller_then c n h (answer_then g n h))) (sym p)
        (agrees_same wanted s g c (caller_then c n h (answer_then g n h)) a
        (settings_then c g n h) (events_then c g n h)
        (λ i. ignored_members g c n h i p (q i)))

agrees_first :
    {D : Type 0} (wanted : ℕ) (s : Settings) (n : ℕ) (g : Group) → IsNewGroup wanted s n g
    → Agrees wanted s g (first_caller {Data = D} wanted s n)
agrees_first {D = D} wanted s n g k = record {
  settings = k.settings;
  caller = refl;
  count = k.count;
  few = k.most;
  long = ap (λ (l : List Bool). length l) k.has;
  most = most wanted g.runs g.count k.runs k.count;
  least = least wanted g.runs g.count k.runs k.count;
  runs = λ i p. ap (λ (z : Member D). z.runs) (is_begun i p);
  has = λ i p. ap (λ (z : Member D). is_some z.has) (is_begun i p) ∙ sym (has_none i p);
  gave_way = λ i p. absurd (one wanted g.runs i k.runs p);
  last = λ i p q. ap (λ (z : Member D). z.gave_way) (is_begun i (at_last i g.runs q));
  current = λ i p. ap (λ (z : Member D). is_current z) (is_begun i (at_last i g.runs p))
      ∙ sym k.current;
  due = λ i p q r. k.due
      ∙ ap (λ (z : Member D). z.began + s.patience) (sym (is_begun i (at_last i g.runs r)));
  order = λ i j p q u v. absurd (alone wanted g.runs i j k.runs p q);
  told = λ i p. subst (λ (z : Member D). z.answered ≤ 0) (sym (is_begun i p)) (le_none 0);
  idle = λ i p. is_left i p (cases_lt 0 wanted) (cases_eq i 0);
}
  where
    le_none : (a : ℕ) → 0 ≤ a
    le_none a = omega arith

    alone : (w r i j : ℕ) → r ≡ min w 1 → i < j → j < r → ⊥
    alone w r i j p q s = omega arith

    most : (w r c : ℕ) → r ≡ min w 1 → c ≡ w → r ≤ c
    most w r c p q = omega arith

    least : (w r c : ℕ) → r ≡ min w 1 → c ≡ w → 1 ≤ c → 1 ≤ r
    least w r c p q s = omega arith

    one : (w r i : ℕ) → r ≡ min w 1 → i + 1 < r → ⊥
    one w r i p q = omega arith

    at_last : (a b : ℕ) → a + 1 ≡ b → a < b
    at_last a b p = omega arith

    zeroth : (w r i : ℕ) → r ≡ min w 1 → i < r → i ≡ 0
    zeroth w r i p q = omega arith

    some : (w r i : ℕ) → r ≡ min w 1 → i < r → 0 < w
    some w r i p q = omega arith

    is_begun : (i : ℕ) → i < g.runs → (first_caller {Data = D} wanted s n).members i ≡ begun n
    is_begun i p =
        rw (same_number i 0 (zeroth wanted g.runs i k.runs p))
        (rw (yes 0 wanted (some wanted g.runs i k.runs p)) refl)

    has_none : (i : ℕ) → i < g.runs → get_or g.has i false ≡ false
    has_none i p =
        ap (λ (l : List Bool). get_or l i false) k.has
        ∙ ap (λ (j : ℕ). get_or (replicate 16 false) j false) (zeroth wanted g.runs i k.runs p)

    none : (w r i : ℕ) → r ≡ min w 1 → r ≤ i → i ≡ 0 → 0 < w → ⊥
    none w r i p q e o = omega arith

    is_left : (i : ℕ) → g.runs ≤ i → (0 < wanted) ⊎ (wanted ≤ 0) → (i ≡ 0) ⊎ (i ≢ 0)
        → (first_caller {Data = D} wanted s n).members i ≡ left
    is_left i p q (inr r) = rw (other_number i 0 r) refl
    is_left i p (inl q) (inl r) = absurd (none wanted g.runs i k.runs p r q)
    is_left i p (inr q) (inl r) = rw (same_number i 0 r) (rw (no_less 0 wanted q) refl)

pub agrees :
    {D : Type 0} (wanted : ℕ) (s : Settings) (ms : List (GroupMoment D)) (g : Group)
    (c : Listener D) → IsGroupRun wanted s ms g c → Agrees wanted s g c
agrees wanted s ms g c (group_run_begins n g₀ k) = agrees_first wanted s n g₀ k
agrees wanted s ms g c (group_run_goes_on n h ms₀ g₀ c₀ run) =
    agrees_next wanted s g₀ c₀ n h (agrees wanted s ms₀ g₀ c₀ run)
