-- What is shown is what the best member has, in any run.
use Rattle.std.proofs.Common.{◌≡◌, ◌≢◌, ℕ, Bool, true, false, ◌+◌, ◌<◌, ◌≤◌, ◌⊎◌, inl, inr, arith}
use Rattle.std.proofs.Common.{Option, Some, None, refl, sym, ◌∙◌, ap, ap₂, List, ◌-◌}
use Rattle.std.specs.Prelude.{nat_lt, get_or, is_some, not, ◌&&◌}
use Rattle.std.proofs.lemmas.Bool.{cases_lt, cases_eq, cases_Bool, and_parts, ltb-true}
use Rattle.session_group.specs.declared.event.Shown.{Shown}
use Rattle.session_group.specs.declared.event.Shown.TheVariants as shows
use Rattle.session_group.specs.declared.group.Group.{Group}
use Rattle.session_group.specs.declared.settings.Settings.{Settings}
use Rattle.session_group.specs.Groups.{best_of, change_shown, has_data}
use Rattle.session_group.specs.Runs.{Listener, IsBest, IsGroupRun, Member, GroupMoment, Happened}
use Rattle.session_group.specs.Runs.{ShowsBest, answer_then, best_in, caller_then, first_caller}
use Rattle.session_group.specs.Runs.{group_then, is_current, news_of, shown_by}
use Rattle.session_group.specs.Runs.{ChangesRightly, LeavesNone, NeverOlder, RunsInOrder}
use Rattle.session_group.specs.Runs.Happened.{time_passed, to_member}
use Rattle.session_group.specs.Runs.IsGroupRun.{group_run_begins, group_run_goes_on}
use Rattle.session_group.specs.Runs.ShowsBest.{none_has, of_best}
use Rattle.session_group.proofs.Stepping.{Agrees, Since}
use Rattle.session_group.proofs.Agreeing.{few, Step, agrees, agrees_next, after_so}
use Rattle.session_group.proofs.Stepping.{kind, members_after, since, then_of}
use Rattle.session_group.proofs.Agreeing.{ignored_members, step}
use Rattle.session_group.proofs.Stepping.Since.{just_now, long_ago, never}
use Rattle.session_group.proofs.Agreeing.Step.{ignored, moved}
use Rattle.session_group.proofs.Last.{IsLast, last_none, last_same, last_some}
use Rattle.session_group.proofs.Heard.{Moves}
use Rattle.session_group.proofs.Placed.{no_less, other_number, same_number, stays, yes}

abbrev pub data_at : {D : Type 0} → Option ℕ → (ℕ → Member D) → Option D
data_at None x = None
data_at (Some k) x = (x k).has

clash : (b : Bool) → b ≡ true → b ≡ false → ⊥
clash b p q = grind arith

-- ---- who has data

pub has_it :
    (g : Group) (k : ℕ) → has_data g k ≡ true → (k < g.runs) × (get_or g.has k false ≡ true)
has_it g k p =
    let q : (nat_lt k g.runs ≡ true) × (get_or g.has k false ≡ true) =
    and_parts (nat_lt k g.runs) (get_or g.has k false) p in
    (ltb-true k g.runs q.0, q.1)

pub knows :
    {D : Type 0} (wanted : ℕ) (s : Settings) (g : Group) (c : Listener D) (i : ℕ)
    → Agrees wanted s g c → has_data g i ≡ is_some (c.members i).has
knows {D = D} wanted s g c i a = go (cases_lt i g.runs)
  where
    go : (i < g.runs) ⊎ (g.runs ≤ i) → has_data g i ≡ is_some (c.members i).has
    go (inl p) = rw (yes i g.runs p) (sym (a.has i p))
    go (inr p) =
        rw (no_less i g.runs p) (sym (ap (λ (z : Member D). is_some z.has) (a.idle i p)))

pub best_known :
    {D : Type 0} (wanted : ℕ) (s : Settings) (g : Group) (c : Listener D) → Agrees wanted s g c
    → best_of g ≡ best_in c
best_known wanted s g c a =
    last_same (has_data g) (λ i. is_some (c.members i).has) 16 (λ i p. knows wanted s g c i a)

no_some : {D : Type 0} (o : Option D) → is_some o ≡ false → o ≡ None
no_some None p = refl
no_some (Some d) p = grind arith

is_it : {D : Type 0} (o : Option D) (d : D) → o ≡ Some d → is_some o ≡ true
is_it o d p = rw p refl

pub the_some : {D : Type 0} (o : Option D) → is_some o ≡ true → (d : D) × (o ≡ Some d)
the_some None p = grind arith
the_some (Some d) p = (d, refl)

pub runs_none :
    {D : Type 0} (wanted : ℕ) (s : Settings) (g : Group) (c : Listener D) (i : ℕ)
    → Agrees wanted s g c → has_data g i ≡ false → (c.members i).has ≡ None
runs_none wanted s g c i a p = no_some (c.members i).has (sym (knows wanted s g c i a) ∙ p)

-- ---- a step

module _ {D : Type 0} (wanted : ℕ) (s : Settings) (g : Group) (c : Listener D) (n : ℕ)
    (h : Happened D) (a : Agrees wanted s g c) (m : ℕ) (low : m < g.runs)
    (other : (i : ℕ) → i ≢ m → then_of c n h i ≡ c.members i)
    (v : Moves c.events n g (group_then g n h) m (c.members m) (then_of c n h m))
    (news_self : (j : ℕ) → news_of c.settings h ≡ Some j → m ≡ j)
    (keep : news_of c.settings h ≡ None → is_some (then_of c n h m).has ≡ true
    → (then_of c n h m).has ≡ (c.members m).has) where
  abbrev g' : Group
  g' = group_then g n h

  abbrev x' : ℕ → Member D
  x' i = members_after n g (group_then g n h) (then_of c n h) i

  -- the best one is where it was
  is_old : (k : ℕ) → has_data (group_then g n h) k ≡ true → k < g.runs
  is_old k p = go (cases_lt k g.runs) (has_it (group_then g n h) k p)
    where
      more : (k r r' : ℕ) → k < r' → r ≤ k → r < r'
      more k r r' p q = omega arith

      same : (k r r' : ℕ) → k < r' → r ≤ k → r' ≤ r + 1 → r ≡ k
      same k r r' p q s = omega arith

      go : (k < g.runs) ⊎ (g.runs ≤ k)
          → (k < (group_then g n h).runs) × (get_or (group_then g n h).has k false ≡ true)
          → k < g.runs
      go (inl q) r = q
      go (inr q) r = absurd (clash (get_or (group_then g n h).has k false) r.1
          (ap (λ (j : ℕ). get_or (group_then g n h).has j false)
          (sym (same k g.runs (group_then g n h).runs r.0 q v.near))
          ∙ v.fresh (more k g.runs (group_then g n h).runs r.0 q)))

  is_told : (k : ℕ) → has_data (group_then g n h) k ≡ true → x' k ≡ then_of c n h k
  is_told k p =
      stays n g.runs (group_then g n h).runs k (then_of c n h k)
      (has_it (group_then g n h) k p).0 (is_old k p)

  -- what the best one has is what it had, if it has no new data
  is_kept : (k : ℕ) → has_data (group_then g n h) k ≡ true
      → (news_of c.settings h ≡ None) ⊎ (k ≢ m) → (x' k).has ≡ (c.members k).has
  is_kept k p q = ap (λ (z : Member D). z.has) (is_told k p) ∙ go q (cases_eq k m)
    where
      some : k ≡ m → is_some (then_of c n h m).has ≡ true
      some r = v.own ∙ ap (λ (j : ℕ). get_or (group_then g n h).has j false) (sym r)
          ∙ (has_it (group_then g n h) k p).1

      go : (news_of c.settings h ≡ None) ⊎ (k ≢ m) → (k ≡ m) ⊎ (k ≢ m)
          → (then_of c n h k).has ≡ (c.members k).has
      go (inr r) t = ap (λ (z : Member D). z.has) (other k r)
      go (inl r) (inr t) = ap (λ (z : Member D). z.has) (other k t)
      go (inl r) (inl t) =
          ap (λ (j : ℕ). (then_of c n h j).has) t
          ∙ keep r (some t) ∙ ap (λ (j : ℕ). (c.members j).has) (sym t)

  does : (k : ℕ) → best_of (group_then g n h) ≡ Some k → has_data (group_then g n h) k ≡ true
  does k q =
      let r : IsLast (has_data (group_then g n h)) 16 k = last_some (has_data (group_then g n h))
      16 k q in
      r.does

  to_data : (k : ℕ) → has_data (group_then g n h) k ≡ true → (then_of c n h k).has ≡ (x' k).has
  to_data k p = ap (λ (z : Member D). z.has) (sym (is_told k p))

  to_same : (k b : ℕ) → has_data (group_then g n h) k ≡ true → k ≡ b
      → c.shown ≡ (c.members b).has → (news_of c.settings h ≡ None) ⊎ (k ≢ m)
      → c.shown ≡ (x' k).has
  to_same k b p t z q =
      z ∙ ap (λ (j : ℕ). (c.members j).has) (sym t) ∙ sym (is_kept k p q)

  shown_so : (o o' : Option ℕ) (nw : Option ℕ) → best_of g ≡ o → best_of (group_then g n h) ≡ o'
      → news_of c.settings h ≡ nw → c.shown ≡ data_at o c.members
      → shown_by (change_shown o o' nw) (then_of c n h) c.shown ≡ data_at o' x'
  shown_so None None nw p q r z = z
  shown_so (Some b) None nw p q r z = refl
  shown_so None (Some k) nw p q r z = to_data k (does k q)
  shown_so (Some b) (Some k) None p q r z = go (cases_eq k b)
    where
      go : (k ≡ b) ⊎ (k ≢ b)
          → shown_by (change_shown (Some b) (Some k) None) (then_of c n h) c.shown ≡ (x' k).has
      go (inl t) = rw (same_number k b t) (to_same k b (does k q) t z (inl r))
      go (inr t) = rw (other_number k b t) (to_data k (does k q))
  shown_so (Some b) (Some k) (Some j) p q r z = go (cases_eq k b) (cases_eq k j)
    where
      apart : (k j m : ℕ) → m ≡ j → k ≢ j → k ≢ m
      apart k j m p q e = q (e ∙ p)

      go : (k ≡ b) ⊎ (k ≢ b) → (k ≡ j) ⊎ (k ≢ j)
          → shown_by (change_shown (Some b) (Some k) (Some j)) (then_of c n h) c.shown ≡ (x' k).has
      go (inl t) (inr u) =
          rw (same_number k b t) (rw (other_number k j u)
          (to_same k b (does k q) t z (inr (apart k j m (news_self j r) u))))
      go (inl t) (inl u) =
          rw (same_number k b t) (rw (same_number k j u) (to_data k (does k q)))
      go (inr t) u = rw (other_number k b t) (to_data k (does k q))

  pub shown_moved : c.shown ≡ data_at (best_of g) c.members
      → shown_by (change_shown (best_of g) (best_of (group_then g n h)) (news_of c.settings h))
      (then_of c n h) c.shown ≡ data_at (best_of (group_then g n h)) x'
  shown_moved z =
      shown_so (best_of g) (best_of (group_then g n h)) (news_of c.settings h) refl refl refl z

  -- a member that has data for the first time is current
  pub gains : (k : ℕ) → k < (group_then g n h).runs → is_some (c.members k).has ≡ false
      → is_some (x' k).has ≡ true → is_current (x' k) ≡ true
  gains k p q r =
      by_since (since wanted s n g (group_then g n h) c m (then_of c n h) a low other v k p
      (kind wanted s n g (group_then g n h) c m (then_of c n h) a low other v k p))
    where
      by_since : Since wanted s n g (group_then g n h) c m (then_of c n h) a low other v k
          → is_current (x' k) ≡ true
      by_since (long_ago l e u) = absurd (clash (is_some (c.members k).has) (u r) q)
      by_since (just_now e l u) = u
      by_since (never e l) = absurd (clash (is_some (x' k).has) r e)

-- ---- any run

unchanged :
    (o nw : Option ℕ) → ((k j : ℕ) → o ≡ Some k → nw ≡ Some j → k ≢ j)
    → change_shown o o nw ≡ shows.Same
unchanged None nw p = refl
unchanged (Some k) None p = rw (same_number k k refl) refl
unchanged (Some k) (Some j) p =
    rw (same_number k k refl) (rw (other_number k j (p k j refl refl)) refl)

pub first_none :
    {D : Type 0} (wanted : ℕ) (s : Settings) (n : ℕ) (o : Option ℕ)
    → data_at o (first_caller {Data = D} wanted s n).members ≡ None
first_none wanted s n None = refl
first_none {D = D} wanted s n (Some k) = go (cases_eq k 0) (cases_lt 0 wanted)
  where
    go : (k ≡ 0) ⊎ (k ≢ 0) → (0 < wanted) ⊎ (wanted ≤ 0)
        → ((first_caller {Data = D} wanted s n).members k).has ≡ None
    go (inl p) (inl q) = rw (same_number k 0 p) (rw (yes 0 wanted q) refl)
    go (inl p) (inr q) = rw (same_number k 0 p) (rw (no_less 0 wanted q) refl)
    go (inr p) q = rw (other_number k 0 p) refl

-- what is shown after what happened
shown_by_answer :
    {D : Type 0} (g : Group) (c : Listener D) (n : ℕ) (h : Happened D) → c.settings ≡ g.settings
    → (caller_then c n h (answer_then g n h)).shown
    ≡ shown_by (change_shown (best_of g) (best_of (group_then g n h)) (news_of c.settings h))
    (then_of c n h) c.shown
shown_by_answer g c n time_passed p = refl
shown_by_answer g c n (to_member m e d) p = rw p refl

shown_next :
    {D : Type 0} (wanted : ℕ) (s : Settings) (g : Group) (c : Listener D) (n : ℕ) (h : Happened D)
    → Agrees wanted s g c → c.shown ≡ data_at (best_of g) c.members
    → (caller_then c n h (answer_then g n h)).shown
    ≡ data_at (best_of (group_then g n h)) (caller_then c n h (answer_then g n h)).members
shown_next {D = D} wanted s g c n h a z = go (step wanted s g c n h a)
  where
    same_settings : c.settings ≡ g.settings
    same_settings = a.caller ∙ sym a.settings

    members_so : (o : Option ℕ)
        → data_at o (caller_then c n h (answer_then g n h)).members
        ≡ data_at o (λ i. members_after n g (group_then g n h) (then_of c n h) i)
    members_so None = refl
    members_so (Some k) = ap (λ (x : Member D). x.has) (after_so g c n h k)

    ignored_so : group_then g n h ≡ g → ((i : ℕ) → then_of c n h i ≡ c.members i)
        → (o : Option ℕ)
        → data_at o (caller_then c n h (answer_then g n h)).members ≡ data_at o c.members
    ignored_so p q None = refl
    ignored_so p q (Some k) =
        ap (λ (x : Member D). x.has) (ignored_members g c n h k p (q k))

    apart : (k j r : ℕ) → k < r → r ≤ j → k ≢ j
    apart k j r p q e = absurd (bad k j r p q e)
      where
        bad : (k j r : ℕ) → k < r → r ≤ j → k ≡ j → ⊥
        bad k j r p q e = omega arith

    go : Step g c n h → (caller_then c n h (answer_then g n h)).shown
        ≡ data_at (best_of (group_then g n h)) (caller_then c n h (answer_then g n h)).members
    go (moved m low other v news keep) =
        shown_by_answer g c n h same_settings
        ∙ shown_moved wanted s g c n h a m low other v news keep z
        ∙ sym (members_so (best_of (group_then g n h)))
    go (ignored p q far) =
        shown_by_answer g c n h same_settings
        ∙ ap (λ (w : Shown). shown_by w (then_of c n h) c.shown)
        (ap (λ (w : Group). change_shown (best_of g) (best_of w) (news_of c.settings h)) p
        ∙ unchanged (best_of g) (news_of c.settings h) no_news)
        ∙ z
        ∙ sym (ignored_so p q (best_of g))
        ∙ ap (λ (w : Group). data_at (best_of w) (caller_then c n h (answer_then g n h)).members)
        (sym p)
      where
        no_news : (k j : ℕ) → best_of g ≡ Some k → news_of c.settings h ≡ Some j → k ≢ j
        no_news k j t r =
            let u : IsLast (has_data g) 16 k = last_some (has_data g) 16 k t in
            apart k j g.runs (has_it g k u.does).0 (far j r)

pub shown_best :
    {D : Type 0} (wanted : ℕ) (s : Settings) (ms : List (GroupMoment D)) (g : Group)
    (c : Listener D) → IsGroupRun wanted s ms g c → c.shown ≡ data_at (best_of g) c.members
shown_best wanted s ms g c (group_run_begins n g₀ k) = sym (first_none wanted s n (best_of g₀))
shown_best wanted s ms g c (group_run_goes_on n h ms₀ g₀ c₀ run) =
    shown_next wanted s g₀ c₀ n h (agrees wanted s ms₀ g₀ c₀ run)
    (shown_best wanted s ms₀ g₀ c₀ run)

-- ---- which member it is

gave_way_so : {D : Type 0} (x : Member D) → x.gave_way ≡ true → is_current x ≡ false
gave_way_so x p = rw p refl

-- only the last member that runs can be current
pub only_last :
    {D : Type 0} (wanted : ℕ) (s : Settings) (g : Group) (c : Listener D) (i : ℕ)
    → Agrees wanted s g c → is_current (c.members i) ≡ true → i + 1 ≡ g.runs
only_last {D = D} wanted s g c i a p = go (cases_lt i g.runs) (cases_eq (i + 1) g.runs)
  where
    inner : (i r : ℕ) → i < r → i + 1 ≢ r → i + 1 < r
    inner i r p q = grind arith

    go : (i < g.runs) ⊎ (g.runs ≤ i) → (i + 1 ≡ g.runs) ⊎ (i + 1 ≢ g.runs) → i + 1 ≡ g.runs
    go q (inl r) = r
    go (inl q) (inr r) =
        absurd (clash (is_current (c.members i)) p
        (gave_way_so (c.members i) (a.gave_way i (inner i g.runs q r))))
    go (inr q) (inr r) =
        absurd (clash (is_current (c.members i)) p
        (ap (λ (z : Member D). is_current z) (a.idle i q)))

pub best_is_best :
    {D : Type 0} (wanted : ℕ) (s : Settings) (g : Group) (c : Listener D) (k : ℕ) (d : D)
    → Agrees wanted s g c → best_of g ≡ Some k → (c.members k).has ≡ Some d → IsBest c k d
best_is_best {D = D} wanted s g c k d a e h = record {
  has = h;
  current = λ i p. is_it_current i p;
  newest = λ i f p q. later i f p q;
}
  where
    best : IsLast (has_data g) 16 k
    best = last_some (has_data g) 16 k e

    low : k < g.runs
    low = (has_it g k best.does).0

    small : (i r : ℕ) → i + 1 ≡ r → r ≤ 16 → i < 16
    small i r p q = omega arith

    both : (b z : Bool) → b && z ≡ true → z ≡ true
    both b z p = grind arith

    not_after : (i r k : ℕ) → i + 1 ≡ r → k < r → k ≢ i → k < i
    not_after i r k p q s = grind arith

    le_eq : (k i : ℕ) → k ≡ i → k ≤ i
    le_eq k i p = omega arith

    is_it_current : (i : ℕ) → is_current (c.members i) ≡ true
        → (is_current (c.members k) ≡ true) × (k ≤ i)
    is_it_current i p = go (cases_eq k i)
      where
        last_one : i + 1 ≡ g.runs
        last_one = only_last wanted s g c i a p

        i_has : has_data g i ≡ true
        i_has = knows wanted s g c i a
            ∙ both (not (c.members i).gave_way) (is_some (c.members i).has) p

        go : (k ≡ i) ⊎ (k ≢ i) → (is_current (c.members k) ≡ true) × (k ≤ i)
        go (inl q) = (ap (λ (j : ℕ). is_current (c.members j)) q ∙ p, le_eq k i q)
        go (inr q) = absurd (clash (has_data g i) i_has
            (best.none_after i (small i g.runs last_one (few wanted s g c a))
            (not_after i g.runs k last_one low q)))

    later : (i : ℕ) (f : D) → i ≢ k → (c.members i).has ≡ Some f
        → (c.members i).answered < (c.members k).answered
    later i f p q = go (cases_lt i k)
      where
        i_has : has_data g i ≡ true
        i_has = knows wanted s g c i a ∙ is_it (c.members i).has f q

        up : (i k : ℕ) → k ≤ i → i ≢ k → k < i
        up i k p q = grind arith

        lt_16 : (i r : ℕ) → i < r → r ≤ 16 → i < 16
        lt_16 i r p q = omega arith

        go : (i < k) ⊎ (k ≤ i) → (c.members i).answered < (c.members k).answered
        go (inl r) = a.order i k r low (is_it (c.members i).has f q) (is_it (c.members k).has d h)
        go (inr r) = absurd (clash (has_data g i) i_has
            (best.none_after i (lt_16 i g.runs (has_it g i i_has).0 (few wanted s g c a))
            (up i k r p)))

-- ---- the laws

pub shows_best :
    {D : Type 0} (wanted : ℕ) (s : Settings) (ms : List (GroupMoment D)) (g : Group)
    (c : Listener D) → IsGroupRun wanted s ms g c → ShowsBest c
shows_best {D = D} wanted s ms g c run =
    go (best_of g) refl (agrees wanted s ms g c run) (shown_best wanted s ms g c run)
  where
    beyond : (i : ℕ) → 16 ≤ i → Agrees wanted s g c → has_data g i ≡ false
    beyond i p a = rw (no_less i g.runs (over i g.runs p (few wanted s g c a))) refl
      where
        over : (i r : ℕ) → 16 ≤ i → r ≤ 16 → r ≤ i
        over i r p q = omega arith

    none : best_of g ≡ None → Agrees wanted s g c → (i : ℕ) → (i < 16) ⊎ (16 ≤ i)
        → has_data g i ≡ false
    none e a i (inl p) = last_none (has_data g) 16 e i p
    none e a i (inr p) = beyond i p a

    go : (o : Option ℕ) → best_of g ≡ o → Agrees wanted s g c
        → c.shown ≡ data_at (best_of g) c.members → ShowsBest c
    go None e a z =
        none_has (z ∙ ap (λ (o : Option ℕ). data_at o c.members) e)
        (λ i. runs_none wanted s g c i a (none e a i (cases_lt i 16)))
    go (Some k) e a z =
        let t : IsLast (has_data g) 16 k = last_some (has_data g) 16 k e in
        let x : (d : D) × ((c.members k).has ≡ Some d) =
        the_some (c.members k).has (sym (knows wanted s g c k a) ∙ t.does) in
        of_best k x.0 (z ∙ ap (λ (o : Option ℕ). data_at o c.members) e ∙ x.1)
        (best_is_best wanted s g c k x.0 a e x.1)

pub best_of_run :
    {D : Type 0} (wanted : ℕ) (s : Settings) (ms : List (GroupMoment D)) (g : Group)
    (c : Listener D) → IsGroupRun wanted s ms g c → best_of g ≡ best_in c
best_of_run wanted s ms g c run = best_known wanted s g c (agrees wanted s ms g c run)

answer_so :
    {D : Type 0} (g : Group) (c : Listener D) (n : ℕ) (h : Happened D) → c.settings ≡ g.settings
    → (answer_then g n h).shown
    ≡ change_shown (best_of g) (best_of (group_then g n h)) (news_of c.settings h)
answer_so g c n time_passed p = refl
answer_so g c n (to_member m e d) p = rw p refl

pub changes_rightly :
    {D : Type 0} (wanted : ℕ) (s : Settings) (ms : List (GroupMoment D)) (g : Group)
    (c : Listener D) (n : ℕ) (h : Happened D) → IsGroupRun wanted s ms g c
    → ChangesRightly c h (answer_then g n h) (caller_then c n h (answer_then g n h))
changes_rightly wanted s ms g c n h run =
    let a : Agrees wanted s g c = agrees wanted s ms g c run in
    answer_so g c n h (a.caller ∙ sym a.settings)
    ∙ ap₂ (λ (o o' : Option ℕ). change_shown o o' (news_of c.settings h))
    (best_known wanted s g c a)
    (best_known wanted s (group_then g n h) (caller_then c n h (answer_then g n h))
    (agrees_next wanted s g c n h a))

pub never_older :
    {D : Type 0} (wanted : ℕ) (s : Settings) (ms : List (GroupMoment D)) (g : Group)
    (c : Listener D) (n : ℕ) (h : Happened D) → IsGroupRun wanted s ms g c
    → NeverOlder c (caller_then c n h (answer_then g n h))
never_older {D = D} wanted s ms g c n h run b k p q r =
    go (step wanted s g c n h a) (cases_Bool (is_some (c'.members b).has))
  where
    c' : Listener D
    c' = caller_then c n h (answer_then g n h)

    a : Agrees wanted s g c
    a = agrees wanted s ms g c run

    a' : Agrees wanted s (group_then g n h) (caller_then c n h (answer_then g n h))
    a' = agrees_next wanted s g c n h a

    was : IsLast (has_data g) 16 b
    was = last_some (has_data g) 16 b (best_known wanted s g c a ∙ p)

    now : IsLast (has_data (group_then g n h)) 16 k
    now = last_some (has_data (group_then g n h)) 16 k
        (best_known wanted s (group_then g n h) (caller_then c n h (answer_then g n h)) a' ∙ q)

    down : (b k : ℕ) → k ≤ b → b ≢ k → k < b
    down b k p q = grind arith

    k_has : is_some ((caller_then c n h (answer_then g n h)).members k).has ≡ true
    k_has = sym (knows wanted s (group_then g n h) (caller_then c n h (answer_then g n h)) k a')
        ∙ now.does

    -- no member after b had data, and none after k has
    by_place : Step g c n h → (b < k) ⊎ (k ≤ b)
        → is_some ((caller_then c n h (answer_then g n h)).members b).has ≡ true
        → is_current ((caller_then c n h (answer_then g n h)).members k) ≡ true
    by_place t (inr u) y =
        absurd (clash (has_data (group_then g n h) b)
        (knows wanted s (group_then g n h) (caller_then c n h (answer_then g n h)) b a' ∙ y)
        (now.none_after b was.low (down b k u r)))
    by_place (moved m low other v news keep) (inl u) y =
        ap (λ (z : Member D). is_current z) (after_so g c n h k)
        ∙ gains wanted s g c n h a m low other v news keep k
        (has_it (group_then g n h) k now.does).0
        (sym (knows wanted s g c k a) ∙ was.none_after k now.low u)
        (ap (λ (z : Member D). is_some z.has) (sym (after_so g c n h k)) ∙ k_has)
    by_place (ignored e f far) (inl u) y =
        absurd (clash (is_some (c.members k).has)
        (ap (λ (z : Member D). is_some z.has) (sym (ignored_members g c n h k e (f k))) ∙ k_has)
        (sym (knows wanted s g c k a) ∙ was.none_after k now.low u))

    go : Step g c n h
        → (is_some ((caller_then c n h (answer_then g n h)).members b).has ≡ true)
        ⊎ (is_some ((caller_then c n h (answer_then g n h)).members b).has ≡ false)
        → (is_current ((caller_then c n h (answer_then g n h)).members k) ≡ true)
        ⊎ (((caller_then c n h (answer_then g n h)).members b).has ≡ None)
    go t (inl y) = inl (by_place t (cases_lt b k) y)
    go t (inr y) = inr (no_some ((caller_then c n h (answer_then g n h)).members b).has y)

pub leaves_none :
    {D : Type 0} (wanted : ℕ) (s : Settings) (ms : List (GroupMoment D)) (g : Group)
    (c : Listener D) → IsGroupRun wanted s ms g c → LeavesNone c
leaves_none {D = D} wanted s ms g c run k p = go (cases_lt k g.runs) (agrees wanted s ms g c run)
  where
    go : (k < g.runs) ⊎ (g.runs ≤ k) → Agrees wanted s g c → (c.members k).has ≡ None
    go (inl q) a = absurd (clash (c.members k).runs (a.runs k q) p)
    go (inr q) a = ap (λ (z : Member D). z.has) (a.idle k q)

pub in_order :
    {D : Type 0} (wanted : ℕ) (s : Settings) (ms : List (GroupMoment D)) (g : Group)
    (c : Listener D) → IsGroupRun wanted s ms g c → RunsInOrder wanted c
in_order {D = D} wanted s ms g c run k = (
  λ p. to p (cases_lt k g.runs) (agrees wanted s ms g c run),
  λ p. from p.0 p.1 (cases_lt k g.runs) (agrees wanted s ms g c run),
)
  where
    within : (k r n w : ℕ) → k < r → r ≤ n → n ≡ w → k < w
    within k r n w p q s = omega arith

    before : (i k r : ℕ) → i < k → k < r → i + 1 < r
    before i k r p q = omega arith

    to : (c.members k).runs ≡ true → (k < g.runs) ⊎ (g.runs ≤ k) → Agrees wanted s g c
        → (k < wanted) × ((i : ℕ) → i < k → (c.members i).gave_way ≡ true)
    to p (inl q) a = (
      within k g.runs g.count wanted q a.most a.count,
      λ i r. a.gave_way i (before i k g.runs r q),
    )
    to p (inr q) a =
        absurd (clash (c.members k).runs p (ap (λ (z : Member D). z.runs) (a.idle k q)))

    room : (k r n w : ℕ) → r ≤ k → k < w → n ≡ w → r < n
    room k r n w p q s = omega arith

    first : (k n w : ℕ) → k < w → n ≡ w → 1 ≤ n
    first k n w p q = omega arith

    top : (r k : ℕ) → 1 ≤ r → r ≤ k → r - 1 < k
    top r k p q = omega arith

    next : (r : ℕ) → 1 ≤ r → r - 1 + 1 ≡ r
    next r p = omega arith

    from : k < wanted → ((i : ℕ) → i < k → (c.members i).gave_way ≡ true)
        → (k < g.runs) ⊎ (g.runs ≤ k) → Agrees wanted s g c → (c.members k).runs ≡ true
    from p f (inl q) a = a.runs k q
    from p f (inr q) a =
        let one : 1 ≤ g.runs = a.least (first k g.count wanted p a.count) in
        absurd (clash (c.members (g.runs - 1)).gave_way
        (f (g.runs - 1) (top g.runs k one q))
        (a.last (g.runs - 1) (room k g.runs g.count wanted q p a.count) (next g.runs one)))
