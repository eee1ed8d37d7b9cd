-- A group of routers' ends is a run of a group, and each end that runs one of a router.
use Rattle.std.proofs.Common.{◌≡◌, ◌≢◌, ℕ, Bool, true, false, ◌+◌, ◌<◌, ◌≤◌, ◌⊎◌, inl, inr, arith}
use Rattle.std.proofs.Common.{Option, Some, None, refl, sym, ◌∙◌, ap, subst, List}
use Rattle.std.proofs.lemmas.Bool.{cases_Bool, cases_eq, cases_lt}
use Rattle.session_router.specs.declared.router.Router.{Router}
use Rattle.session_router.specs.declared.event.Event as router_event
use Rattle.session_router.specs.declared.event.Action.{Action}
use Rattle.session_router.specs.declared.event.Action.TheVariants as actions
use Rattle.session_router.specs.declared.event.Cause.{Cause}
use Rattle.session_router.specs.declared.event.Cause.TheVariants as causes
use Rattle.session_router.specs.Histories as histories
use Rattle.session_router.specs.Histories.{Host, IsAnswered, IsHistory, MaySay, empty_host}
use Rattle.session_router.specs.Histories.{host_after}
use Rattle.session_router.specs.Histories.IsHistory.{run_begins as router_begins}
use Rattle.session_router.specs.Histories.IsHistory.{run_goes_on as router_goes_on}
use Rattle.session_router.specs.Step.{IsStep}
use Rattle.session_router.proofs.WholeAnswers.{whole_answers}
use Rattle.session_group.specs.declared.event.Event.{Event}
use Rattle.session_group.specs.declared.event.Event.TheVariants as events
use Rattle.session_group.specs.declared.group.Group.{Group}
use Rattle.session_group.specs.declared.settings.Settings.{Settings}
use Rattle.session_group.specs.Groups.{counts, if_less}
use Rattle.session_group.specs.Runs.{Listener, IsGroupRun, Member, GroupMoment, Happened}
use Rattle.session_group.specs.Runs.{ShowsBest, answer_then, begun, caller_then, group_then}
use Rattle.session_group.specs.Runs.{once_told}
use Rattle.session_group.specs.Runs.{told_of}
use Rattle.session_group.specs.Runs.Happened.{time_passed, to_member}
use Rattle.session_group.specs.Runs.IsGroupRun.{group_run_begins, group_run_goes_on}
use Rattle.session_group.specs.Runs.ShowsBest.{none_has, of_best}
use Rattle.session_group.specs.Ends.{End, HaveShown, IsFresh, IsGroup, ShowsWhole, counted}
use Rattle.session_group.specs.Ends.{end_after}
use Rattle.session_group.specs.Ends.{tells, tells_at_end, with_end, with_fresh}
use Rattle.session_group.specs.Ends.IsGroup.{group_begins, goes_on_silently, goes_on, waits}
use Rattle.session_group.specs.Ends.ShowsWhole.{none_shows, of_one}
use Rattle.session_group.proofs.Stepping.{Agrees}
use Rattle.session_group.proofs.Agreeing.{Step, after_so, agrees, agrees_next, if_so, step}
use Rattle.session_group.proofs.Stepping.{then_of}
use Rattle.session_group.proofs.Agreeing.Step.{ignored, moved}
use Rattle.session_group.proofs.Placed.{begins, less, not_less, other_number, same_number, stays}
use Rattle.session_group.proofs.Showing.{first_none, leaves_none, shows_best}

-- ---- what a router's caller shows

silent_shown :
    {B D : Type 0} (c : histories.Caller B D) (h : Host B D) (b : B) (a : Action)
    → tells 0 a ≡ None → (host_after c h b a).shown ≡ h.shown
silent_shown c h b actions.Wait p = refl
silent_shown c h b actions.Connect p = refl
silent_shown c h b (actions.Ask q) p = refl
silent_shown c h b actions.Begin p = refl
silent_shown c h b actions.Keep p = refl
silent_shown c h b (actions.Apply x) p = refl
silent_shown c h b actions.Show p = grind arith
silent_shown c h b actions.NoData p = refl
silent_shown c h b actions.Drop p = grind arith
silent_shown c h b (actions.End x) p = go x.drop refl p
  where
    go : (z : Bool) → x.drop ≡ z → tells_at_end z x.cause ≡ None
        → (host_after c h b (actions.End x)).shown ≡ h.shown
    go true e p = grind arith
    go false e p = rw e refl

failed_at : (cause : Cause) (t : Event) → tells_at_end false cause ≡ Some t → events.Fails ≡ t
failed_at causes.Lower t p = grind arith
failed_at causes.Higher t p = grind arith
failed_at causes.Lost t p = grind arith
failed_at causes.Slow t p = grind arith
failed_at causes.Faulty t p = grind arith
failed_at causes.Reported t p = grind arith
failed_at causes.OutOfPlace t p = grind arith
failed_at causes.NoSuchPayload t p = grind arith
failed_at causes.OtherVersion t p = grind arith
failed_at causes.HigherVersion t p = grind arith
failed_at causes.OtherSession t p = grind arith
failed_at causes.OldSerial t p = grind arith
failed_at causes.OtherData t p = grind arith
failed_at causes.TooLong t p = grind arith
failed_at causes.NotApplied t p = grind arith
failed_at causes.Expired t p = grind arith

inside : (s t : Event) → Some s ≡ Some t → s ≡ t
inside s t p = grind arith

-- data that come with a whole answer, if they count
shown_counted :
    {D : Type 0} (s : Settings) (payloads : D → ℕ) (number : ℕ) (d : D) (x : Member D)
    → (once_told s number (events.Shows (payloads d)) d x).has ≡ counted s payloads (Some d)
shown_counted {D = D} s payloads number d x = go (cases_Bool (counts s (payloads d)))
  where
    go : (counts s (payloads d) ≡ true) ⊎ (counts s (payloads d) ≡ false)
        → (once_told s number (events.Shows (payloads d)) d x).has ≡ counted s payloads (Some d)
    go (inl p) = rw p refl
    go (inr p) = rw p refl

told_shown :
    {B D : Type 0} (s : Settings) (payloads : D → ℕ) (number : ℕ) (c : histories.Caller B D)
    (h : Host B D) (b : B) (a : Action) (t : Event) (d : D) (x : Member D)
    → tells (payloads d) a ≡ Some t
    → (a ≡ actions.Show → (host_after c h b a).shown ≡ Some d)
    → x.has ≡ counted s payloads h.shown
    → (once_told s number t d x).has ≡ counted s payloads (host_after c h b a).shown
told_shown {D = D} s payloads number c h b actions.Show t d x p q z =
    subst (λ (y : Event). (once_told s number y d x).has ≡ counted s payloads h.made)
    (inside (events.Shows (payloads d)) t p)
    (shown_counted s payloads number d x ∙ ap (λ (o : Option D). counted s payloads o)
    (sym (q refl)))
told_shown {D = D} s payloads number c h b actions.Drop t d x p q z =
    subst (λ (y : Event). (once_told s number y d x).has ≡ None) (inside events.Drops t p) refl
told_shown {D = D} s payloads number c h b actions.NoData t d x p q z =
    subst (λ (y : Event). (once_told s number y d x).has ≡ counted s payloads h.shown)
    (inside events.Fails t p) z
told_shown {D = D} s payloads number c h b (actions.End x₁) t d x p q z = go x₁.drop refl p
  where
    go : (w : Bool) → x₁.drop ≡ w → tells_at_end w x₁.cause ≡ Some t
        → (once_told s number t d x).has
        ≡ counted s payloads (host_after c h b (actions.End x₁)).shown
    go true e p =
        rw e (subst (λ (y : Event). (once_told s number y d x).has ≡ None)
        (inside events.Drops t p) refl)
    go false e p =
        rw e (subst (λ (y : Event). (once_told s number y d x).has ≡ counted s payloads h.shown)
        (failed_at x₁.cause t p) z)
told_shown s payloads number c h b actions.Wait t d x p q z = grind arith
told_shown s payloads number c h b actions.Connect t d x p q z = grind arith
told_shown s payloads number c h b (actions.Ask y) t d x p q z = grind arith
told_shown s payloads number c h b actions.Begin t d x p q z = grind arith
told_shown s payloads number c h b actions.Keep t d x p q z = grind arith
told_shown s payloads number c h b (actions.Apply y) t d x p q z = grind arith

-- ---- an end that runs

pub record EndRuns {B D : Type 0} (s : Settings) (payloads : D → ℕ) (c : histories.Caller B D)
    (x : Member D) (z : End B D) : Type 0 where
  pub history : IsHistory c z.history z.router z.host
  pub has : x.has ≡ counted s payloads z.host.shown

fresh_runs :
    {B D : Type 0} (s : Settings) (payloads : D → ℕ) (c : histories.Caller B D) (x : Member D)
    (z : End B D) → IsFresh c z → x.has ≡ None → EndRuns s payloads c x z
fresh_runs {B = B} {D = D} s payloads c x z f p = record {
  history =
      subst (λ (h : Host B D). IsHistory c z.history z.router h) (sym f.host)
      (subst (λ (ms : List (histories.Moment B)). IsHistory c ms z.router empty_host)
      (sym f.history) (router_begins z.router f.router));
  has = p ∙ ap (λ (h : Host B D). counted s payloads h.shown) (sym f.host);
}

pub kept_end :
    {B D : Type 0} (ends : ℕ → End B D) (r r' i : ℕ) (x : End B D) → i < r
    → with_fresh ends (if_less r r') x i ≡ ends i
kept_end {B = B} {D = D} ends r r' i x p = go (cases_lt r r')
  where
    apart : (a b : ℕ) → a < b → a ≢ b
    apart a b p e = absurd (bad a b p e)
      where
        bad : (a b : ℕ) → a < b → a ≡ b → ⊥
        bad a b p e = omega arith

    go : (r < r') ⊎ (r' ≤ r) → with_fresh ends (if_less r r') x i ≡ ends i
    go (inl q) = rw (less r r' q) (rw (other_number i r (apart i r p)) refl)
    go (inr q) = rw (not_less r r' q) refl

pub new_end :
    {B D : Type 0} (ends : ℕ → End B D) (r r' i : ℕ) (x : End B D) → r < r' → i ≡ r
    → with_fresh ends (if_less r r') x i ≡ x
new_end ends r r' i x p q = rw (less r r' p) (rw (same_number i r q) refl)

pub end_self :
    {B D : Type 0} (ends : ℕ → End B D) (m : ℕ) (x : End B D) → with_end ends m x m ≡ x
end_self ends m x = rw (same_number m m refl) refl

pub end_other :
    {B D : Type 0} (ends : ℕ → End B D) (m : ℕ) (x : End B D) (i : ℕ) → i ≢ m
    → with_end ends m x i ≡ ends i
end_other ends m x i p = rw (other_number i m p) refl

-- ---- the run

abbrev pub EndsRun : {B D : Type 0} → Settings → (D → ℕ) → (ℕ → histories.Caller B D)
    → (ℕ → Member D) → (ℕ → End B D) → Type 0
EndsRun s payloads c x ends =
    (i : ℕ) → (x i).runs ≡ true → EndRuns s payloads (c i) (x i) (ends i)

clash : (b : Bool) → b ≡ true → b ≡ false → ⊥
clash b p q = grind arith

pub runs_low :
    {D : Type 0} (count : ℕ) (s : Settings) (g : Group) (k : Listener D) (m : ℕ)
    → Agrees count s g k → (k.members m).runs ≡ true → m < g.runs
runs_low {D = D} count s g k m a p = go (cases_lt m g.runs)
  where
    go : (m < g.runs) ⊎ (g.runs ≤ m) → m < g.runs
    go (inl q) = q
    go (inr q) =
        absurd (clash (k.members m).runs p (ap (λ (z : Member D). z.runs) (a.idle m q)))

stepped :
    {B D : Type 0} (s : Settings) (payloads : D → ℕ) (c : histories.Caller B D) (z : End B D)
    (n : ℕ) (e : router_event.Event) (b : B) (a : Action) (r' : Router) (x y : Member D)
    → EndRuns s payloads c x z → MaySay z.router z.host e → IsStep z.router n e a r'
    → y.has ≡ counted s payloads (host_after c z.host b a).shown
    → EndRuns s payloads c y (end_after c z n e b a r')
stepped s payloads c z n e b a r' x y w may is h = record {
  history = router_goes_on n b e a r' z.history z.router z.host w.history may is;
  has = h;
}

silent_runs :
    {B D : Type 0} (s : Settings) (payloads : D → ℕ) (c : ℕ → histories.Caller B D)
    (x : ℕ → Member D) (ends : ℕ → End B D) (m : ℕ) (z : End B D)
    → EndsRun s payloads c x ends → EndRuns s payloads (c m) (x m) z
    → EndsRun s payloads c x (with_end ends m z)
silent_runs {B = B} {D = D} s payloads c x ends m z w v i p = go (cases_eq i m)
  where
    at_m : EndRuns s payloads (c m) (x m) (with_end ends m z m)
    at_m = subst (λ (y : End B D). EndRuns s payloads (c m) (x m) y) (sym (end_self ends m z)) v

    go : (i ≡ m) ⊎ (i ≢ m) → EndRuns s payloads (c i) (x i) (with_end ends m z i)
    go (inl q) =
        subst (λ (j : ℕ). EndRuns s payloads (c j) (x j) (with_end ends m z j)) (sym q) at_m
    go (inr q) =
        subst (λ (y : End B D). EndRuns s payloads (c i) (x i) y) (sym (end_other ends m z i q))
        (w i p)

-- what runs after what happened: what ran before, and what was started
module _ {B D : Type 0} (s : Settings) (payloads : D → ℕ) (c : ℕ → histories.Caller B D)
    (count : ℕ) (g : Group) (k : Listener D) (n : ℕ) (h : Happened D) (ends : ℕ → End B D)
    (fresh : End B D) (a : Agrees count s g k)
    (w : (i : ℕ) → i < g.runs → EndRuns s payloads (c i) (then_of k n h i) (ends i))
    (is_fresh : (i : ℕ) → if_less g.runs (group_then g n h).runs ≡ Some i → IsFresh (c i) fresh)
  where
    abbrev k' : Listener D
    k' = caller_then k n h (answer_then g n h)

    abbrev ends' : ℕ → End B D
    ends' i = with_fresh ends (if_less g.runs (group_then g n h).runs) fresh i

    near : Step g k n h → (group_then g n h).runs ≤ g.runs + 1
    near (ignored e f far) = subst (λ (z : Group). z.runs ≤ g.runs + 1) (sym e) (le_up g.runs)
      where
        le_up : (r : ℕ) → r ≤ r + 1
        le_up r = omega arith
    near (moved m low other v news keep) = v.near

    both : (i : ℕ) (x : Member D) (y : End B D) → EndRuns s payloads (c i) x y
        → (k'.members i) ≡ x → ends' i ≡ y → EndRuns s payloads (c i) (k'.members i) (ends' i)
    both i x y r p q = record {
      history =
          subst (λ (e : End B D). IsHistory (c i) e.history e.router e.host) (sym q) r.history;
      has = ap (λ (z : Member D). z.has) p ∙ r.has
          ∙ ap (λ (e : End B D). counted s payloads e.host.shown) (sym q);
    }

    by_place : (i : ℕ) → i < (group_then g n h).runs → (i < g.runs) ⊎ (g.runs ≤ i)
        → EndRuns s payloads (c i) (k'.members i) (ends' i)
    by_place i p (inl q) =
        both i (then_of k n h i) (ends i) (w i q)
        (after_so g k n h i ∙ stays n g.runs (group_then g n h).runs i (then_of k n h i) p q)
        (kept_end ends g.runs (group_then g n h).runs i fresh q)
    by_place i p (inr q) =
        both i (begun n) fresh
        (fresh_runs s payloads (c i) (begun n) fresh
        (is_fresh i (less g.runs (group_then g n h).runs grown ∙ ap (λ (j : ℕ). Some j) (sym same)))
        refl)
        (after_so g k n h i
        ∙ begins n g.runs (group_then g n h).runs i (then_of k n h i) grown same)
        (new_end ends g.runs (group_then g n h).runs i fresh grown same)
      where
        more : (i r r' : ℕ) → i < r' → r ≤ i → r < r'
        more i r r' p q = omega arith

        grown : g.runs < (group_then g n h).runs
        grown = more i g.runs (group_then g n h).runs p q

        one : (i r r' : ℕ) → i < r' → r ≤ i → r' ≤ r + 1 → i ≡ r
        one i r r' p q s = omega arith

        same : i ≡ g.runs
        same = one i g.runs (group_then g n h).runs p q (near (step count s g k n h a))

    pub next_runs : EndsRun s payloads c (caller_then k n h (answer_then g n h)).members ends'
    next_runs i p =
        let q : i < (group_then g n h).runs =
        runs_low count s (group_then g n h) (caller_then k n h (answer_then g n h)) i
        (agrees_next count s g k n h a) p in
        by_place i q (cases_lt i g.runs)

-- ---- any run

pub record Joined {B D : Type 0} (c : ℕ → histories.Caller B D) (count : ℕ) (s : Settings)
    (payloads : D → ℕ) (ms : List (GroupMoment D)) (g : Group) (k : Listener D)
    (ends : ℕ → End B D) : Type 0 where
  pub run : IsGroupRun count s ms g k
  pub ends_run : EndsRun s payloads c k.members ends

-- the ends after an event of a member that runs
told_runs :
    {B D : Type 0} (c : ℕ → histories.Caller B D) (count : ℕ) (s : Settings) (payloads : D → ℕ)
    (g : Group) (k : Listener D) (ends : ℕ → End B D) (m : ℕ) (t : Event) (d : D) (z : End B D)
    → Agrees count s g k → (k.members m).runs ≡ true → EndsRun s payloads c k.members ends
    → EndRuns s payloads (c m) (once_told s (k.events + 1) t d (k.members m)) z
    → (i : ℕ) → i < g.runs
    → EndRuns s payloads (c i) (told_of k m t d i) (with_end ends m z i)
told_runs {B = B} {D = D} c count s payloads g k ends m t d z a p w v i q = go (cases_eq i m)
  where
    self_told : told_of k m t d m ≡ once_told s (k.events + 1) t d (k.members m)
    self_told =
        rw (same_number m m refl)
        (if_so (k.members m).runs (once_told k.settings (k.events + 1) t d (k.members m))
        (k.members m) p
        ∙ ap (λ (z : Settings). once_told z (k.events + 1) t d (k.members m)) a.caller)

    at_m : EndRuns s payloads (c m) (told_of k m t d m) (with_end ends m z m)
    at_m =
        subst (λ (y : End B D). EndRuns s payloads (c m) (told_of k m t d m) y)
        (sym (end_self ends m z))
        (subst (λ (x : Member D). EndRuns s payloads (c m) x z) (sym self_told) v)

    go : (i ≡ m) ⊎ (i ≢ m) → EndRuns s payloads (c i) (told_of k m t d i) (with_end ends m z i)
    go (inl r) =
        subst (λ (j : ℕ). EndRuns s payloads (c j) (told_of k m t d j) (with_end ends m z j))
        (sym r) at_m
    go (inr r) =
        subst (λ (y : End B D). EndRuns s payloads (c i) (told_of k m t d i) y)
        (sym (end_other ends m z i r))
        (subst (λ (x : Member D). EndRuns s payloads (c i) x (ends i)) (sym other)
        (w i (a.runs i q)))
      where
        other : told_of k m t d i ≡ k.members i
        other = rw (other_number i m r) refl

pub joined :
    {B D : Type 0} (c : ℕ → histories.Caller B D) (count : ℕ) (s : Settings) (payloads : D → ℕ)
    (ms : List (GroupMoment D)) (g : Group) (k : Listener D) (ends : ℕ → End B D)
    → IsGroup c count s payloads ms g k ends → Joined c count s payloads ms g k ends
joined c count s payloads ms g k ends (group_begins n g₀ ends₀ new f) = record {
  run = group_run_begins n g₀ new;
  ends_run = λ i p. fresh_runs s payloads (c i) (k.members i) (ends i) (f i)
      (first_none count s n (Some i));
}
joined c count s payloads ms g k ends
    (goes_on_silently m n e b a r' ms₀ g₀ k₀ ends₀ x p may is silent) =
    let j : Joined c count s payloads ms₀ g₀ k₀ ends₀ =
    joined c count s payloads ms₀ g₀ k₀ ends₀ x in
    let y : EndRuns s payloads (c m) (k₀.members m) (ends₀ m) = j.ends_run m p in
    record {
      run = j.run;
      ends_run =
          silent_runs s payloads c k₀.members ends₀ m (end_after (c m) (ends₀ m) n e b a r')
          j.ends_run
          (stepped s payloads (c m) (ends₀ m) n e b a r' (k₀.members m) (k₀.members m) y may is
          (y.has ∙ ap (λ (o : Option _). counted s payloads o)
          (sym (silent_shown (c m) (ends₀ m).host b a silent))));
    }
joined c count s payloads ms g k ends
    (goes_on m n e b a r' t d fresh ms₀ g₀ k₀ ends₀ x p may is tell came f) =
    let j : Joined c count s payloads ms₀ g₀ k₀ ends₀ =
    joined c count s payloads ms₀ g₀ k₀ ends₀ x in
    let y : EndRuns s payloads (c m) (k₀.members m) (ends₀ m) = j.ends_run m p in
    let agree : Agrees count s g₀ k₀ = agrees count s ms₀ g₀ k₀ j.run in
    record {
      run = group_run_goes_on n (to_member m t d) ms₀ g₀ k₀ j.run;
      ends_run =
          next_runs s payloads c count g₀ k₀ n (to_member m t d)
          (with_end ends₀ m (end_after (c m) (ends₀ m) n e b a r')) fresh agree
          (told_runs c count s payloads g₀ k₀ ends₀ m t d (end_after (c m) (ends₀ m) n e b a r')
          agree p j.ends_run
          (stepped s payloads (c m) (ends₀ m) n e b a r' (k₀.members m)
          (once_told s (k₀.events + 1) t d (k₀.members m)) y may is
          (told_shown s payloads (k₀.events + 1) (c m) (ends₀ m).host b a t d (k₀.members m) tell
          came y.has)))
          f;
    }
joined c count s payloads ms g k ends (waits n fresh ms₀ g₀ k₀ ends₀ x f) =
    let j : Joined c count s payloads ms₀ g₀ k₀ ends₀ =
    joined c count s payloads ms₀ g₀ k₀ ends₀ x in
    let agree : Agrees count s g₀ k₀ = agrees count s ms₀ g₀ k₀ j.run in
    record {
      run = group_run_goes_on n time_passed ms₀ g₀ k₀ j.run;
      ends_run =
          next_runs s payloads c count g₀ k₀ n time_passed ends₀ fresh agree
          (λ i q.
          let y : EndRuns s payloads (c i) (k₀.members i) (ends₀ i) =
          j.ends_run i (agree.runs i q) in
          record { history = y.history; has = y.has })
          f;
    }

pub shows_whole :
    {B D : Type 0} (c : ℕ → histories.Caller B D) (count : ℕ) (s : Settings) (payloads : D → ℕ)
    (ms : List (GroupMoment D)) (g : Group) (k : Listener D) (ends : ℕ → End B D)
    → IsGroup c count s payloads ms g k ends → ShowsWhole c s payloads k ends
shows_whole {B = B} {D = D} c count s payloads ms g k ends x =
    let j : Joined c count s payloads ms g k ends = joined c count s payloads ms g k ends x in
    go j (shows_best count s ms g k j.run)
  where
    not_none : (o : Option D) (d : D) → o ≡ Some d → o ≡ None → ⊥
    not_none o d p q = grind arith

    have_shown : Joined c count s payloads ms g k ends → HaveShown s payloads k ends
    have_shown j i p = (j.ends_run i p).has

    is_running : IsGroupRun count s ms g k → (m : ℕ) (d : D) → (k.members m).has ≡ Some d
        → (k.members m).runs ≡ true
    is_running run m d p = by_cases (cases_Bool (k.members m).runs)
      where
        by_cases : ((k.members m).runs ≡ true) ⊎ ((k.members m).runs ≡ false)
            → (k.members m).runs ≡ true
        by_cases (inl q) = q
        by_cases (inr q) =
            absurd (not_none (k.members m).has d p (leaves_none count s ms g k run m q))

    -- data that count are those that are shown
    the_shown : (o : Option D) (d : D) → counted s payloads o ≡ Some d → o ≡ Some d
    the_shown None d p = grind arith
    the_shown (Some e) d p = by_count (cases_Bool (counts s (payloads e))) p
      where
        by_count : (counts s (payloads e) ≡ true) ⊎ (counts s (payloads e) ≡ false)
            → counted s payloads (Some e) ≡ Some d → Some e ≡ Some d
        by_count (inl q) r = grind arith
        by_count (inr q) r = grind arith

    answered : (m : ℕ) (d : D) → EndRuns s payloads (c m) (k.members m) (ends m)
        → (ends m).host.shown ≡ Some d
        → IsAnswered (c m) (ends m).history (ends m).router.known (Some d)
    answered m d r e =
        by_cases
        (whole_answers (c m) (ends m).history (ends m).router (ends m).host r.history)
      where
        by_cases : ((ends m).host.shown ≡ None)
            ⊎ IsAnswered (c m) (ends m).history (ends m).router.known (ends m).host.shown
            → IsAnswered (c m) (ends m).history (ends m).router.known (Some d)
        by_cases (inl q) = absurd (not_none (ends m).host.shown d e q)
        by_cases (inr q) =
            subst (λ (o : Option D). IsAnswered (c m) (ends m).history (ends m).router.known o)
            e q

    go : Joined c count s payloads ms g k ends → ShowsBest k → ShowsWhole c s payloads k ends
    go j (none_has z h) = none_shows z (have_shown j) h
    go j (of_best m d z b) =
        let runs : (k.members m).runs ≡ true = is_running j.run m d b.has in
        let r : EndRuns s payloads (c m) (k.members m) (ends m) = j.ends_run m runs in
        let e : (ends m).host.shown ≡ Some d =
        the_shown (ends m).host.shown d (sym r.has ∙ b.has) in
        of_one m d runs (have_shown j) z b e (answered m d r e)
