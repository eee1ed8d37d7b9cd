-- A group beside a cache that keeps the rules: its member's end is a router that a cache serves,
-- from when it is started, and the group comes to it patience by patience.
use Rattle.std.proofs.Common.{◌≡◌, ◌≢◌, ℕ, Bool, true, false, ◌+◌, ◌*◌, ◌<◌, ◌≤◌, ◌⊎◌, inl, inr}
use Rattle.std.proofs.Common.{Option, Some, None, refl, sym, ◌∙◌, ap, ap₂, subst, List, [], arith}
use Rattle.std.specs.Prelude.{max, if◌then◌else◌}
use Rattle.std.proofs.lemmas.Bool.{cases_eq, cases_lt}
use Rattle.session_router.specs.declared.router.Router.{Router}
use Rattle.session_router.specs.declared.router.Phase.{Phase}
use Rattle.session_router.specs.declared.settings.Settings as routers
use Rattle.session_router.specs.declared.event.Event as router_event
use Rattle.session_router.specs.declared.event.Action.{Action}
use Rattle.session_router.specs.declared.event.Action.TheVariants as actions
use Rattle.session_router.specs.Histories as histories
use Rattle.session_router.specs.Histories.{IsNew, empty_host}
use Rattle.session_router.specs.Histories.IsHistory.{run_begins as router_begins}
use Rattle.session_router.specs.Rules.{opening_version}
use Rattle.session_router.specs.Step.{IsStep}
use Rattle.session_router.specs.Pace.{due_in, wakes_at}
use Rattle.session_router.specs.Exchange.{Exchange, exchange_after, exchanged, none_yet}
use Rattle.session_router.specs.Recovery.{ClosesAbove, ComesInTime, IsBeside, IsServedBy, Unshown}
use Rattle.session_router.specs.Recovery.{connection_time, connections, restarts, served_until}
use Rattle.session_router.specs.Recovery.{time_needed}
use Rattle.session_router.specs.Recovery.IsBeside.{beside_from, beside_on}
use Rattle.session_router.proofs.Exchanges.{acts_then}
use Rattle.session_group.specs.declared.event.Event.{Event}
use Rattle.session_group.specs.declared.event.Event.TheVariants as events
use Rattle.session_group.specs.declared.group.Group.{Group}
use Rattle.session_group.specs.declared.settings.Settings.{Settings}
use Rattle.session_group.specs.Groups.{answer, counts, group_ticked, group_wakes, if_less}
use Rattle.session_group.specs.Runs.{Listener, Member, GroupMoment, Happened, answer_then}
use Rattle.session_group.specs.Runs.{caller_then}
use Rattle.session_group.specs.Runs.{group_then, is_current, once_told, told_of}
use Rattle.session_group.specs.Runs.Happened.{time_passed, to_member}
use Rattle.session_group.specs.Ends.{End, IsGroup, end_after, tells, with_end, with_fresh}
use Rattle.session_group.specs.Ends.IsGroup.{goes_on, goes_on_silently, waits}
use Rattle.session_group.specs.Recovery.{NoneUpTo}
use Rattle.session_group.specs.Served.{Deed, GroupStep, EndHasData, IsServedIn, IsSoon, IsStarted}
use Rattle.session_group.specs.Served.{KeepsRules, GroupReaches, after_deed, after_start}
use Rattle.session_group.specs.Served.{first_time}
use Rattle.session_group.specs.Served.{served_by}
use Rattle.session_group.specs.Served.GroupStep.{is_told, time_passes, not_told}
use Rattle.session_group.specs.Served.IsServedIn.{served_from, served_on}
use Rattle.session_group.proofs.Stepping.{Agrees}
use Rattle.session_group.proofs.Agreeing.{Step, after_so, agrees, agrees_next, if_so, step}
use Rattle.session_group.proofs.Agreeing.Step.{ignored, moved}
use Rattle.session_group.proofs.Joined.{Joined, end_other, end_self, joined, kept_end, new_end}
use Rattle.session_group.proofs.Joined.{runs_low}
use Rattle.session_group.proofs.Placed.{less, not_less, other_number, same_number, stays}
use Rattle.session_group.proofs.Recovering.{Place, more, not_stopped, place_first, place_next}
use Rattle.session_group.proofs.Recovering.{wakes_then}
use Rattle.session_group.proofs.Recovering.Place.{asked, not_yet}

-- ---- such a run is one of a group

pub reaches :
    {B D : Type 0} (c : ℕ → histories.Caller B D) (count : ℕ) (s : Settings) (payloads : D → ℕ)
    (ms : List (GroupMoment D)) (n : ℕ) (g g' : Group) (k k' : Listener D)
    (ends ends' : ℕ → End B D) (did : Option Deed) (starts : Option ℕ)
    → IsGroup c count s payloads ms g k ends
    → GroupStep c payloads n g k ends did starts g' k' ends'
    → GroupReaches c count s payloads g' k' ends'
reaches c count s payloads ms n g g' k k' ends ends' did starts run
    (not_told m e b a r' p may is silent) =
    record { history = ms; run = goes_on_silently m n e b a r' ms g k ends run p may is silent }
reaches c count s payloads ms n g g' k k' ends ends' did starts run
    (is_told m e b a r' told d fresh p may is tell came f) = record {
      history = _;
      run =
          goes_on m n e b a r' told d fresh ms g k ends run p may is tell came
          (λ j q. (f j q).fresh);
    }
reaches c count s payloads ms n g g' k k' ends ends' did starts run (time_passes fresh f) = record {
  history = _;
  run = waits n fresh ms g k ends run (λ j q. (f j q).fresh);
}

-- ---- a member that runs

-- its router is one that a cache serves from a time on, and it is time for its next step at most
pub record Beside (most : ℕ) (r₀ : Router) (x₀ : Exchange) (b : ℕ) (r : Router) (x : Exchange)
    (n : ℕ) : Type 0 where
  pub at : ℕ
  pub run : IsBeside Unshown most r₀ x₀ b r x at
  pub later : at ≤ n
  pub soon : n ≤ max at (wakes_at r)

clash : (b : Bool) → b ≡ true → b ≡ false → ⊥
clash b p q = grind arith

through : (a b c : ℕ) → a ≤ b → b ≤ c → a ≤ c
through a b c p q = omega arith

same_time : (n w : ℕ) → n ≤ max n w
same_time n w = omega arith

self_le : (a : ℕ) → a ≤ a
self_le a = omega arith

within : (n n' a w : ℕ) → n' ≤ max n w → n ≤ max a w → n' ≤ max a w
within n n' a w p q = omega arith

-- another step, and nothing of this router
pub still : (most : ℕ) (r₀ : Router) (x₀ : Exchange) (b : ℕ) (r : Router) (x : Exchange) (n n' : ℕ)
    → n ≤ n' → n' ≤ max n (wakes_at r) → Beside most r₀ x₀ b r x n → Beside most r₀ x₀ b r x n'
still most r₀ x₀ b r x n n' l t y = record {
  at = y.at;
  run = y.run;
  later = through y.at n n' y.later l;
  soon = within n n' y.at (wakes_at r) t y.soon;
}

-- a step of its own
pub on : (most : ℕ) (r₀ : Router) (x₀ : Exchange) (b : ℕ) (r : Router) (x : Exchange) (n n' : ℕ)
    (e : router_event.Event) (a : Action) (r' : Router)
    → n ≤ n' → n' ≤ max n (wakes_at r) → ComesInTime x n'
    → IsServedBy most r.settings x e → ClosesAbove x e → a ≢ actions.Show → IsStep r n' e a r'
    → Beside most r₀ x₀ b r x n
    → Beside most r₀ x₀ b r' (exchange_after r.settings n' e a x) n'
on most r₀ x₀ b r x n n' e a r' l t soon served above unshown is y = record {
  at = n';
  run =
      beside_on r x y.at n' e a r' y.run (through y.at n n' y.later l)
      (within n n' y.at (wakes_at r) t y.soon) soon served is (unshown, above);
  later = self_le n';
  soon = same_time n' (wakes_at r');
}

-- ---- what is exchanged with the cache of a member

own_deed : (i m n : ℕ) (s : routers.Settings) (e : router_event.Event) (a : Action)
    (told : Option Event) (x : Exchange) → i ≡ m
    → after_deed i s n (Some (record { member = m; event = e; action = a; told = told })) x
    ≡ exchange_after s n e a x
own_deed i m n s e a told x p = rw (same_number m i (sym p)) refl

other_deed : (i m n : ℕ) (s : routers.Settings) (e : router_event.Event) (a : Action)
    (told : Option Event) (x : Exchange) → i ≢ m
    → after_deed i s n (Some (record { member = m; event = e; action = a; told = told })) x ≡ x
other_deed i m n s e a told x p = rw (other_number m i (λ q. p (sym q))) refl

kept_start : (i r r' : ℕ) (x : Exchange) → i < r → after_start i (if_less r r') x ≡ x
kept_start i r r' x p = go (cases_lt r r')
  where
    apart : (i r : ℕ) → i < r → r ≢ i
    apart i r p e = absurd (bad i r p e)
      where
        bad : (i r : ℕ) → i < r → r ≡ i → ⊥
        bad i r p e = omega arith

    go : (r < r') ⊎ (r' ≤ r) → after_start i (if_less r r') x ≡ x
    go (inl q) = rw (less r r' q) (rw (other_number r i (apart i r p)) refl)
    go (inr q) = rw (not_less r r' q) refl

new_start : (i r r' : ℕ) (x : Exchange) → r < r' → i ≡ r → after_start i (if_less r r') x ≡ none_yet
new_start i r r' x p q = rw (less r r' p) (rw (same_number r i (sym q)) refl)

-- ---- a step of a group

-- a member that runs isn't stopped while neither it nor a better one is current
stays_on :
    {D : Type 0} (count : ℕ) (s : Settings) (g : Group) (k : Listener D) (n : ℕ) (h : Happened D)
    (i : ℕ) → Agrees count s g k → NoneUpTo i (caller_then k n h (answer_then g n h))
    → i < g.runs → i < (group_then g n h).runs
stays_on {D = D} count s g k n h i a none p = go (step count s g k n h a)
  where
    go : Step g k n h → i < (group_then g n h).runs
    go (ignored e f far) = subst (λ (z : Group). i < z.runs) (sym e) p
    go (moved m low other v news keep) = by_place (cases_lt i (group_then g n h).runs)
      where
        fewer : (i r r' : ℕ) → i < r → r' ≤ i → r' < r
        fewer i r r' p q = omega arith

        by_place : (i < (group_then g n h).runs) ⊎ ((group_then g n h).runs ≤ i)
            → i < (group_then g n h).runs
        by_place (inl q) = q
        by_place (inr q) =
            absurd (not_stopped count s g k n h i a none m low other v q
            (fewer i g.runs (group_then g n h).runs p q))

-- a whole answer of it, of data that count, would make it current
no_answer :
    {D : Type 0} (count : ℕ) (s : Settings) (payloads : D → ℕ) (g : Group) (k : Listener D)
    (n i : ℕ) (told : Event) (d : D) (a : Action)
    → Agrees count s g k → NoneUpTo i (caller_then k n (to_member i told d) (answer g n i told))
    → i < g.runs → tells (payloads d) a ≡ Some told → EndHasData k.settings (Some told)
    → a ≢ actions.Show
no_answer {D = D} count s payloads g k n i told d a agree none p tell has show =
    absurd (clash
    (is_current ((caller_then k n (to_member i told d) (answer g n i told)).members i))
    (ap (λ (x : Member D). is_current x)
    (after_so g k n (to_member i told d) i
    ∙ stays n g.runs (group_then g n (to_member i told d)).runs i (told_of k i told d i)
    (stays_on count s g k n (to_member i told d) i agree none p) p
    ∙ hears)
    ∙ subst
    (λ (t : Event). is_current (once_told k.settings (k.events + 1) t d (k.members i)) ≡ true)
    is (current (subst (λ (t : Event). EndHasData k.settings (Some t)) (sym is) has)))
    (none i (self_le i)))
  where
    inside : (t u : Event) → Some t ≡ Some u → t ≡ u
    inside t u p = grind arith

    is : events.Shows (payloads d) ≡ told
    is = inside (events.Shows (payloads d)) told
        (ap (λ (a : Action). tells (payloads d) a) (sym show) ∙ tell)

    hears : told_of k i told d i ≡ once_told k.settings (k.events + 1) told d (k.members i)
    hears =
        rw (same_number i i refl)
        (if_so (k.members i).runs (once_told k.settings (k.events + 1) told d (k.members i))
        (k.members i) (agree.runs i p))

    current : counts k.settings (payloads d) ≡ true
        → is_current (once_told k.settings (k.events + 1) (events.Shows (payloads d)) d
        (k.members i))
        ≡ true
    current q = rw q refl

-- ---- a member that runs, in a step of a group

module _ {B D : Type 0} (c : ℕ → histories.Caller B D) (count : ℕ) (s : Settings)
    (payloads : D → ℕ) (i most : ℕ) (r₀ : Router) (x₀ : Exchange) (b₀ : ℕ) where
  abbrev IsBy : (ℕ → End B D) → Exchange → ℕ → Type 0
  IsBy ends x n = Beside most r₀ x₀ b₀ (ends i).router x n

  -- the end of a member did something
  after_own :
      (g : Group) (k : Listener D) (ends : ℕ → End B D) (x : Exchange) (n n' m : ℕ)
      (e : router_event.Event) (b : B) (a : Action) (r' : Router) (told : Option Event)
      → IsSoon i g k ends x n n' → (k.members i).runs ≡ true
      → IsStep (ends m).router n' e a r'
      → KeepsRules i most (ends i).router.settings k.settings x
      (Some (record { member = m; event = e; action = a; told = told }))
      → (i ≡ m → a ≢ actions.Show)
      → IsBy ends x n
      → IsBy (with_end ends m (end_after (c m) (ends m) n' e b a r'))
      (after_deed i (ends i).router.settings n'
      (Some (record { member = m; event = e; action = a; told = told })) x)
      n'
  after_own g k ends x n n' m e b a r' told soon runs is keeps unshown y = go (cases_eq i m)
    where
      z : End B D
      z = end_after (c m) (ends m) n' e b a r'

      did : Option Deed
      did = Some (record { member = m; event = e; action = a; told = told })

      both : (r : Router) (w : Exchange) → Beside most r₀ x₀ b₀ r w n'
          → (with_end ends m z i).router ≡ r
          → after_deed i (ends i).router.settings n' did x ≡ w
          → IsBy (with_end ends m z) (after_deed i (ends i).router.settings n' did x) n'
      both r w y p q =
          subst (λ (v : Exchange). Beside most r₀ x₀ b₀ (with_end ends m z i).router v n') (sym q)
          (subst (λ (v : Router). Beside most r₀ x₀ b₀ v w n') (sym p) y)

      go : (i ≡ m) ⊎ (i ≢ m)
          → IsBy (with_end ends m z) (after_deed i (ends i).router.settings n' did x) n'
      go (inl p) =
          both r' (exchange_after (ends i).router.settings n' e a x)
          (on most r₀ x₀ b₀ (ends i).router x n n' e a r' soon.later (soon.router runs)
          (soon.in_time runs) (keeps (sym p)).0 (keeps (sym p)).1 (unshown p)
          (subst (λ (j : ℕ). IsStep (ends j).router n' e a r') (sym p) is) y)
          (ap (λ (j : ℕ). (with_end ends m z j).router) p
          ∙ ap (λ (v : End B D). v.router) (end_self ends m z))
          (own_deed i m n' (ends i).router.settings e a told x p)
      go (inr p) =
          both (ends i).router x
          (still most r₀ x₀ b₀ (ends i).router x n n' soon.later (soon.router runs) y)
          (ap (λ (v : End B D). v.router) (end_other ends m z i p))
          (other_deed i m n' (ends i).router.settings e a told x p)

  -- those that are started come after it
  after_starts :
      (ends : ℕ → End B D) (fresh : End B D) (r r' : ℕ) (x : Exchange) (n : ℕ) → i < r
      → IsBy ends x n
      → IsBy (with_fresh ends (if_less r r') fresh) (after_start i (if_less r r') x) n
  after_starts ends fresh r r' x n p y =
      subst (λ (v : Exchange). Beside most r₀ x₀ b₀ (with_fresh ends (if_less r r') fresh i).router
      v n)
      (sym (kept_start i r r' x p))
      (subst (λ (v : End B D). Beside most r₀ x₀ b₀ v.router x n)
      (sym (kept_end ends r r' i fresh p)) y)

  pub member_next :
      (n n' : ℕ) (g g' : Group) (k k' : Listener D) (ends ends' : ℕ → End B D) (x : Exchange)
      (did : Option Deed) (starts : Option ℕ)
      → Agrees count s g k → IsSoon i g k ends x n n'
      → GroupStep c payloads n' g k ends did starts g' k' ends'
      → KeepsRules i most (ends i).router.settings k.settings x did
      → NoneUpTo i k' → i < g.runs → IsBy ends x n
      → (i < g'.runs)
      × IsBy ends' (after_start i starts (after_deed i (ends i).router.settings n' did x)) n'
  member_next n n' g g' k k' ends ends' x did starts agree soon
      (not_told m e b a r' runs may is silent) keeps none p y = (
        p,
        after_own g k ends x n n' m e b a r' None soon (agree.runs i p) is keeps
            (λ q w. unheard (ap (λ (a : Action). tells 0 a) (sym w) ∙ silent)) y,
      )
    where
      unheard : Some (events.Shows 0) ≡ None → ⊥
      unheard p = grind arith
  member_next n n' g g' k k' ends ends' x did starts agree soon
      (is_told m e b a r' told d fresh runs may is tell came f) keeps none p y = (
        stays_on count s g k n' (to_member m told d) i agree none p,
        after_starts (with_end ends m (end_after (c m) (ends m) n' e b a r')) fresh g.runs
            (group_then g n' (to_member m told d)).runs _ n' p
            (after_own g k ends x n n' m e b a r' (Some told) soon (agree.runs i p) is keeps
            (λ q. no_answer count s payloads g k n' i told d a agree
            (subst
            (λ (j : ℕ). NoneUpTo i (caller_then k n' (to_member j told d) (answer g n' j told)))
            (sym q) none)
            p tell (keeps (sym q)).2) y),
      )
  member_next n n' g g' k k' ends ends' x did starts agree soon (time_passes fresh f) keeps none
      p y = (
        stays_on count s g k n' time_passed i agree none p,
        after_starts ends fresh g.runs (group_ticked g n').runs x n' p
            (still most r₀ x₀ b₀ (ends i).router x n n' soon.later
            (soon.router (agree.runs i p)) y),
      )

-- what a group and its caller are after a step
agrees_on :
    {B D : Type 0} (c : ℕ → histories.Caller B D) (count : ℕ) (s : Settings) (payloads : D → ℕ)
    (n : ℕ) (g g' : Group) (k k' : Listener D) (ends ends' : ℕ → End B D) (did : Option Deed)
    (starts : Option ℕ) → Agrees count s g k
    → GroupStep c payloads n g k ends did starts g' k' ends' → Agrees count s g' k'
agrees_on c count s payloads n g g' k k' ends ends' did starts a
    (not_told m e b a₁ r' runs may is silent) = a
agrees_on c count s payloads n g g' k k' ends ends' did starts a
    (is_told m e b a₁ r' told d fresh runs may is tell came f) =
    agrees_next count s g k n (to_member m told d) a
agrees_on c count s payloads n g g' k k' ends ends' did starts a (time_passes fresh f) =
    agrees_next count s g k n time_passed a

-- ---- a member that runs from the start

record Going {B D : Type 0} (count : ℕ) (s : Settings) (i most : ℕ) (r₀ : Router) (x₀ : Exchange)
    (b₀ : ℕ) (g : Group) (k : Listener D) (ends : ℕ → End B D) (x : Exchange) (n : ℕ) :
    Type 0 where
  agree : Agrees count s g k
  low : i < g.runs
  member : Beside most r₀ x₀ b₀ (ends i).router x n

going :
    {B D : Type 0} (c : ℕ → histories.Caller B D) (count : ℕ) (s : Settings) (payloads : D → ℕ)
    (i most start : ℕ) (g₀ : Group) (k₀ : Listener D) (ends₀ : ℕ → End B D) (x₀ : Exchange)
    (g : Group) (k : Listener D) (ends : ℕ → End B D) (x : Exchange) (n : ℕ)
    → Agrees count s g₀ k₀ → i < g₀.runs
    → IsServedIn c payloads i most start g₀ k₀ ends₀ x₀ g k ends x n
    → Going count s i most (ends₀ i).router x₀ start g k ends x n
going c count s payloads i most start g₀ k₀ ends₀ x₀ g k ends x n a p (served_from none) = record {
  agree = a;
  low = p;
  member = record {
    at = start;
    run = beside_from;
    later = self_le start;
    soon = same_time start (wakes_at (ends₀ i).router);
  };
}
going c count s payloads i most start g₀ k₀ ends₀ x₀ g k ends x n a p
    (served_on n₁ n₂ did starts g₁ g₂ k₁ k₂ ends₁ ends₂ x₁ run soon is keeps none) =
    let y : Going count s i most (ends₀ i).router x₀ start g₁ k₁ ends₁ x₁ n₁ =
    going c count s payloads i most start g₀ k₀ ends₀ x₀ g₁ k₁ ends₁ x₁ n₁ a p run in
    let z : (i < g₂.runs) × Beside most (ends₀ i).router x₀ start (ends₂ i).router
    (after_start i starts (after_deed i (ends₁ i).router.settings n₂ did x₁)) n₂ =
    member_next c count s payloads i most (ends₀ i).router x₀ start n₁ n₂ g₁ g₂ k₁ k₂ ends₁ ends₂
    x₁ did starts y.agree soon is keeps none y.low y.member in
    record {
      agree = agrees_on c count s payloads n₂ g₁ g₂ k₁ k₂ ends₁ ends₂ did starts y.agree is;
      low = z.0;
      member = z.1;
    }

pub recovers_running :
    {B D : Type 0} (c : ℕ → histories.Caller B D) (count : ℕ) (s : Settings) (payloads : D → ℕ)
    (ms : List (GroupMoment D)) (g₀ g : Group) (k₀ k : Listener D) (ends₀ ends : ℕ → End B D)
    (i most spoken start : ℕ) (x : Exchange) (n : ℕ)
    → IsGroup c count s payloads ms g₀ k₀ ends₀
    → (k₀.members i).runs ≡ true → (ends₀ i).router.floor ≤ spoken
    → IsServedIn c payloads i most start g₀ k₀ ends₀
    (record (exchanged (c i).settings (ends₀ i).history) { spoken = spoken }) g k ends x n
    → n ≤ served_until (ends₀ i).router start
recovers_running {B = B} {D = D} c count s payloads ms g₀ g k₀ k ends₀ ends i most spoken start x n
    group runs floor run =
    through n (max y.member.at (wakes_at (ends i).router)) (served_until (ends₀ i).router start)
    y.member.soon
    (acts_then (c i) (ends₀ i).history (ends₀ i).router (ends₀ i).host most spoken start
    (ends i).router x y.member.at (j.ends_run i runs).history floor y.member.run)
  where
    j : Joined c count s payloads ms g₀ k₀ ends₀
    j = joined c count s payloads ms g₀ k₀ ends₀ group

    x₀ : Exchange
    x₀ = record (exchanged (c i).settings (ends₀ i).history) { spoken = spoken }

    y : Going count s i most (ends₀ i).router
        (record (exchanged (c i).settings (ends₀ i).history) { spoken = spoken }) start g k ends x n
    y = going c count s payloads i most start g₀ k₀ ends₀
        (record (exchanged (c i).settings (ends₀ i).history) { spoken = spoken }) g k ends x n
        (agrees count s ms g₀ k₀ j.run)
        (runs_low count s g₀ k₀ i (agrees count s ms g₀ k₀ j.run) runs) run

-- ---- a member that is started later

-- where it is: not started yet, or served by its cache since then
data Comes {B D : Type 0} (c : ℕ → histories.Caller B D) (count : ℕ) (s : Settings)
    (i most start : ℕ) (g : Group) (k : Listener D) (ends : ℕ → End B D) (x : Exchange) (n : ℕ) :
    Type 0 where
  not_started :
      (last : ℕ) → g.runs ≤ i → Place i 0 start s.patience g k last
      → n ≤ max last (group_wakes g) → Comes c count s i most start g k ends x n
  started :
      (r₀ : Router) (b : ℕ) → i < g.runs → IsNew (c i).settings r₀ → r₀.floor ≡ 0
      → b ≤ start + i * s.patience → Beside most r₀ none_yet b (ends i).router x n
      → Comes c count s i most start g k ends x n

module _ {B D : Type 0} (c : ℕ → histories.Caller B D) (count : ℕ) (s : Settings)
    (payloads : D → ℕ) (i most start : ℕ) (w : i < count) where
  -- a step that the group is told of, and with it perhaps the start of the member
  comes_at :
      (h : Happened D) (g : Group) (k : Listener D) (ends : ℕ → End B D) (fresh : End B D)
      (x : Exchange) (last n n' : ℕ)
      → Agrees count s g k → NoneUpTo i k → g.runs ≤ i → Place i 0 start s.patience g k last
      → n ≤ max last (group_wakes g) → n' ≤ max n (group_wakes g)
      → NoneUpTo i (caller_then k n' h (answer_then g n' h))
      → ((j : ℕ) → if_less g.runs (group_then g n' h).runs ≡ Some j → IsStarted (c j) fresh)
      → Comes c count s i most start (group_then g n' h) (caller_then k n' h (answer_then g n' h))
      (with_fresh ends (if_less g.runs (group_then g n' h).runs) fresh)
      (after_start i (if_less g.runs (group_then g n' h).runs) x) n'
  comes_at h g k ends fresh x last n n' a none low place soon t none' f =
      go (place_next count s g k last n' h i 0 start a w none place
      (within n n' last (group_wakes g) t soon)
      (λ p. absurd (clash (k.members i).runs p (ap (λ (z : Member D). z.runs) (a.idle i low))))
      none')
    where
      near : Step g k n' h → (group_then g n' h).runs ≤ g.runs + 1
      near (ignored e f far) = subst (λ (z : Group). z.runs ≤ g.runs + 1) (sym e) (le_up g.runs)
        where
          le_up : (r : ℕ) → r ≤ r + 1
          le_up r = omega arith
      near (moved m low other v news keep) = v.near

      go : Place i 0 start s.patience (group_then g n' h)
          (caller_then k n' h (answer_then g n' h)) n'
          → Comes c count s i most start (group_then g n' h)
          (caller_then k n' h (answer_then g n' h))
          (with_fresh ends (if_less g.runs (group_then g n' h).runs) fresh)
          (after_start i (if_less g.runs (group_then g n' h).runs) x) n'
      go (not_yet q t u) =
          not_started n' q (not_yet q t u) (same_time n' (group_wakes (group_then g n' h)))
      go (asked q t u) =
          started fresh.router n' q begun.fresh.router begun.floor
          (no_more n' start (i * s.patience) u)
          (subst (λ (v : Exchange). Beside most fresh.router none_yet n'
          (with_fresh ends (if_less g.runs (group_then g n' h).runs) fresh i).router v n')
          (sym (new_start i g.runs (group_then g n' h).runs x grown same))
          (subst (λ (v : End B D). Beside most fresh.router none_yet n' v.router none_yet n')
          (sym (new_end ends g.runs (group_then g n' h).runs i fresh grown same))
          (record {
            at = n';
            run = beside_from;
            later = self_le n';
            soon = same_time n' (wakes_at fresh.router);
          })))
        where
          more : (i r r' : ℕ) → i < r' → r ≤ i → r < r'
          more i r r' p q = omega arith

          grown : g.runs < (group_then g n' h).runs
          grown = more i g.runs (group_then g n' h).runs q low

          one : (i r r' : ℕ) → i < r' → r ≤ i → r' ≤ r + 1 → i ≡ r
          one i r r' p q s = omega arith

          same : i ≡ g.runs
          same = one i g.runs (group_then g n' h).runs q low (near (step count s g k n' h a))

          begun : IsStarted (c i) fresh
          begun = f i (less g.runs (group_then g n' h).runs grown
              ∙ ap (λ (j : ℕ). Some j) (sym same))

          no_more : (n s y : ℕ) → n ≤ s + y + 0 → n ≤ s + y
          no_more n s y p = omega arith

  comes_next :
      (n n' : ℕ) (g g' : Group) (k k' : Listener D) (ends ends' : ℕ → End B D) (x : Exchange)
      (did : Option Deed) (starts : Option ℕ)
      → Agrees count s g k → NoneUpTo i k → IsSoon i g k ends x n n'
      → GroupStep c payloads n' g k ends did starts g' k' ends'
      → KeepsRules i most (ends i).router.settings k.settings x did
      → NoneUpTo i k' → Comes c count s i most start g k ends x n
      → Comes c count s i most start g' k' ends'
      (after_start i starts (after_deed i (ends i).router.settings n' did x)) n'
  comes_next n n' g g' k k' ends ends' x did starts a none soon is keeps none'
      (started r₀ b low new floor before y) =
      let z : (i < g'.runs) × Beside most r₀ none_yet b (ends' i).router
      (after_start i starts (after_deed i (ends i).router.settings n' did x)) n' =
      member_next c count s payloads i most r₀ none_yet b n n' g g' k k' ends ends' x did starts a
      soon is keeps none' low y in
      started r₀ b z.0 new floor before z.1
  comes_next n n' g g' k k' ends ends' x did starts a none soon
      (not_told m e b y r' runs may is silent) keeps none' (not_started last low place t) =
      not_started last low place (within n n' last (group_wakes g) soon.group t)
  comes_next n n' g g' k k' ends ends' x did starts a none soon
      (is_told m e b y r' told d fresh runs may is tell came f) keeps none'
      (not_started last low place t) =
      comes_at (to_member m told d) g k (with_end ends m (end_after (c m) (ends m) n' e b y r'))
      fresh _ last n n' a none low place t soon.group none' f
  comes_next n n' g g' k k' ends ends' x did starts a none soon (time_passes fresh f) keeps none'
      (not_started last low place t) =
      comes_at time_passed g k ends fresh x last n n' a none low place t soon.group none' f

record Coming {B D : Type 0} (c : ℕ → histories.Caller B D) (count : ℕ) (s : Settings)
    (i most start : ℕ) (g : Group) (k : Listener D) (ends : ℕ → End B D) (x : Exchange) (n : ℕ) :
    Type 0 where
  agree : Agrees count s g k
  none : NoneUpTo i k
  comes : Comes c count s i most start g k ends x n

coming :
    {B D : Type 0} (c : ℕ → histories.Caller B D) (count : ℕ) (s : Settings) (payloads : D → ℕ)
    (i most start : ℕ) (g₀ : Group) (k₀ : Listener D) (ends₀ : ℕ → End B D) (x₀ : Exchange)
    (g : Group) (k : Listener D) (ends : ℕ → End B D) (x : Exchange) (n : ℕ)
    → Agrees count s g₀ k₀ → i < count → g₀.runs ≤ i → ((j : ℕ) → (k₀.members j).began ≤ start)
    → IsServedIn c payloads i most start g₀ k₀ ends₀ x₀ g k ends x n
    → Coming c count s i most start g k ends x n
coming c count s payloads i most start g₀ k₀ ends₀ x₀ g k ends x n a w low b (served_from none) =
    record {
      agree = a;
      none = none;
      comes =
          not_started start low (place_first count s i 0 start g₀ k₀ a w none b)
          (same_time start (group_wakes g₀));
    }
coming c count s payloads i most start g₀ k₀ ends₀ x₀ g k ends x n a w low b
    (served_on n₁ n₂ did starts g₁ g₂ k₁ k₂ ends₁ ends₂ x₁ run soon is keeps none) =
    let y : Coming c count s i most start g₁ k₁ ends₁ x₁ n₁ =
    coming c count s payloads i most start g₀ k₀ ends₀ x₀ g₁ k₁ ends₁ x₁ n₁ a w low b run in
    record {
      agree = agrees_on c count s payloads n₂ g₁ g₂ k₁ k₂ ends₁ ends₂ did starts y.agree is;
      none = none;
      comes =
          comes_next c count s payloads i most start w n₁ n₂ g₁ g₂ k₁ k₂ ends₁ ends₂ x₁ did starts
          y.agree y.none soon is keeps none y.comes;
    }

-- ---- the time

-- a new router, and a cache that serves it from its start on
new_time : (s : routers.Settings) (r : Router) (b : ℕ) → IsNew s r
    → served_until r b ≡ b + first_time s
new_time s r b new =
    ap₂ (λ (x y : ℕ). x + y)
    (ap (λ (p : Phase). max b (due_in p r)) new.phase
    ∙ ap (λ (d : ℕ). max b d) new.due ∙ least b)
    (ap (λ (p : Phase). time_needed p r) new.phase
    ∙ ap₂ (λ (x y : ℕ). x * y) count
    (ap (λ (z : routers.Settings). connection_time z) new.settings))
  where
    least : (b : ℕ) → max b 0 ≡ b
    least b = omega arith

    none : restarts r ≡ 0
    none = ap (λ (d : Bool). if d then (if r.resync then 1 else 2) else 0) new.has_data

    opens : opening_version r ≡ s.highest
    opens =
        ap (λ (f : Bool). if f then r.version else r.settings.highest) new.fell
        ∙ ap (λ (z : routers.Settings). z.highest) new.settings

    no_more : (h y : ℕ) → h + 1 + 0 * (y + 1) ≡ h + 1
    no_more h y = omega arith

    count : connections r ≡ s.highest + 1
    count =
        ap₂ (λ (o y : ℕ). o + 1 + y * (r.settings.highest + 1)) opens none
        ∙ no_more s.highest r.settings.highest

pub recovers_later :
    {B D : Type 0} (c : ℕ → histories.Caller B D) (count : ℕ) (s : Settings) (payloads : D → ℕ)
    (ms : List (GroupMoment D)) (g₀ g : Group) (k₀ k : Listener D) (ends₀ ends : ℕ → End B D)
    (i most start : ℕ) (x₀ x : Exchange) (n : ℕ)
    → IsGroup c count s payloads ms g₀ k₀ ends₀ → i < count
    → (k₀.members i).runs ≡ false → ((j : ℕ) → (k₀.members j).began ≤ start)
    → IsServedIn c payloads i most start g₀ k₀ ends₀ x₀ g k ends x n
    → n ≤ served_by k₀ (c i).settings i start
recovers_later {B = B} {D = D} c count s payloads ms g₀ g k₀ k ends₀ ends i most start x₀ x n group
    w runs began run =
    subst (λ (z : Settings). n ≤ start + i * z.patience + first_time (c i).settings) (sym a.caller)
    (go y.comes)
  where
    a : Agrees count s g₀ k₀
    a = agrees count s ms g₀ k₀ (joined c count s payloads ms g₀ k₀ ends₀ group).run

    low : (i < g₀.runs) ⊎ (g₀.runs ≤ i) → g₀.runs ≤ i
    low (inl p) = absurd (clash (k₀.members i).runs (a.runs i p) runs)
    low (inr p) = p

    y : Coming c count s i most start g k ends x n
    y = coming c count s payloads i most start g₀ k₀ ends₀ x₀ g k ends x n a w
        (low (cases_lt i g₀.runs)) began run

    no_such : (i r : ℕ) → r ≤ i → i < r → ⊥
    no_such i r p q = omega arith

    by_then : (n l d w s u v f : ℕ) → n ≤ max l w → w ≡ d → l ≤ s + u → d ≤ s + u → u ≤ v
        → n ≤ s + v + f
    by_then n l d w s u v f p e q r t = grind arith

    later : (n b s v f t : ℕ) → n ≤ t → t ≡ b + f → b ≤ s + v → n ≤ s + v + f
    later n b s v f t p e q = omega arith

    go : Comes c count s i most start g k ends x n
        → n ≤ start + i * s.patience + first_time (c i).settings
    go (not_started last p (not_yet q t u) soon) =
        by_then n last g.due (group_wakes g) start (g.runs * s.patience) (i * s.patience)
        (first_time (c i).settings) soon (wakes_then count s g k i y.agree w y.none p) t u
        (more g.runs i s.patience p)
    go (not_started last p (asked q t u) soon) = absurd (no_such i g.runs p q)
    go (started r₀ b p new floor before z) =
        later n b start (i * s.patience) (first_time (c i).settings) (served_until r₀ b)
        (through n (max z.at (wakes_at (ends i).router)) (served_until r₀ b) z.soon
        (acts_then (c i) [] r₀ empty_host most 0 b (ends i).router x z.at (router_begins r₀ new)
        (zero r₀.floor floor) z.run))
        (new_time (c i).settings r₀ b new) before
      where
        zero : (f : ℕ) → f ≡ 0 → f ≤ 0
        zero f e = omega arith
