-- For each law a run that the prover computes, so that its premises are seen to be met.
use Rattle.std.proofs.Common.{◌≡◌, ◌≢◌, ℕ, true, false, ◌≤◌, ◌⊎◌, inl, inr, arith}
use Rattle.std.proofs.Common.{None, Some, refl, List, [], ◌∷◌, ap, ◌∙◌, subst, sym}
use Rattle.std.proofs.lemmas.Bool.{cases_eq}
use Rattle.std.specs.Prelude.{length, replicate}
use Rattle.session_group.specs.declared.event.Event.TheVariants as events
use Rattle.session_group.specs.declared.event.Shown.TheVariants as shows
use Rattle.session_group.specs.declared.group.Group.{Group}
use Rattle.session_group.specs.declared.settings.Settings.{Settings}
use Rattle.session_group.specs.Groups.{best_of, group_wakes, last, tick_answer}
use Rattle.session_router.specs.declared.settings.Settings as routers
use Rattle.session_router.specs.After.{new_router}
use Rattle.session_router.specs.Histories as histories
use Rattle.session_router.specs.Histories.{empty_host}
use Rattle.session_group.specs.Ends.{End, IsFresh, IsGroup, with_fresh}
use Rattle.session_group.specs.Ends.IsGroup.{group_begins, waits}
use Rattle.session_group.specs.Recovery.{IsWaitedFor, NoneUpTo, shown_until}
use Rattle.session_group.specs.Recovery.IsWaitedFor.{waited_from, waited_on}
use Rattle.session_group.specs.Runs.{GroupMoment, Happened, IsGroupRun, IsNewGroup, Listener}
use Rattle.session_group.specs.Runs.{answer_then, best_in, caller_then, first_caller, group_then}
use Rattle.session_group.specs.Runs.{is_current}
use Rattle.session_group.specs.Runs.Happened.{time_passed, to_member}
use Rattle.session_group.specs.Runs.IsGroupRun.{group_run_begins, group_run_goes_on}
use Rattle.session_group.proofs.Placed.{other_number}
use Rattle.session_group.proofs.Recovering.{recovers}

-- the usual settings, and a group of two members at time 0
abbrev pub usual : Settings
usual = record { patience = 5000; empty_is_data = false }

abbrev pub group₀ : Group
group₀ = record {
  settings = usual;
  count = 2;
  runs = 1;
  has = replicate 16 false;
  current = false;
  due = 5000;
}

pub is_new : IsNewGroup 2 usual 0 group₀
is_new = record {
  settings = refl;
  most = omega arith;
  count = refl;
  runs = refl;
  has = refl;
  current = refl;
  due = refl;
}

abbrev pub caller₀ : Listener ℕ
caller₀ = first_caller 2 usual 0

-- ---- runs, as steps of one after another

-- a group with its caller and its history
pub record State : Type 0 where
  pub history : List (GroupMoment ℕ)
  pub group : Group
  pub caller : Listener ℕ

abbrev pub begins : State
begins = record { history = []; group = group₀; caller = caller₀ }

abbrev pub goes_on : State → (now : ℕ) → Happened ℕ → State
goes_on x n h = record {
  history = record { now = n; happened = h; answer = answer_then x.group n h } ∷ x.history;
  group = group_then x.group n h;
  caller = caller_then x.caller n h (answer_then x.group n h);
}

abbrev IsRun : State → Type 0
IsRun x = IsGroupRun 2 usual x.history x.group x.caller

run_begins : IsRun begins
run_begins = group_run_begins 0 group₀ is_new

run_goes_on : (x : State) (n : ℕ) (h : Happened ℕ) → IsRun x → IsRun (goes_on x n h)
run_goes_on x n h r = group_run_goes_on n h x.history x.group x.caller r

-- ---- old data give way to those of the next member, and these to the preferred one's

-- member 0 has three payloads, named 70, and fails; so member 1 is asked, and has four, named 71
abbrev one_answers : State
one_answers = goes_on begins 100 (to_member 0 (events.Shows 3) 70)

abbrev one_fails : State
one_fails = goes_on one_answers 200 (to_member 0 events.Fails 0)

abbrev other_answers : State
other_answers = goes_on one_fails 300 (to_member 1 (events.Shows 4) 71)

-- then both fail, and member 0 is back, with the data that it had
abbrev both_fail : State
both_fail = goes_on other_answers 400 (to_member 1 events.Fails 0)

abbrev one_is_back : State
one_is_back = goes_on both_fail 500 (to_member 0 (events.Shows 3) 70)

runs_so : IsRun one_is_back
runs_so =
    run_goes_on both_fail 500 (to_member 0 (events.Shows 3) 70)
    (run_goes_on other_answers 400 (to_member 1 events.Fails 0)
    (run_goes_on one_fails 300 (to_member 1 (events.Shows 4) 71)
    (run_goes_on one_answers 200 (to_member 0 events.Fails 0)
    (run_goes_on begins 100 (to_member 0 (events.Shows 3) 70) run_begins))))

-- `best_data_shown`: what is shown after each step
shown_first : one_answers.caller.shown ≡ Some 70
unfolding last
shown_first = refl

shown_while_none_is_current : one_fails.caller.shown ≡ Some 70
unfolding last
shown_while_none_is_current = refl

shown_of_next : other_answers.caller.shown ≡ Some 71
unfolding last
shown_of_next = refl

newest_stay : both_fail.caller.shown ≡ Some 71
unfolding last
newest_stay = refl

shown_at_return : one_is_back.caller.shown ≡ Some 70
unfolding last
shown_at_return = refl

best_is_first : best_of one_is_back.group ≡ Some 0
unfolding last
best_is_first = refl

-- `changes_with_it` and `never_older`: the data of 0 give way to those of 1, which is current
gives_way : (best_in one_fails.caller ≡ Some 0) × ((best_in other_answers.caller ≡ Some 1)
    × (is_current (other_answers.caller.members 1) ≡ true))
unfolding last
gives_way = (refl, (refl, refl))

changes_so : (answer_then {Data = ℕ} one_fails.group 300 (to_member 1 (events.Shows 4) 71)).shown
    ≡ shows.Data 1
unfolding last
changes_so = refl

stays_so : (answer_then {Data = ℕ} other_answers.group 400 (to_member 1 events.Fails 0)).shown
    ≡ shows.Same
unfolding last
stays_so = refl

-- `asked_in_order`: member 1 runs after the failure of member 0, and no more after its return
asked_so : ((one_answers.caller.members 1).runs ≡ false)
    × (((one_fails.caller.members 1).runs ≡ true)
    × ((one_is_back.caller.members 1).runs ≡ false))
unfolding last
asked_so = (refl, (refl, refl))

-- `failure_counts_once`: member 0 loses its data, so member 1 is asked; the failure at which they
-- were lost changes nothing, though member 1 answers before it is reported
abbrev one_drops : State
one_drops = goes_on one_answers 200 (to_member 0 events.Drops 0)

abbrev next_answers : State
next_answers = goes_on one_drops 300 (to_member 1 (events.Shows 4) 71)

abbrev loss_fails : State
loss_fails = goes_on next_answers 400 (to_member 0 events.Fails 0)

lost_so : ((one_drops.caller.members 1).began ≡ 200)
    × (((next_answers.caller.members 0).gave_way ≡ true)
    × ((loss_fails.group ≡ next_answers.group) × (loss_fails.caller.shown ≡ Some 71)))
unfolding last
lost_so = (refl, (refl, (refl, refl)))

-- an empty answer is no data: the next member is asked
abbrev empty_answer : State
empty_answer = goes_on begins 100 (to_member 0 (events.Shows 0) 70)

empty_is_none : (empty_answer.caller.shown ≡ None)
    × ((empty_answer.caller.members 1).runs ≡ true)
unfolding last
empty_is_none = (refl, refl)

-- ---- a silent member

-- member 0 says nothing, and member 1 is asked after the patience
abbrev pub patience_is_over : State
patience_is_over = goes_on begins 5000 time_passed

silent_so : (group_wakes group₀ ≡ 5000) × (((patience_is_over.caller.members 1).runs ≡ true)
    × ((patience_is_over.caller.members 1).began ≡ 5000))
unfolding last
silent_so = (refl, (refl, refl))

-- `group_recovers`: if member 1 has a whole answer within two seconds of its start, its data are
-- shown by seven seconds
abbrev two_silent : State
two_silent = goes_on patience_is_over 7000 time_passed

pub idle : (x : Listener ℕ) → is_current (x.members 0) ≡ false → is_current (x.members 1) ≡ false
    → NoneUpTo 1 x
idle x p q j r = go (cases_eq j 0) (cases_eq j 1)
  where
    none : (j : ℕ) → j ≤ 1 → j ≢ 0 → j ≢ 1 → ⊥
    none j p q r = grind arith

    go : (j ≡ 0) ⊎ (j ≢ 0) → (j ≡ 1) ⊎ (j ≢ 1) → is_current (x.members j) ≡ false
    go (inl e) t = ap (λ (i : ℕ). is_current (x.members i)) e ∙ p
    go (inr e) (inl t) = ap (λ (i : ℕ). is_current (x.members i)) t ∙ q
    go (inr e) (inr t) = absurd (none j r e t)

clash : false ≡ true → ⊥
clash p = grind arith

waited_so : IsWaitedFor 1 2000 0 group₀ caller₀ two_silent.group two_silent.caller 7000
waited_so =
    waited_on 5000 7000 time_passed patience_is_over.group patience_is_over.caller
    (waited_on 0 5000 time_passed group₀ caller₀ (waited_from (idle caller₀ refl refl))
    (omega arith) (omega arith) (λ p. absurd (clash p))
    (idle patience_is_over.caller refl refl))
    (omega arith) (omega arith) (λ p. omega arith)
    (idle two_silent.caller refl refl)

seven_seconds : shown_until caller₀ 1 2000 0 ≡ 7000
seven_seconds = refl

in_time : 7000 ≤ shown_until caller₀ 1 2000 0
in_time =
    recovers 2 usual [] group₀ caller₀ 1 2000 0 two_silent.group two_silent.caller 7000 run_begins
    (omega arith) (λ j. began_at j (cases_eq j 0)) waited_so
  where
    began_at : (j : ℕ) → (j ≡ 0) ⊎ (j ≢ 0) → (caller₀.members j).began ≤ 0
    began_at j (inl e) = subst (λ (i : ℕ). (caller₀.members i).began ≤ 0) (sym e) (omega arith)
    began_at j (inr e) = rw (other_number j 0 e) (omega arith)

-- ---- routers' ends

-- the usual settings of a router, and a caller that makes of an answer how many units it has
abbrev pub router_settings : routers.Settings
router_settings = record {
  highest = 2;
  pause = 1000;
  connect_limit = 30000;
  response_limit = 120000;
  refresh = 0;
  retry = 0;
  expire = 0;
  most_units = 4000000;
  most_bytes = 134217728;
  chance = 0;
}

abbrev pub counting : histories.Caller ℕ ℕ
counting = record { settings = router_settings; make = λ old bodies end. Some (length bodies) }

abbrev pub new_end : End ℕ ℕ
new_end = record { history = []; router = new_router router_settings; host = empty_host }

-- a member that is started again, with the router that it had: its wait for the cache stays
abbrev end_again : (wait : ℕ) → End ℕ ℕ
end_again wait = record new_end { router = record (new_router router_settings) { wait = wait } }

again_is_fresh : (wait : ℕ) → IsFresh counting (end_again wait)
again_is_fresh wait = record {
  history = refl;
  router = record {
    settings = refl;
    phase = refl;
    has_data = refl;
    due = refl;
    asked = refl;
    rises = refl;
    fell = refl;
  };
  host = refl;
}

pub new_is_fresh : IsFresh counting new_end
new_is_fresh = record {
  history = refl;
  router = record {
    settings = refl;
    phase = refl;
    has_data = refl;
    due = refl;
    asked = refl;
    fell = refl;
    rises = refl;
  };
  host = refl;
}

-- `whole_answers_of_one`: two ends, the second of which begins after the patience; neither shows
-- data
two_ends : IsGroup (λ i. counting) 2 usual (λ d. d) patience_is_over.history patience_is_over.group
    patience_is_over.caller
    (with_fresh (λ i. new_end) (tick_answer group₀ 5000).starts new_end)
two_ends =
    waits 5000 new_end [] group₀ caller₀ (λ i. new_end)
    (group_begins 0 group₀ (λ i. new_end) is_new (λ i. new_is_fresh)) (λ i p. new_is_fresh)

none_shown : patience_is_over.caller.shown ≡ None
unfolding last
none_shown = refl
