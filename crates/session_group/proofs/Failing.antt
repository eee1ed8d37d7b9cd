-- A member that gave way doesn't give way again.
use Rattle.std.proofs.Common.{◌≡◌, ◌≢◌, ℕ, Bool, true, false, ◌+◌, ◌<◌, ◌≤◌, ◌⊎◌, inl, inr, arith}
use Rattle.std.proofs.Common.{Option, Some, None, refl, sym, ◌∙◌, ap, List}
use Rattle.std.specs.Prelude.{set}
use Rattle.std.proofs.lemmas.Bool.{cases_lt, cases_eq, cases_Bool}
use Rattle.std.proofs.lemmas.Bool.Decides.{nat_tests}
use Rattle.session_group.specs.declared.event.Event.TheVariants as events
use Rattle.session_group.specs.declared.event.Shown.TheVariants as shows
use Rattle.session_group.specs.declared.group.Group.{Group}
use Rattle.session_group.specs.declared.settings.Settings.{Settings}
use Rattle.session_group.specs.Groups.{ChangesNothing, answer_between, asks_if_it_may}
use Rattle.session_group.specs.Groups.{best_of, change_shown, group_after, has_failed, has_none}
use Rattle.session_group.specs.Groups.{if_less, is_running, may_ask_next}
use Rattle.session_group.specs.Runs.{GroupMoment, IsGroupRun, Listener}
use Rattle.session_group.proofs.Agreeing.{agrees}
use Rattle.session_group.proofs.Placed.{not_less, other_number, same_number}
use Rattle.session_group.proofs.Stepping.{Agrees}

clash : (b : Bool) → b ≡ true → b ≡ false → ⊥
clash b p q = grind arith

-- ---- an answer between equal groups

same_shown : (o : Option ℕ) → change_shown o o None ≡ shows.Same
same_shown None = refl
same_shown (Some k) = grind (arith, nat_tests)

no_fewer : (r : ℕ) → if_less r r ≡ None
no_fewer r = not_less r r (omega arith)

nothing_between : (g : Group)
    → answer_between g g None ≡ record { shown = shows.Same; stops = None; starts = None }
nothing_between g = rw (same_shown (best_of g)) (rw (no_fewer g.runs) refl)

so : (g : Group) (n m : ℕ) → group_after g n m events.Fails ≡ g
    → ChangesNothing g n m events.Fails
so g n m p = record {
  group = p;
  answer = ap (λ (g' : Group). answer_between g g' None) p ∙ nothing_between g;
}

-- ---- a failure that changes nothing

-- the last member that runs isn't current, and no other one can be started
pub record IsOver (g : Group) : Type 0 where
  pub current : g.current ≡ false
  pub asks : may_ask_next g ≡ false

idle : (g : Group) → g.current ≡ false → (record g { current = false }) ≡ g
idle g p = ap (λ (b : Bool). record g { current = b }) (sym p)

unasked : (g : Group) (n : ℕ) → may_ask_next g ≡ false → asks_if_it_may g n ≡ g
unasked g n p = rw p refl

at_end : (g : Group) (n : ℕ) → IsOver g → asks_if_it_may (record g { current = false }) n ≡ g
at_end g n o =
    ap (λ (x : Group). asks_if_it_may x n) (idle g o.current) ∙ unasked g n o.asks

fails_in_vain : (g : Group) (n m : ℕ) → (m + 1 ≡ g.runs → IsOver g) → has_failed g n m ≡ g
fails_in_vain g n m f = go (cases_eq (m + 1) g.runs)
  where
    go : (m + 1 ≡ g.runs) ⊎ (m + 1 ≢ g.runs) → has_failed g n m ≡ g
    go (inl p) = rw (same_number (m + 1) g.runs p) (at_end g n (f p))
    go (inr p) = rw (other_number (m + 1) g.runs p) refl

in_vain : (g : Group) (n m : ℕ) → (is_running g m ≡ true → m + 1 ≡ g.runs → IsOver g)
    → ChangesNothing g n m events.Fails
in_vain g n m f = so g n m (go (cases_Bool (is_running g m)))
  where
    go : (is_running g m ≡ true) ⊎ (is_running g m ≡ false) → group_after g n m events.Fails ≡ g
    go (inl p) = rw p (fails_in_vain g n m (f p))
    go (inr p) = rw p refl

-- ---- after a member gave way, in any run

no_room : (g : Group) → g.count ≤ g.runs → may_ask_next g ≡ false
no_room g p = grind (arith, nat_tests)

over : {D : Type 0} (wanted : ℕ) (s : Settings) (g : Group) (c : Listener D) (m : ℕ)
    → Agrees wanted s g c → (c.members m).gave_way ≡ true → m + 1 ≡ g.runs → IsOver g
over wanted s g c m a w p = record {
  current = sym (a.current m p) ∙ rw w refl;
  asks = no_room g (full (cases_lt g.runs g.count));
}
  where
    full : (g.runs < g.count) ⊎ (g.count ≤ g.runs) → g.count ≤ g.runs
    full (inl q) = absurd (clash (c.members m).gave_way w (a.last m q p))
    full (inr q) = q

pub fails_again :
    {D : Type 0} (wanted : ℕ) (s : Settings) (ms : List (GroupMoment D)) (g : Group)
    (c : Listener D) (m n : ℕ) → IsGroupRun wanted s ms g c → (c.members m).gave_way ≡ true
    → ChangesNothing g n m events.Fails
fails_again wanted s ms g c m n run w =
    in_vain g n m (λ r p. over wanted s g c m (agrees wanted s ms g c run) w p)

-- ---- right after it lost its data, in any group

-- the group after that, if the member runs
abbrev lost : Group → (n m : ℕ) → Group
lost g n m = has_failed (has_none g m) n m

-- and if it is the last one, before another one is started
abbrev lost_last : Group → (m : ℕ) → Group
lost_last g m = record g { has = set g.has m false; current = false }

over_once_lost : (g : Group) (n m : ℕ) → m + 1 ≡ (lost g n m).runs → IsOver (lost g n m)
over_once_lost g n m = go (cases_eq (m + 1) g.runs)
  where
    by_asking : (may_ask_next (lost_last g m) ≡ true) ⊎ (may_ask_next (lost_last g m) ≡ false)
        → m + 1 ≡ g.runs → m + 1 ≡ (asks_if_it_may (lost_last g m) n).runs
        → IsOver (asks_if_it_may (lost_last g m) n)
    by_asking (inl q) p = rw q (λ r. absurd (beyond m g.runs p r))
      where
        beyond : (a b : ℕ) → a + 1 ≡ b → a + 1 ≡ b + 1 → ⊥
        beyond a b p q = omega arith
    by_asking (inr q) p = rw q (λ r. record { current = refl; asks = q })

    go : (m + 1 ≡ g.runs) ⊎ (m + 1 ≢ g.runs)
        → m + 1 ≡ (lost g n m).runs → IsOver (lost g n m)
    go (inl p) = rw (same_number (m + 1) g.runs p)
        (by_asking (cases_Bool (may_ask_next (lost_last g m))) p)
    go (inr p) = rw (other_number (m + 1) g.runs p) (λ r. absurd (p r))

pub fails_once_lost :
    (g : Group) (n m later : ℕ)
    → ChangesNothing (group_after g n m events.Drops) later m events.Fails
fails_once_lost g n m later = go (cases_Bool (is_running g m))
  where
    go : (is_running g m ≡ true) ⊎ (is_running g m ≡ false)
        → ChangesNothing (group_after g n m events.Drops) later m events.Fails
    go (inl p) = rw p (in_vain (lost g n m) later m (λ r q. over_once_lost g n m q))
    go (inr p) = rw p (in_vain g later m (λ r q. absurd (clash (is_running g m) r p)))
