-- After any history what is under way is as a router needs it that a cache serves by the rules.
use Rattle.std.proofs.Common.{◌≡◌, ◌≤◌, ℕ, max, true, false, List, refl, sym, subst, ◌∙◌}
use Rattle.session_router.specs.declared.event.Action.{Action}
use Rattle.session_router.specs.declared.event.Action.TheVariants as actions
use Rattle.session_router.specs.declared.event.Event.{Event}
use Rattle.session_router.specs.declared.event.Event.TheVariants as events
use Rattle.session_router.specs.declared.router.Phase.{Phase}
use Rattle.session_router.specs.declared.router.Phase.TheVariants as phases
use Rattle.session_router.specs.declared.router.Router.{Router}
use Rattle.session_router.specs.Histories.{Caller, Host, IsHistory, Moment}
use Rattle.session_router.specs.Histories.IsHistory.{run_begins, run_goes_on}
use Rattle.session_router.specs.Pace.{wakes_at}
use Rattle.session_router.specs.Recovery.{served_until}
use Rattle.session_router.proofs.Served.{IsServed}
use Rattle.session_router.specs.Rules.{Rule}
use Rattle.session_router.proofs.Connections.{Holds, UnderWay}
use Rattle.session_router.proofs.Serving.{acts_by, recovers}
use Rattle.session_router.proofs.Versions.{stands_online}
use Rattle.session_router.proofs.WholeAnswers.{has_for_changes}

-- a serial query is no reset query that is owed
abbrev Clear : Router → Type 0
Clear r = r.changes ≡ true → r.resync ≡ false

abbrev ClearIn : Phase → Router → Type 0
ClearIn phases.Asked r = Clear r
ClearIn phases.Reading r = Clear r
ClearIn phases.Applying r = Clear r
ClearIn _ r = Unit {0}

clear_as : (r r' : Router) → r'.changes ≡ r.changes → r'.resync ≡ r.resync → Clear r → Clear r'
clear_as r r' c y x e = y ∙ x (sym c ∙ e)

clear_in :
    (p : Phase) (r r' : Router) → r'.changes ≡ r.changes → r'.resync ≡ r.resync → ClearIn p r
    → ClearIn p r'
clear_in phases.Asked r r' c y x = clear_as r r' c y x
clear_in phases.Reading r r' c y x = clear_as r r' c y x
clear_in phases.Applying r r' c y x = clear_as r r' c y x
clear_in phases.Offline r r' c y x = tt
clear_in phases.Connecting r r' c y x = tt
clear_in phases.Waiting r r' c y x = tt

at : (p : Phase) (r : Router) → r.phase ≡ p → ClearIn p r → ClearIn r.phase r
at p r e x = subst (λ (p : Phase). ClearIn p r) (sym e) x

from : (p : Phase) (r : Router) → r.phase ≡ p → ClearIn r.phase r → ClearIn p r
from p r e x = subst (λ (p : Phase). ClearIn p r) e x

step :
    (n : ℕ) (e : Event) (a : Action) (r r' : Router) → Rule r n e a r' → ClearIn r.phase r
    → ClearIn r'.phase r'
step n e actions.Wait r r' w x =
    at r.phase r' w.talk.phase (clear_in r.phase r r' w.talk.changes w.talk.resync x)
step n e actions.Drop r r' w x = at phases.Offline r' w.phase tt
step n e (actions.End z) r r' w x = at phases.Offline r' w.phase tt
step n e (actions.Ask q) r r' w x = at phases.Asked r' w.phase (λ c. (w.own c).resync)
step n events.Tick actions.Connect r r' w x = at phases.Connecting r' w.phase tt
step n (events.Came u) actions.Begin r r' w x =
    at phases.Reading r' w.phase
    (clear_as r r' w.changes w.resync (from phases.Asked r w.from x))
step n (events.Came u) actions.Keep r r' w x =
    at r.phase r' w.talk.phase (clear_in r.phase r r' w.talk.changes w.talk.resync x)
step n (events.Came u) (actions.Apply on) r r' w x =
    at phases.Applying r' w.phase
    (clear_as r r' w.same_changes w.resync (from phases.Reading r w.from x))
step n (events.Came u) actions.NoData r r' w x = at phases.Waiting r' w.phase tt
step n events.Applied actions.Show r r' w x = at phases.Waiting r' w.phase tt
step n _ _ r r' w x = absurd w

clear : {B D : Type 0} (c : Caller B D) (ms : List (Moment B)) (r : Router) (h : Host B D)
    → IsHistory c ms r h → ClearIn r.phase r
clear c ms r h (run_begins r₀ new) = at phases.Offline r new.phase tt
clear c ms r h (run_goes_on n b e a r' ms₀ r₀ h₀ run said went) =
    step n e a r₀ r went.rule (clear c ms₀ r₀ h₀ run)

holds : {B D : Type 0} (c : Caller B D) (ms : List (Moment B)) (r : Router) (h : Host B D)
    → IsHistory c ms r h → Holds r.phase r
holds c ms r h run = go r.phase refl
  where
    busy :
        (p : Phase) → r.phase ≡ p → r.fell ≡ false → (r.changes ≡ true → r.has_data ≡ true)
        → (r.changes ≡ true → r.resync ≡ false) → UnderWay r
    busy p e f d y = record { fell = f; has_data = d; resync = y }

    go : (p : Phase) → r.phase ≡ p → Holds r.phase r
    go phases.Offline e = subst (λ (p : Phase). Holds p r) (sym e) tt
    go phases.Connecting e = subst (λ (p : Phase). Holds p r) (sym e)
        (stands_online phases.Connecting c ms r h run e)
    go phases.Waiting e = subst (λ (p : Phase). Holds p r) (sym e)
        (stands_online phases.Waiting c ms r h run e)
    go phases.Asked e = subst (λ (p : Phase). Holds p r) (sym e)
        (busy phases.Asked e (stands_online phases.Asked c ms r h run e)
        (has_for_changes phases.Asked c ms r h run e)
        (from phases.Asked r e (clear c ms r h run)))
    go phases.Reading e = subst (λ (p : Phase). Holds p r) (sym e)
        (busy phases.Reading e (stands_online phases.Reading c ms r h run e)
        (has_for_changes phases.Reading c ms r h run e)
        (from phases.Reading r e (clear c ms r h run)))
    go phases.Applying e = subst (λ (p : Phase). Holds p r) (sym e)
        (busy phases.Applying e (stands_online phases.Applying c ms r h run e)
        (has_for_changes phases.Applying c ms r h run e)
        (from phases.Applying r e (clear c ms r h run)))

pub recovers_after : {B D : Type 0} (c : Caller B D) (ms : List (Moment B)) (r₀ : Router)
    (h : Host B D) (most start : ℕ) (r : Router) (n : ℕ) → IsHistory c ms r₀ h
    → IsServed most r₀ start r n → n ≤ served_until r₀ start
recovers_after c ms r₀ h most start r n was run =
    recovers most r₀ start r n (holds c ms r₀ h was) run

pub acts_after : {B D : Type 0} (c : Caller B D) (ms : List (Moment B)) (r₀ : Router)
    (h : Host B D) (most start : ℕ) (r : Router) (n : ℕ) → IsHistory c ms r₀ h
    → IsServed most r₀ start r n → max n (wakes_at r) ≤ served_until r₀ start
acts_after c ms r₀ h most start r n was run =
    acts_by most r₀ start r n (holds c ms r₀ h was) run
