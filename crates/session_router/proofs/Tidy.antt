-- Nothing is sent after the end of a connection.
use Rattle.std.proofs.Common.{◌≡◌, ◌≢◌, ◌⊎◌, ℕ, Bool, true, false, List, refl, sym, ◌∙◌}
use Rattle.std.proofs.Common.{subst}
use Rattle.std.proofs.Common.{inl, inr}
use Rattle.session_router.specs.declared.router.Router.{Router}
use Rattle.session_router.specs.declared.router.Phase.{Phase}
use Rattle.session_router.specs.declared.router.Phase.TheVariants as phases
use Rattle.session_router.specs.declared.event.Event.{Event}
use Rattle.session_router.specs.declared.event.Event.TheVariants as events
use Rattle.session_router.specs.declared.event.Action.{Action}
use Rattle.session_router.specs.declared.event.Action.TheVariants as actions
use Rattle.session_router.specs.Rules.{MayAsk, Rule}
use Rattle.session_router.specs.Histories.{Caller, Host, Moment}
use Rattle.session_router.specs.Safety.{IsAllowed}
use Rattle.session_router.specs.Safety.IsAllowed.{allowed_begins, allowed_on}
use Rattle.session_router.specs.Asking.{IsTidy, TidyHere, connection_after, has_connection}

abbrev OpenAt : Phase → Bool → Type 0
OpenAt phases.Offline o = o ≡ false
OpenAt phases.Connecting o = o ≡ true
OpenAt phases.Asked o = o ≡ true
OpenAt phases.Reading o = o ≡ true
OpenAt phases.Applying o = o ≡ true
OpenAt phases.Waiting o = o ≡ true

open_there : (p : Phase) (o : Bool) → p ≢ phases.Offline → OpenAt p o → o ≡ true
open_there phases.Offline o h y = absurd (h refl)
open_there phases.Connecting o h y = y
open_there phases.Asked o h y = y
open_there phases.Reading o h y = y
open_there phases.Applying o h y = y
open_there phases.Waiting o h y = y

may_ask : (r r' : Router) (n : ℕ) (e : Event) → MayAsk r n e r' → r.phase ≢ phases.Offline
may_ask r r' n (events.Came u) w p = let f = w.0 in cc
may_ask r r' n events.Connected w p = let f = w.0 in cc
may_ask r r' n events.Tick w p = let f = w.0 in cc
may_ask r r' n events.Lost w p = absurd w
may_ask r r' n events.Asked w p = absurd w
may_ask r r' n (events.Faulty f) w p = absurd w
may_ask r r' n events.Applied w p = absurd w
may_ask r r' n (events.NotApplied code) w p = absurd w

record Tidied (e : Event) (a : Action) (o : Bool) (r' : Router) : Type 0 where
  here : TidyHere e a o
  after : OpenAt r'.phase (connection_after a o)

at_open : (p p' : Phase) (o : Bool) → p' ≡ p → OpenAt p o → OpenAt p' o
at_open p p' o e y = subst (λ (p : Phase). OpenAt p o) (sym e) y

step :
    (e : Event) (a : Action) (o : Bool) (r r' : Router) (n : ℕ) → Rule r n e a r'
    → OpenAt r.phase o → Tidied e a o r'
step e actions.Wait o r r' n w y = record {
  here = tt;
  after = at_open r.phase r'.phase o w.talk.phase y;
}
step e actions.Drop o r r' n w y = record {
  here = tt;
  after = at_open r.phase r'.phase o (w.phase ∙ sym w.from) y;
}
step e (actions.End x) o r r' n w y = record {
  here = (open_there r.phase o w.from y, w.reports);
  after = at_open phases.Offline r'.phase false w.phase refl;
}
step e (actions.Ask q) o r r' n w y =
    let t : o ≡ true = open_there r.phase o (may_ask r r' n e w.may) y in
    record { here = t; after = at_open phases.Asked r'.phase o w.phase t }
step events.Tick actions.Connect o r r' n w y = record {
  here = at_open r.phase phases.Offline o (sym w.from) y;
  after = at_open phases.Connecting r'.phase true w.phase refl;
}
step (events.Came u) actions.Begin o r r' n w y = record {
  here = tt;
  after = at_open phases.Reading r'.phase o w.phase (at_open r.phase phases.Asked o (sym w.from) y);
}
step (events.Came u) actions.Keep o r r' n w y = record {
  here = tt;
  after = at_open r.phase r'.phase o w.talk.phase y;
}
step (events.Came u) (actions.Apply c) o r r' n w y = record {
  here = tt;
  after = at_open phases.Applying r'.phase o w.phase
      (at_open r.phase phases.Reading o (sym w.from) y);
}
step (events.Came u) actions.NoData o r r' n w y = record {
  here = tt;
  after = at_open phases.Waiting r'.phase o w.phase (go w.from);
}
  where
    go : (r.phase ≡ phases.Asked) ⊎ (r.phase ≡ phases.Reading) → o ≡ true
    go (inl p) = at_open r.phase phases.Asked o (sym p) y
    go (inr p) = at_open r.phase phases.Reading o (sym p) y
step events.Applied actions.Show o r r' n w y = record {
  here = tt;
  after = at_open phases.Waiting r'.phase o w.phase
      (at_open r.phase phases.Applying o (sym w.from) y);
}
step _ _ o r r' n w y = absurd w

record Tidies {B : Type 0} (ms : List (Moment B)) (r : Router) : Type 0 where
  all : IsTidy ms
  last : OpenAt r.phase (has_connection ms)

tidies : {B D : Type 0} (c : Caller B D) (ms : List (Moment B)) (r : Router) (h : Host B D)
    → IsAllowed c ms r h → Tidies ms r
tidies c ms r h (allowed_begins r₀ new) = record {
  all = tt;
  last = at_open phases.Offline r₀.phase false new.phase refl;
}
tidies c ms r h (allowed_on n b e a r' ms₀ r₀ h₀ run said went) =
    let y : Tidies ms₀ r₀ = tidies c ms₀ r₀ h₀ run in
    let s : Tidied e a (has_connection ms₀) r' = step e a (has_connection ms₀) r₀ r' n went.rule
    y.last in
    record { all = (s.here, y.all); last = s.after }

pub tidy : {B D : Type 0} (c : Caller B D) (ms : List (Moment B)) (r : Router) (h : Host B D)
    → IsAllowed c ms r h → IsTidy ms
tidy c ms r h run = (tidies c ms r h run).all
