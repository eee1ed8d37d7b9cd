-- A client's machine beside a cache that serves it.
use native.Mathlib.Omega.{arith}
use Rattle.std.proofs.Common.{◌≡◌, ℕ, ◌≤◌, max, List, [], ◌∷◌, ◌++◌, take, drop, refl, sym, ap, ◌∙◌}
use Rattle.std.proofs.Common.{subst, Option}
use Rattle.std.proofs.lemmas.List.{take-append-drop, take-take}
use Rattle.session_router.specs.Exchange.{Exchange}
use Rattle.session_router.specs.Histories.{Moment, at}
use Rattle.session_router.specs.Pace.{wakes_at}
use Rattle.session_router.specs.Recovery.{IsBeside, Unshown}
use Rattle.session_router.specs.Recovery.IsBeside.{beside_from, beside_on}
use Rattle.session_router.specs.declared.event.Action.{Action}
use Rattle.session_router.specs.declared.event.Action.TheVariants as actions
use Rattle.session_router.specs.declared.event.Event.TheVariants as events
use Rattle.session_router.specs.declared.router.Router.{Router}
use Rattle.session_bytes.specs.Reading.{KeepsAll, fault_of, kept_more, kept_none}
use Rattle.session_bytes.specs.declared.telling.Told.TheVariants as told
use Rattle.session_client.specs.Holding.{untold}
use Rattle.session_client.specs.Makings.{Octets}
use Rattle.session_client.specs.Tells.{IsTold, Word, of_bytes, of_itself, of_nothing}
use Rattle.session_client.specs.declared.client.Client.{Client}
use Rattle.session_client_laws.specs.Served.{AreToldUnits, IsServedFrom, StepsAt, TakesSteps}
use Rattle.session_client_laws.specs.Served.{WellServed, told_bytes_of}
use Rattle.session_client_laws.specs.Served.IsServedFrom.{says_between, serves_from, serves_on}
use Rattle.session_client_laws.specs.Served.StepsAt.{no_step, one_step_more}
use Rattle.session_client_laws.specs.Served.WellServed.{served_more, served_none}

-- ---- the steps of a call

record Kept (n : ℕ) (r : Router) (b : Octets) (r' : Router) : Type 0 where
  pub moments : List (Moment Octets)
  pub are : AreToldUnits moments
  pub bytes : told_bytes_of moments ≡ b
  pub steps : StepsAt n r moments r'

kept_steps : (n : ℕ) (r : Router) (b : Octets) (r' : Router) → KeepsAll n r b r' → Kept n r b r'
kept_steps n r b r' (kept_none r₀) =
    record { moments = []; are = tt; bytes = refl; steps = no_step r₀ }
kept_steps n r b r' (kept_more r₀ b₀ u mid h r₁ before unit step) =
    let x = kept_steps n r b₀ mid before in
    record {
      moments = at n (events.Came h) u actions.Keep ∷ x.moments;
      are = ((h, refl, unit), x.are);
      bytes = ap (λ l. l ++ u) x.bytes;
      steps = one_step_more r x.moments mid (events.Came h) u actions.Keep r₁ x.steps step;
    }

take_parts : (start end : ℕ) (b : Octets) → start ≤ end →
    take start b ++ drop start (take end b) ≡ take end b
take_parts start end b order =
    ap (λ l. l ++ drop start (take end b)) (sym (take-take start end b order))
    ∙ take-append-drop start (take end b)

pub takes_steps : (now : ℕ) (k : Client) (input : Octets) (k' : Client) (after : Octets)
    (a : Option Action) (w : Word) →
    IsTold w now k.router (untold k input) after a k'.router → TakesSteps now k input k' w
takes_steps now k input k' after a of_nothing is_told = record {
  moments = [];
  of_word = refl;
  steps = subst (λ r. StepsAt now k.router [] r) (sym is_told.1) (no_step k.router);
}
takes_steps now k input k' after a (of_itself e x) is_told = record {
  moments = at now e [] x ∷ [];
  of_word = (now, refl);
  steps = one_step_more k.router [] k.router e [] x k'.router (no_step k.router) is_told.2;
}
takes_steps now k input k' after a (of_bytes ended told.Awaits) is_told = record {
  moments = [];
  of_word = refl;
  steps = subst (λ r. StepsAt now k.router [] r) (sym is_told.1.same) (no_step k.router);
}
takes_steps now k input k' after a (of_bytes ended (told.Kept n)) is_told =
    let x = kept_steps now k.router (take n (untold k input)) k'.router is_told.1.kept in
    record { moments = x.moments; of_word = (x.are, x.bytes); steps = x.steps }
takes_steps now k input k' after a (of_bytes ended (told.Acted start end act)) is_told =
    let acts = is_told.1 in
    let before = untold k input in
    let x = kept_steps now k.router (take start before) acts.before acts.kept in
    let unit = drop start (take end before) in
    let order : start ≤ end = omega (arith, acts.order) in
    record {
      moments = at now (events.Came acts.head) unit act ∷ x.moments;
      of_word = (
        ((acts.head, refl, acts.unit), x.are),
        ap (λ l. l ++ unit) x.bytes ∙ take_parts start end before order,
      );
      steps = one_step_more k.router x.moments acts.before (events.Came acts.head) unit act
          k'.router x.steps acts.step;
    }
takes_steps now k input k' after a (of_bytes ended (told.Refused e act)) is_told =
    let f = events.Faulty (fault_of (untold k input) e) in
    record {
      moments = at now f [] act ∷ [];
      of_word = (now, f, refl);
      steps = one_step_more k.router [] k.router f [] act k'.router (no_step k.router)
          is_told.1.step;
    }

-- ---- the machine beside a cache

module _ (most : ℕ) (r₀ : Router) (x₀ : Exchange) (start : ℕ) where
  -- the steps at one time, where there is one at least
  first_at : (n n' : ℕ) (r : Router) (x : Exchange) → IsBeside Unshown most r₀ x₀ start r x n →
      n ≤ n' → n' ≤ max n (wakes_at r) →
      (m : Moment Octets) (ms : List (Moment Octets)) (r' : Router) (x' : Exchange) →
      WellServed most n' r x (m ∷ ms) r' x' → IsBeside Unshown most r₀ x₀ start r' x' n'
  first_at n n' r x run order wakes m [] r' x'
      (served_more _ _ _ _ _ e b a _ (served_none _ _) step in_time served shown) =
      beside_on r x n n' e a r' run order wakes in_time served step shown
  first_at n n' r x run order wakes m (l ∷ ls) r' x'
      (served_more _ _ _ mid y e b a _ before step in_time served shown) =
      beside_on mid y n' n' e a r' (first_at n n' r x run order wakes l ls mid y before)
      (omega arith) (omega arith) in_time served step shown

pub beside : (most : ℕ) (k₀ : Client) (x₀ : Exchange) (start : ℕ) (k : Client) (x : Exchange)
    (n : ℕ) → IsServedFrom most k₀ x₀ start k x n →
    IsBeside Unshown most k₀.router x₀ start k.router x n
beside most k₀ x₀ start k x n serves_from = beside_from
beside most k₀ x₀ start k x n
    (serves_on k₁ x₁ n₁ n₂ a input held k₂ input' held' m ms x₂ run order wakes t are served) =
    first_at most k₀.router x₀ start n₁ n₂ k₁.router x₁ (beside most k₀ x₀ start k₁ x₁ n₁ run)
    order wakes m ms k₂.router x₂ served
beside most k₀ x₀ start k x n (says_between k₁ x₁ n₁ k₂ run same) =
    subst (λ r. IsBeside Unshown most k₀.router x₀ start r x₁ n₁) (sym same)
    (beside most k₀ x₀ start k₁ x₁ n₁ run)
