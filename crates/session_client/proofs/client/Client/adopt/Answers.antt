use native.Mathlib.Omega.{arith}
use Rattle.std.proofs.Common.{◌≤◌, ◌+◌, [], add-zero, ap, drop, length, refl, subst, sym, take}
use Rattle.std.proofs.Common.{◌∷◌, ◌∙◌, None, Some}
use Rattle.session_client.specs.Holding.{LeavesInput, due_size, untold}
use Rattle.session_client.specs.Counting.{IsKeptCount}
use Rattle.session_client.specs.Over.{over_none}
use Rattle.session_client.specs.Turning.{InPhase}
use Rattle.session_client.specs.declared.client.Holding.TheVariants as holdings
use Rattle.session_router.specs.declared.router.Router.{Router}
use Rattle.session_client.proofs.Overs.{ends_over}
use Rattle.session_client.proofs.Calls.{applied_acts, front_none, size_after}
use Rattle.session_client.proofs.Steps.{answer_applying, none_applied, step_applied}
use Rattle.session_client.proofs.Turns.{adopted_turns}
use Rattle.session_client.specs.declared.client.Client.{Client}
use Rattle.session_client.proofs.Pieces.{puts_none, said}
use Rattle.session_router.specs.declared.event.Action.TheVariants as actions
use Rattle.session_router.specs.declared.event.Event.TheVariants as events
use Rattle.session_bytes.specs.Reading.KeepsAll.{kept_none}
use Rattle.session_router.specs.Step.{IsStep}
use Rattle.session_client.specs.Holding.{RunsBeside}
use Rattle.session_client.proofs.Runs.{fails_made, leaves_at, shows_made}
use Rattle.session_router.specs.Histories.{host_after}
use Rattle.session_client.specs.Tells.{HostHas, of_itself}
use Rattle.session_client.proofs.Takes.{has_made, has_other}
use Rattle.session_client.proofs.client.Client.adopt.Goals as goal

pub returns-in-Show-clause-stands : goal.returns-in-Show-clause-stands
returns-in-Show-clause-stands c =
    let s = c.args.self.now in
    let after = c.step-action.new.self in
    λ k held made x is.
    subst (λ new. RunsBeside k new.router new.holding new.kept (Some c.args.count)
    c.forget.new.input made)
    (sym c.forget.ensures.client)
    (shows_made k s.router after s.holding c.args.now c.args.count s.kept 0 s.shown c.args.input.now
    c.forget.new.input held made x is
    (subst (λ a. IsStep s.router c.args.now events.Applied a after) c.in-Show.is
    c.step-action.ensures.steps))

pub returns-in_default-clause-stands : goal.returns-in_default-clause-stands
returns-in_default-clause-stands c =
    let s = c.args.self.now in
    λ k held made x is.
    subst (λ new. RunsBeside k new.router new.holding new.kept new.shown c.forget.new.input held)
    (sym c.forget.ensures.client)
    (fails_made k s.router c.step-action.new.self s.holding c.args.now c.args.count s.kept 0
    c.step-action.result s.shown c.args.input.now c.forget.new.input held made x is
    c.step-action.ensures.steps c.in_default.not-Show)

pub returns-in_default-clause-did : goal.returns-in_default-clause-did
returns-in_default-clause-did c =
    let s = c.args.self.now in
    let router = ap (λ (k : Client). k.router) c.forget.ensures.client in
    said c.args.now s.router [] s.router c.forget.new.self.router c.forget.new.self.router
    events.Applied c.step-action.result None _ s.unsent c.forget.new.self.unsent
    c.put.new.unsent c.put.new.unsent c.args.output.now c.put.new.output
    (kept_none s.router)
    (subst (λ r. IsStep s.router c.args.now events.Applied c.step-action.result r) (sym router)
    c.step-action.ensures.steps)
    c.put.ensures.puts (ap (λ (k : Client). k.unsent) c.forget.ensures.client) refl refl

pub returns-in-Show-clause-did : goal.returns-in-Show-clause-did
returns-in-Show-clause-did c =
    let s = c.args.self.now in
    let out = c.args.output.now in
    let here : s.unsent ≤ length out = omega (arith, c.requires.room) in
    said c.args.now s.router [] s.router c.step-action.new.self c.forget.new.self.router
    events.Applied actions.Show None [] s.unsent s.unsent s.unsent c.forget.new.self.unsent out out
    (kept_none s.router)
    (subst (λ a. IsStep s.router c.args.now events.Applied a c.step-action.new.self) c.in-Show.is
    c.step-action.ensures.steps)
    (puts_none s.unsent out here) refl (ap (λ (k : Client). k.unsent) c.forget.ensures.client)
    (ap (λ (k : Client). k.router) c.forget.ensures.client)

pub returns-in-Show-clause-ends : goal.returns-in-Show-clause-ends
returns-in-Show-clause-ends c =
    let s = c.args.self.now in
    let input = c.args.input.now in
    let there = take s.filled input in
    let action = c.step-action.result in
    let after = c.forget.new.self in
    let to = s.kept + c.args.size in
    let router = ap (λ (k : Client). k.router) c.forget.ensures.client in
    adopted_turns s after input c.forget.new.input c.args.now action c.requires.whole
    (subst (λ r. IsStep s.router c.args.now events.Applied action r) (sym router)
    c.step-action.ensures.steps)
    (subst (λ n. LeavesInput action 0 (drop (s.kept + n) there) (untold after c.forget.new.input))
    (sym c.requires.due)
    (leaves_at action to 0 there (untold after c.forget.new.input)
    (subst (λ n. LeavesInput action n there (untold after c.forget.new.input)) (sym (add-zero to))
    c.forget.ensures.left)))
    (ap (λ (k : Client). k.holding) c.forget.ensures.client)
    (ap (λ (k : Client). k.opened) c.forget.ensures.client)
    (ap (λ (k : Client). k.closed) c.forget.ensures.client)

pub returns-in-Show-clause-step : goal.returns-in-Show-clause-step
returns-in-Show-clause-step c =
    let s = c.args.self.now in
    let after = c.forget.new.self in
    let holding = ap (λ (k : Client). k.holding) c.forget.ensures.client in
    subst (λ m. InPhase after.router.phase m) (sym holding)
    (subst (λ (r : Router). InPhase r.phase holdings.Nothing)
    (sym (ap (λ (k : Client). k.router) c.forget.ensures.client))
    (step_applied s.router c.step-action.new.self c.args.now c.step-action.result s.holding
    c.requires.whole c.step-action.ensures.steps.rule c.requires.step))

pub returns-in_default-clause-ends : goal.returns-in_default-clause-ends
returns-in_default-clause-ends c =
    let s = c.args.self.now in
    let input = c.args.input.now in
    let there = take s.filled input in
    let action = c.step-action.result in
    let after = c.forget.new.self in
    let to = s.kept + c.args.size in
    let router = ap (λ (k : Client). k.router) c.forget.ensures.client in
    adopted_turns s after input c.forget.new.input c.args.now action c.requires.whole
    (subst (λ r. IsStep s.router c.args.now events.Applied action r) (sym router)
    c.step-action.ensures.steps)
    (subst (λ n. LeavesInput action 0 (drop (s.kept + n) there) (untold after c.forget.new.input))
    (sym c.requires.due)
    (leaves_at action to 0 there (untold after c.forget.new.input)
    (subst (λ n. LeavesInput action n there (untold after c.forget.new.input)) (sym (add-zero to))
    c.forget.ensures.left)))
    (ap (λ (k : Client). k.holding) c.forget.ensures.client)
    (ap (λ (k : Client). k.opened) c.forget.ensures.client)
    (ap (λ (k : Client). k.closed) c.forget.ensures.client)

pub returns-in_default-clause-step : goal.returns-in_default-clause-step
returns-in_default-clause-step c =
    let s = c.args.self.now in
    let after = c.forget.new.self in
    let holding = ap (λ (k : Client). k.holding) c.forget.ensures.client in
    subst (λ m. InPhase after.router.phase m) (sym holding)
    (subst (λ (r : Router). InPhase r.phase holdings.Nothing)
    (sym (ap (λ (k : Client). k.router) c.forget.ensures.client))
    (step_applied s.router c.step-action.new.self c.args.now c.step-action.result s.holding
    c.requires.whole c.step-action.ensures.steps.rule c.requires.step))

pub returns-in_default-clause-names : goal.returns-in_default-clause-names
returns-in_default-clause-names c = λ held.
    let s = c.args.self.now in
    let input = c.args.input.now in
    let output = c.args.output.now in
    let now = c.args.now in
    let action = c.step-action.result in
    let after = c.forget.new.self in
    let router = ap (λ (k : Client). k.router) c.forget.ensures.client in
    let steps = subst (λ r. IsStep s.router now events.Applied action r) (sym router)
    c.step-action.ensures.steps in
    record {
      ends = λ x is.
          ends_over now s.router after.router after.router s.holding s.kept s.filled s.shown input
          held s.unsent after.unsent c.put.new.unsent c.put.new.unsent output c.put.new.output
          action None 0 [] x is
          (over_none events.Applied tt
          (subst (λ a. IsStep s.router now events.Applied a after.router) is steps))
          c.put.ensures.puts (ap (λ (k : Client). k.unsent) c.forget.ensures.client) refl refl;
      none = λ is. absurd (none_applied s.router after.router now
          (subst (λ a. IsStep s.router now events.Applied a after.router) is steps).rule);
    }

pub returns-in-Show-clause-counts : goal.returns-in-Show-clause-counts
returns-in-Show-clause-counts c =
    let after = c.forget.new.self in
    subst (λ m. IsKeptCount m after.router after.kept c.forget.new.input)
    (sym (ap (λ (k : Client). k.holding) c.forget.ensures.client)) tt

pub returns-in_default-clause-counts : goal.returns-in_default-clause-counts
returns-in_default-clause-counts c =
    let after = c.forget.new.self in
    subst (λ m. IsKeptCount m after.router after.kept c.forget.new.input)
    (sym (ap (λ (k : Client). k.holding) c.forget.ensures.client)) tt

pub returns-in-Show-clause-takes : goal.returns-in-Show-clause-takes
returns-in-Show-clause-takes c = λ held made m was is.
    let s = c.args.self.now in
    let there = take s.filled c.args.input.now in
    let action = c.step-action.result in
    let after = c.forget.new.self in
    let to = s.kept + c.args.size in
    let left =
    subst (λ n. LeavesInput action 0 (drop (s.kept + n) there) (untold after c.forget.new.input))
    (sym c.requires.due)
    (leaves_at action to 0 there (untold after c.forget.new.input)
    (subst (λ n. LeavesInput action n there (untold after c.forget.new.input)) (sym (add-zero to))
    c.forget.ensures.left)) in (
      record {
        word = of_itself events.Applied actions.Show;
        is_told = (
          refl,
          tt,
          subst (λ r. IsStep s.router c.args.now events.Applied actions.Show r)
              (sym (ap (λ (k : Client). k.router) c.forget.ensures.client))
              (subst (λ a. IsStep s.router c.args.now events.Applied a c.step-action.new.self)
              c.in-Show.is c.step-action.ensures.steps),
          subst (λ a. LeavesInput a 0 (untold s c.args.input.now) (untold after c.forget.new.input))
              c.in-Show.is left,
        );
        front = ap (λ (k : Client). k.kept + due_size k.holding) c.forget.ensures.client;
        size = tt;
        made = m ∷ [];
        were = (was, tt);
        says = λ k h makes x. (take c.args.count made, is k h makes.0 x);
        has = λ k h makes x.
            subst (λ (new : Client). HostHas k (host_after k h [] actions.Show) new.holding new.kept
            (Some c.args.count) c.forget.new.input made) (sym c.forget.ensures.client)
            (has_made k h c.args.count 0 c.forget.new.input made (is k h makes.0 x));
      },
      refl,
    )

pub returns-in_default-clause-takes : goal.returns-in_default-clause-takes
returns-in_default-clause-takes c = λ held made m was is.
    let s = c.args.self.now in
    let there = take s.filled c.args.input.now in
    let action = c.step-action.result in
    let after = c.forget.new.self in
    let to = s.kept + c.args.size in (
      record {
        word = of_itself events.Applied action;
        is_told = (
          refl,
          tt,
          subst (λ r. IsStep s.router c.args.now events.Applied action r)
              (sym (ap (λ (k : Client). k.router) c.forget.ensures.client))
              c.step-action.ensures.steps,
          subst
              (λ n. LeavesInput action 0 (drop (s.kept + n) there)
              (untold after c.forget.new.input))
              (sym c.requires.due)
              (leaves_at action to 0 there (untold after c.forget.new.input)
              (subst (λ n. LeavesInput action n there (untold after c.forget.new.input))
              (sym (add-zero to)) c.forget.ensures.left)),
        );
        front = ap (λ (k : Client). k.kept + due_size k.holding) c.forget.ensures.client
            ∙ sym (front_none action (s.kept + due_size s.holding)
            (applied_acts s.router c.step-action.new.self c.args.now action
            (answer_applying s.router.phase s.holding c.requires.step c.requires.whole)
            c.step-action.ensures.steps.rule));
        size = size_after action s.shown after.shown
            (ap (λ (k : Client). k.shown) c.forget.ensures.client);
        made = m ∷ [];
        were = (was, tt);
        says = λ k h makes x. (take c.args.count made, is k h makes.0 x);
        has = λ k h makes x.
            subst (λ (new : Client). HostHas k (host_after k h [] action) new.holding new.kept
            new.shown c.forget.new.input held) (sym c.forget.ensures.client)
            (has_other k h s.holding s.kept 0 [] action s.shown c.args.input.now c.forget.new.input
            held c.in_default.not-Show x);
      },
      refl,
    )

pub returns-in_default-clause-shows : goal.returns-in_default-clause-shows
returns-in_default-clause-shows c = c.in_default.not-Show

pub returns-in-Show-clause-size : goal.returns-in-Show-clause-size
returns-in-Show-clause-size c = λ shows. refl

pub returns-in_default-clause-size : goal.returns-in_default-clause-size
returns-in_default-clause-size c = λ shows. absurd shows
