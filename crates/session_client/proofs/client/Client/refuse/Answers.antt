use native.Mathlib.Omega.{arith}
use Rattle.std.proofs.Common.{[], ap, drop, min, refl, subst, sym, take, Some, ◌∙◌, ◌≡◌}
use Rattle.session_bytes.specs.Reading.KeepsAll.{kept_none}
use Rattle.session_bytes.specs.Sent.{refusal_code}
use Rattle.session_client.specs.Holding.{untold}
use Rattle.session_client.specs.Over.{over_change}
use Rattle.session_client.specs.Said.{PutsBehind, bytes_of, left_at}
use Rattle.session_client.specs.Turning.{InPhase, follows}
use Rattle.session_client.specs.declared.client.Client.{Client}
use Rattle.session_client.proofs.Overs.{ends_over, min_dropped}
use Rattle.session_client.proofs.Pieces.{said}
use Rattle.session_client.proofs.Steps.{answer_applying, none_itself, refused_ends, step_itself}
use Rattle.session_client.proofs.Turns.{gave_up_turns}
use Rattle.session_router.specs.Step.{IsStep}
use Rattle.session_router.specs.declared.event.Event.TheVariants as events
use Rattle.session_router.specs.declared.router.Router.{Router}
use Rattle.session_client.specs.Tells.{of_itself}
use Rattle.session_client.proofs.Calls.{size_after}
use Rattle.session_client.proofs.Runs.{no_show}
use Rattle.session_client.proofs.Takes.{leaves_ended}
use Rattle.session_client.proofs.client.Client.refuse.Goals as goal

pub returns-clause-stands : goal.returns-clause-stands
returns-clause-stands c = λ k held made x.
    c.follow.ensures.stands k held c.args.now c.args.self.now.router
    (events.NotApplied (Some c.code.result)) tt x c.step-action.ensures.steps

pub returns-clause-did : goal.returns-clause-did
returns-clause-did c =
    let s = c.args.self.now in
    said c.args.now s.router [] s.router c.step-action.new.self c.follow.new.self.router
    (events.NotApplied (Some c.code.result)) c.step-action.result _ _ s.unsent s.unsent
    c.put.new.unsent c.follow.new.self.unsent c.args.output.now c.put.new.output
    (kept_none s.router) c.step-action.ensures.steps c.put.ensures.puts refl
    c.follow.ensures.unsent c.follow.ensures.router

pub returns-clause-step : goal.returns-clause-step
returns-clause-step c =
    let s = c.args.self.now in
    let action = c.step-action.result in
    subst (λ m. InPhase c.follow.new.self.router.phase m) (sym c.follow.ensures.holding)
    (subst (λ (r : Router). InPhase r.phase (follows action s.holding))
    (sym c.follow.ensures.router)
    (step_itself s.router c.step-action.new.self c.args.now
    (events.NotApplied (Some c.code.result)) action s.holding tt c.step-action.ensures.steps.rule
    c.requires.step))

pub returns-clause-ends : goal.returns-clause-ends
returns-clause-ends c =
    let s = c.args.self.now in
    let event = events.NotApplied (Some c.code.result) in
    let action = c.step-action.result in
    gave_up_turns s c.follow.new.self c.args.input.now c.follow.new.input c.args.now event action
    (record {
      here = c.requires.step;
      says = tt;
      steps = subst (λ r. IsStep s.router c.args.now event action r) (sym c.follow.ensures.router)
          c.step-action.ensures.steps;
      left = (
        c.follow.ensures.left,
        c.follow.ensures.ends,
        λ is. ap (λ (k : Client). untold k c.follow.new.input) (c.follow.ensures.waits is).0
            ∙ ap (untold s) (c.follow.ensures.waits is).1,
      );
      holding = c.follow.ensures.holding;
      opened = c.follow.ensures.same.opened;
      closed = c.follow.ensures.same.closed;
    }) c.requires.whole
    (refused_ends s.router c.step-action.new.self c.args.now (Some c.code.result) action
    (answer_applying s.router.phase s.holding c.requires.step c.requires.whole)
    c.step-action.ensures.steps.rule)

pub returns-clause-names : goal.returns-clause-names
returns-clause-names c = λ held since size places due refused.
    let s = c.args.self.now in
    let input = c.args.input.now in
    let output = c.args.output.now in
    let now = c.args.now in
    let refusal = c.args.refusal in
    let action = c.step-action.result in
    let mid = c.step-action.new.self in
    let after = c.follow.new.self in
    let least : c.min.result ≡ min c.args.offset s.filled = omega (arith, c.min.ensures) in
    let about_is = c.part-about.ensures ∙ ap (λ n. drop n (take s.filled input)) least
    ∙ min_dropped c.args.offset s.filled input in
    let event = events.NotApplied (Some (record { 0 = refusal_code refusal })) in
    let steps = subst (λ n. IsStep s.router now (events.NotApplied (Some (record { 0 = n })))
    action mid) c.code.ensures c.step-action.ensures.steps in
    record {
      ends = λ x is.
          ends_over now s.router mid after.router s.holding s.kept s.filled s.shown input held
          s.unsent s.unsent c.put.new.unsent after.unsent output c.put.new.output action
          (Some refusal) c.args.offset (drop c.args.offset (take s.filled input)) x is
          (over_change size since refusal c.args.offset places due refused
          (subst (λ a. IsStep s.router now event a mid) is steps))
          (subst (λ b. PutsBehind (bytes_of mid.version action (Some refusal) b)
          (left_at action s.unsent) c.put.new.unsent output c.put.new.output) about_is
          c.put.ensures.puts)
          refl c.follow.ensures.unsent c.follow.ensures.router;
      none = λ is. absurd (none_itself s.router mid now event tt
          (subst (λ a. IsStep s.router now event a mid) is steps).rule);
    }

pub returns-clause-counts : goal.returns-clause-counts
returns-clause-counts c =
    c.follow.ensures.counts c.args.now c.args.self.now.router
    (events.NotApplied (Some c.code.result)) c.step-action.ensures.steps

pub returns-clause-takes : goal.returns-clause-takes
returns-clause-takes c = λ held made.
    let s = c.args.self.now in
    let event = events.NotApplied (Some c.code.result) in
    let action = c.step-action.result in
    let after = c.follow.new.self in (
      record {
        word = of_itself event action;
        is_told = (
          refl,
          tt,
          subst (λ r. IsStep s.router c.args.now event action r) (sym c.follow.ensures.router)
              c.step-action.ensures.steps,
          leaves_ended action (untold s c.args.input.now) (untold after c.follow.new.input)
              (refused_ends s.router c.step-action.new.self c.args.now (Some c.code.result) action
              (answer_applying s.router.phase s.holding c.requires.step c.requires.whole)
              c.step-action.ensures.steps.rule) c.follow.ensures.ends,
        );
        front = c.follow.ensures.front;
        size = size_after action s.shown after.shown c.follow.ensures.shown;
        made = [];
        were = tt;
        says = λ k h makes x. tt;
        has = λ k h makes x.
            c.follow.ensures.has k h held c.args.now s.router event tt
            c.step-action.ensures.steps x;
      },
      ap (λ n. events.NotApplied (Some (record { 0 = n }))) c.code.ensures,
    )

pub returns-clause-shows : goal.returns-clause-shows
returns-clause-shows c =
    no_show c.args.self.now.router c.args.now (events.NotApplied (Some c.code.result))
    c.step-action.result c.step-action.new.self (λ e. cc) c.step-action.ensures.steps.rule

pub returns-clause-acts : goal.returns-clause-acts
returns-clause-acts c = λ shows. shows
