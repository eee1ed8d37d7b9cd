use Rattle.std.proofs.Common.{None, [], ap, refl, subst, sym, ◌∙◌}
use Rattle.session_router.specs.Step.{IsStep}
use Rattle.session_bytes.specs.Reading.KeepsAll.{kept_none}
use Rattle.session_client.specs.Holding.{untold}
use Rattle.session_client.specs.Said.{PutsBehind, bytes_of, left_at}
use Rattle.session_client.specs.Turning.{InPhase, follows}
use Rattle.session_client.proofs.Pieces.{said}
use Rattle.session_client.proofs.Steps.{step_itself}
use Rattle.session_client.proofs.Turns.{gave_up_turns, itself_turns, tick_turns}
use Rattle.session_router.specs.declared.router.Router.{Router}
use Rattle.session_client.specs.declared.client.Client.{Client}
use Rattle.session_router.specs.declared.event.Action.TheVariants as actions
use Rattle.session_client.proofs.Takes.{leaves_itself}
use Rattle.session_client.proofs.client.Client.happens.Goals as goal

pub returns-clause-did : goal.returns-clause-did
returns-clause-did c =
    let s = c.args.self.now in
    said c.args.now s.router [] s.router c.step-action.new.self c.follow.new.self.router
    c.args.event c.step-action.result None _ s.unsent s.unsent c.put.new.unsent
    c.follow.new.self.unsent c.args.output.now c.put.new.output (kept_none s.router)
    c.step-action.ensures.steps c.put.ensures.puts refl c.follow.ensures.unsent
    c.follow.ensures.router

pub returns-clause-step : goal.returns-clause-step
returns-clause-step c =
    let s = c.args.self.now in
    let action = c.step-action.result in
    subst (λ m. InPhase c.follow.new.self.router.phase m) (sym c.follow.ensures.holding)
    (subst (λ (r : Router). InPhase r.phase (follows action s.holding))
    (sym c.follow.ensures.router)
    (step_itself s.router c.step-action.new.self c.args.now c.args.event action s.holding
    c.requires.says c.step-action.ensures.steps.rule c.requires.step))

pub returns-clause-steps : goal.returns-clause-steps
returns-clause-steps c =
    subst (λ r. IsStep c.args.self.now.router c.args.now c.args.event c.step-action.result r)
    (sym c.follow.ensures.router) c.step-action.ensures.steps

pub returns-clause-ends : goal.returns-clause-ends
returns-clause-ends c = λ x is.
    let s = c.args.self.now in
    let output = c.args.output.now in
    let after = c.follow.new.self in
    subst (λ n. PutsBehind (bytes_of after.router.version (actions.End x) None []) s.unsent n
    output c.put.new.output) (sym c.follow.ensures.unsent)
    (subst (λ (r : Router). PutsBehind (bytes_of r.version (actions.End x) None []) s.unsent
    c.put.new.unsent output c.put.new.output) (sym c.follow.ensures.router)
    (subst (λ a. PutsBehind (bytes_of c.step-action.new.self.version a None []) (left_at a s.unsent)
    c.put.new.unsent output c.put.new.output) is c.put.ensures.puts))

pub returns-clause-turns : goal.returns-clause-turns
returns-clause-turns c = λ other.
    let s = c.args.self.now in
    itself_turns s c.follow.new.self c.args.input.now c.follow.new.input c.args.now c.args.event
    c.step-action.result (record {
      here = c.requires.step;
      says = c.requires.says;
      steps = subst (λ r. IsStep s.router c.args.now c.args.event c.step-action.result r)
          (sym c.follow.ensures.router) c.step-action.ensures.steps;
      left = (
        c.follow.ensures.left,
        c.follow.ensures.ends,
        λ is. ap (λ (k : Client). untold k c.follow.new.input) (c.follow.ensures.waits is).0
            ∙ ap (untold s) (c.follow.ensures.waits is).1,
      );
      holding = c.follow.ensures.holding;
      opened = c.follow.ensures.same.opened;
      closed = c.follow.ensures.same.closed;
    }) other

pub returns-clause-given_up : goal.returns-clause-given_up
returns-clause-given_up c = λ whole ends.
    let s = c.args.self.now in
    gave_up_turns s c.follow.new.self c.args.input.now c.follow.new.input c.args.now c.args.event
    c.step-action.result (record {
      here = c.requires.step;
      says = c.requires.says;
      steps = subst (λ r. IsStep s.router c.args.now c.args.event c.step-action.result r)
          (sym c.follow.ensures.router) c.step-action.ensures.steps;
      left = (
        c.follow.ensures.left,
        c.follow.ensures.ends,
        λ is. ap (λ (k : Client). untold k c.follow.new.input) (c.follow.ensures.waits is).0
            ∙ ap (untold s) (c.follow.ensures.waits is).1,
      );
      holding = c.follow.ensures.holding;
      opened = c.follow.ensures.same.opened;
      closed = c.follow.ensures.same.closed;
    }) whole ends

pub returns-clause-acts : goal.returns-clause-acts
returns-clause-acts c = λ is waits other.
    let s = c.args.self.now in
    tick_turns s c.follow.new.self c.args.input.now c.follow.new.input c.args.now c.args.event
    c.step-action.result (record {
      here = c.requires.step;
      says = c.requires.says;
      steps = subst (λ r. IsStep s.router c.args.now c.args.event c.step-action.result r)
          (sym c.follow.ensures.router) c.step-action.ensures.steps;
      left = (
        c.follow.ensures.left,
        c.follow.ensures.ends,
        λ is. ap (λ (k : Client). untold k c.follow.new.input) (c.follow.ensures.waits is).0
            ∙ ap (untold s) (c.follow.ensures.waits is).1,
      );
      holding = c.follow.ensures.holding;
      opened = c.follow.ensures.same.opened;
      closed = c.follow.ensures.same.closed;
    }) is waits other

pub returns-clause-counts : goal.returns-clause-counts
returns-clause-counts c =
    c.follow.ensures.counts c.args.now c.args.self.now.router c.args.event
    c.step-action.ensures.steps

pub returns-clause-left : goal.returns-clause-left
returns-clause-left c =
    let s = c.args.self.now in
    let after = c.follow.new.self in
    leaves_itself s.router c.step-action.new.self c.args.now c.args.event s.holding
    (untold s c.args.input.now) (untold after c.follow.new.input) c.requires.says c.requires.step
    c.step-action.result c.step-action.ensures.steps.rule (
      c.follow.ensures.left,
      c.follow.ensures.ends,
      λ is. ap (λ (k : Client). untold k c.follow.new.input) (c.follow.ensures.waits is).0
          ∙ ap (untold s) (c.follow.ensures.waits is).1,
    )

pub returns-clause-has : goal.returns-clause-has
returns-clause-has c = λ k h buffer x.
    c.follow.ensures.has k h buffer c.args.now c.args.self.now.router c.args.event c.requires.says
    c.step-action.ensures.steps x

pub returns-clause-front : goal.returns-clause-front
returns-clause-front c = c.follow.ensures.front

pub returns-clause-shown : goal.returns-clause-shown
returns-clause-shown c = c.follow.ensures.shown
