use Rattle.std.proofs.Common.{None, Some, subst, sym}
use Rattle.session_router.specs.Step.{IsStep}
use Rattle.session_client.specs.Turning.{turns_left}
use Rattle.session_client.proofs.Overs.{acts_itself, named_then}
use Rattle.session_client.proofs.Pieces.{turned}
use Rattle.session_client.proofs.Steps.{hearing_elsewhere}
use Rattle.session_client.proofs.Turns.{fewer_then, most_then}
use Rattle.std.proofs.Common.{[], refl}
use Rattle.session_client.specs.Tells.{TakesCall, of_itself}
use Rattle.session_client.specs.Words.{IsOfEvent}
use Rattle.session_client.proofs.Calls.{not_data, size_after}
use Rattle.session_client.proofs.Runs.{heard_none, no_show, not_applied}
use Rattle.session_client.proofs.Takes.{no_unit, told_then}
use Rattle.std.proofs.Common.{◌∙◌, ap}
use Rattle.session_client.specs.Calls.{said_after}
use Rattle.session_client.proofs.client.Client.tells.Goals as goal

pub returns-clause-turns : goal.returns-clause-turns
returns-clause-turns c =
    let s = c.args.self.now in
    turned c.todo.result c.happens-action.result c.args.now s.router
    c.happens-action.new.self.router c.todo.new.self.router s.unsent
    c.happens-action.new.self.unsent c.todo.new.self.unsent c.args.output.now
    c.happens-action.new.output c.todo.ensures.todo c.happens-action.ensures.did
    c.todo.ensures.router c.todo.ensures.unsent

pub returns-clause-tells : goal.returns-clause-tells
returns-clause-tells c = (
  c.happens-action.result,
  c.todo.ensures.todo,
  subst (λ r. IsStep c.args.self.now.router c.args.now c.args.event c.happens-action.result r)
      (sym c.todo.ensures.router) c.happens-action.ensures.steps,
)

pub returns-clause-names : goal.returns-clause-names
returns-clause-names c = λ held.
    let s = c.args.self.now in
    let x = c.happens-action in
    named_then c.todo.result x.result None 0 c.args.now s x.new.self c.todo.new.self
    c.args.input.now held x.new.input c.args.output.now x.new.output c.todo.ensures.names
    (acts_itself c.args.now s x.new.self c.args.input.now held x.new.input c.args.output.now
    x.new.output c.args.event x.result c.requires.says c.requires.none x.ensures.steps
    x.ensures.ends)
    c.todo.ensures.router c.todo.ensures.unsent

pub returns-clause-turns_most : goal.returns-clause-turns_most
returns-clause-turns_most c = λ turn.
    let x = c.happens-action in
    most_then (turns_left c.args.self.now c.args.input.now) (turns_left x.new.self x.new.input)
    (turns_left c.todo.new.self x.new.input)
    (x.ensures.turns (c.todo.ensures.turn turn)) (c.todo.ensures.turns x.new.input)

pub returns-clause-ticks : goal.returns-clause-ticks
returns-clause-ticks c = λ is hears wakes turn.
    let s = c.args.self.now in
    let x = c.happens-action in
    fewer_then (turns_left s c.args.input.now) (turns_left x.new.self x.new.input)
    (turns_left c.todo.new.self x.new.input)
    (x.ensures.acts is
    (x.ensures.steps.acts is wakes
    (hearing_elsewhere s.router.phase s.holding c.requires.step hears))
    (c.todo.ensures.turn turn)) (c.todo.ensures.turns x.new.input)

pub returns-clause-told : goal.returns-clause-told
returns-clause-told c = λ held.
    let s = c.args.self.now in
    let x = c.happens-action in
    let takes : TakesCall (Some x.result) c.args.now s c.args.input.now held x.new.self x.new.input
    held = record {
      word = of_itself c.args.event x.result;
      is_told = (refl, no_unit c.args.event c.requires.none, x.ensures.steps, x.ensures.left);
      front = x.ensures.front;
      size = size_after x.result s.shown x.new.self.shown x.ensures.shown;
      made = [];
      were = tt;
      says = λ k h makes y. heard_none c.args.event s.router c.requires.says h;
      has = λ k h makes y. x.ensures.has k h held y;
    } in
    let after = c.todo.ensures.takes (Some x.result) c.args.now s c.args.input.now held x.new.input
    held takes in
    told_then (IsOfEvent c.args.event) c.todo.result x.result c.args.now s x.new.self
    c.todo.new.self c.args.input.now held x.new.input held c.args.output.now x.new.output
    c.todo.ensures.todo x.ensures.did c.todo.ensures.router c.todo.ensures.unsent after.0
    (subst (IsOfEvent c.args.event) (sym after.1) refl)

pub returns-clause-opened : goal.returns-clause-opened
returns-clause-opened c =
    c.todo.ensures.opened ∙ ap (said_after c.todo.result) c.happens-action.ensures.same.opened

pub returns-clause-closed : goal.returns-clause-closed
returns-clause-closed c =
    c.todo.ensures.closed ∙ ap (said_after c.todo.result) c.happens-action.ensures.same.closed

pub returns-clause-plain : goal.returns-clause-plain
returns-clause-plain c =
    let s = c.args.self.now in
    let x = c.happens-action in
    not_data c.todo.result x.result c.todo.ensures.todo
    (no_show s.router c.args.now c.args.event x.result x.new.self.router
    (not_applied c.args.event s.router c.requires.says) x.ensures.steps.rule)
