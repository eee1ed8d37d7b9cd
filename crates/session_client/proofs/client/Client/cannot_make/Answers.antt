use Rattle.std.proofs.Common.{None}
use Rattle.session_client.proofs.Overs.{acts_itself}
use Rattle.session_client.proofs.Steps.{answer_applying, refused_ends}
use Rattle.session_router.specs.declared.event.Event.TheVariants as events
use Rattle.std.proofs.Common.{[], refl}
use Rattle.session_client.specs.Tells.{of_itself}
use Rattle.session_client.proofs.Calls.{size_after}
use Rattle.session_client.proofs.Runs.{no_show}
use Rattle.session_client.proofs.client.Client.cannot_make.Goals as goal

pub returns-clause-names : goal.returns-clause-names
returns-clause-names c = λ held.
    let x = c.happens-action in
    acts_itself c.args.now c.args.self.now x.new.self c.args.input.now held x.new.input
    c.args.output.now x.new.output (events.NotApplied None) x.result tt tt x.ensures.steps
    x.ensures.ends

pub returns-clause-ends : goal.returns-clause-ends
returns-clause-ends c =
    let s = c.args.self.now in
    let x = c.happens-action in
    x.ensures.given_up c.requires.whole
    (refused_ends s.router x.new.self.router c.args.now None x.result
    (answer_applying s.router.phase s.holding c.requires.step c.requires.whole)
    x.ensures.steps.rule)

pub returns-clause-takes : goal.returns-clause-takes
returns-clause-takes c = λ held made.
    let x = c.happens-action in (
      record {
        word = of_itself (events.NotApplied None) x.result;
        is_told = (refl, tt, x.ensures.steps, x.ensures.left);
        front = x.ensures.front;
        size = size_after x.result c.args.self.now.shown x.new.self.shown x.ensures.shown;
        made = [];
        were = tt;
        says = λ k h makes y. tt;
        has = λ k h makes y. x.ensures.has k h held y;
      },
      refl,
    )

pub returns-clause-shows : goal.returns-clause-shows
returns-clause-shows c =
    let x = c.happens-action in
    no_show c.args.self.now.router c.args.now (events.NotApplied None) x.result x.new.self.router
    (λ e. cc) x.ensures.steps.rule

pub returns-clause-acts : goal.returns-clause-acts
returns-clause-acts c = λ shows. shows
