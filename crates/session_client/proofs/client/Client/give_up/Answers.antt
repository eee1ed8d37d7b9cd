use Rattle.std.proofs.Common.{◌≡◌, ◌∙◌, None, ap, subst, sym}
use Rattle.session_router.specs.Step.{IsStep}
use Rattle.session_router.specs.declared.event.Event.TheVariants as events
use Rattle.session_client.specs.Calls.{said_after}
use Rattle.session_client.specs.Said.{given_up}
use Rattle.session_client.specs.Words.{IsOfEvent}
use Rattle.session_client.specs.Tells.{TellsCall}
use Rattle.session_client.specs.declared.client.Client.{Client}
use Rattle.session_client.proofs.Reports.{given_lost}
use Rattle.session_client.proofs.client.Client.give_up.Goals as goal

pub returns-in_default-clause-gives : goal.returns-in_default-clause-gives
returns-in_default-clause-gives c =
    let k = c.make_room.new.self in
    let t = c.tells-in_default.ensures.tells in
    let after = c.tells-in_default.new.self.router in (
      t.0,
      t.1,
      subst (λ (x : Client). IsStep x.router c.args.now (given_up x.router.phase) t.0 after)
          c.make_room.ensures.unsent
          (subst (λ e. IsStep k.router c.args.now e t.0 after)
          (sym (given_lost k.router.phase c.in_default.not-Reading c.in_default.not-Applying)) t.2),
    )

pub returns-in-Reading-clause-told : goal.returns-in-Reading-clause-told
returns-in-Reading-clause-told c = λ held.
    let s = c.args.self.now in
    let k = c.make_room.new.self in
    let x = c.tells in
    let same = sym (ap (λ (k : Client). k.router.phase) c.make_room.ensures.unsent) in
    let event : given_up s.router.phase ≡ events.NotApplied None =
    ap given_up (same ∙ c.in-Reading.is) in
    subst (λ (k : Client). TellsCall (IsOfEvent (given_up s.router.phase)) x.result c.args.now k
    c.args.input.now held x.new.self x.new.input held c.args.output.now x.new.output)
    c.make_room.ensures.unsent
    (subst (λ e. TellsCall (IsOfEvent e) x.result c.args.now k c.args.input.now held x.new.self
    x.new.input held c.args.output.now x.new.output) (sym event) (x.ensures.told held))

pub returns-in-Applying-clause-told : goal.returns-in-Applying-clause-told
returns-in-Applying-clause-told c = λ held.
    let s = c.args.self.now in
    let k = c.make_room.new.self in
    let x = c.tells-in-Applying in
    let same = sym (ap (λ (k : Client). k.router.phase) c.make_room.ensures.unsent) in
    let event : given_up s.router.phase ≡ events.NotApplied None =
    ap given_up (same ∙ c.in-Applying.is) in
    subst (λ (k : Client). TellsCall (IsOfEvent (given_up s.router.phase)) x.result c.args.now k
    c.args.input.now held x.new.self x.new.input held c.args.output.now x.new.output)
    c.make_room.ensures.unsent
    (subst (λ e. TellsCall (IsOfEvent e) x.result c.args.now k c.args.input.now held x.new.self
    x.new.input held c.args.output.now x.new.output) (sym event) (x.ensures.told held))

pub returns-in_default-clause-told : goal.returns-in_default-clause-told
returns-in_default-clause-told c = λ held.
    let s = c.args.self.now in
    let k = c.make_room.new.self in
    let x = c.tells-in_default in
    let same = sym (ap (λ (k : Client). k.router.phase) c.make_room.ensures.unsent) in
    let event : given_up s.router.phase ≡ events.Lost =
    ap given_up same
    ∙ given_lost k.router.phase c.in_default.not-Reading c.in_default.not-Applying in
    subst (λ (k : Client). TellsCall (IsOfEvent (given_up s.router.phase)) x.result c.args.now k
    c.args.input.now held x.new.self x.new.input held c.args.output.now x.new.output)
    c.make_room.ensures.unsent
    (subst (λ e. TellsCall (IsOfEvent e) x.result c.args.now k c.args.input.now held x.new.self
    x.new.input held c.args.output.now x.new.output) (sym event) (x.ensures.told held))

pub returns-in-Reading-clause-opened : goal.returns-in-Reading-clause-opened
returns-in-Reading-clause-opened c =
    let x = c.tells in
    x.ensures.opened ∙ ap (λ (k : Client). said_after x.result k.opened) c.make_room.ensures.unsent

pub returns-in-Applying-clause-opened : goal.returns-in-Applying-clause-opened
returns-in-Applying-clause-opened c =
    let x = c.tells-in-Applying in
    x.ensures.opened ∙ ap (λ (k : Client). said_after x.result k.opened) c.make_room.ensures.unsent

pub returns-in_default-clause-opened : goal.returns-in_default-clause-opened
returns-in_default-clause-opened c =
    let x = c.tells-in_default in
    x.ensures.opened ∙ ap (λ (k : Client). said_after x.result k.opened) c.make_room.ensures.unsent

pub returns-in-Reading-clause-closed : goal.returns-in-Reading-clause-closed
returns-in-Reading-clause-closed c =
    let x = c.tells in
    x.ensures.closed ∙ ap (λ (k : Client). said_after x.result k.closed) c.make_room.ensures.unsent

pub returns-in-Applying-clause-closed : goal.returns-in-Applying-clause-closed
returns-in-Applying-clause-closed c =
    let x = c.tells-in-Applying in
    x.ensures.closed ∙ ap (λ (k : Client). said_after x.result k.closed) c.make_room.ensures.unsent

pub returns-in_default-clause-closed : goal.returns-in_default-clause-closed
returns-in_default-clause-closed c =
    let x = c.tells-in_default in
    x.ensures.closed ∙ ap (λ (k : Client). said_after x.result k.closed) c.make_room.ensures.unsent
