use native.Mathlib.Omega.{arith}
use Rattle.std.proofs.Common.{◌<◌, ◌≤◌, ◌∙◌, ap, sym}
use Rattle.session_router.specs.Pace.{wakes_at}
use Rattle.session_client.specs.Calls.{said_after}
use Rattle.session_client.specs.Holding.{untold}
use Rattle.session_client.proofs.Calls.{closed_due, closed_later, closed_told, lost_alone}
use Rattle.session_client.proofs.Calls.{lost_talking, opened_due, opened_told, said_none}
use Rattle.session_client.proofs.Words.{turn_closed, turn_due, turn_opened, turn_rest}
use Rattle.session_client.proofs.client.Client.go_on.Goals as goal

pub returns-then-now-wakes-clause-opened : goal.returns-then-now-wakes-clause-opened
returns-then-now-wakes-clause-opened c =
    let s = c.args.self.now in
    let x = c.tells in
    let due : wakes_at s.router ≤ c.args.now =
    omega (arith, c.if-now-wakes.true, c.wakes.ensures) in
    x.ensures.opened ∙ sym (opened_due c.args.now s x.result due)

pub returns-then-now-wakes-clause-closed : goal.returns-then-now-wakes-clause-closed
returns-then-now-wakes-clause-closed c =
    let s = c.args.self.now in
    let x = c.tells in
    let due : wakes_at s.router ≤ c.args.now =
    omega (arith, c.if-now-wakes.true, c.wakes.ensures) in
    x.ensures.closed ∙ sym (closed_due c.args.now s x.result c.args.input.now due)

pub returns-then-now-wakes-clause-told : goal.returns-then-now-wakes-clause-told
returns-then-now-wakes-clause-told c = λ held.
    let s = c.args.self.now in
    let x = c.tells in
    let due : wakes_at s.router ≤ c.args.now =
    omega (arith, c.if-now-wakes.true, c.wakes.ensures) in
    let t = x.ensures.told held in
    (t.0, t.1, t.2, t.3, turn_due c.args.now s c.args.input.now t.3.word due t.4)

pub returns-then-self-clause-opened : goal.returns-then-self-clause-opened
returns-then-self-clause-opened c =
    let s = c.args.self.now in
    let x = c.connected in
    let early : c.args.now < wakes_at s.router =
    omega (arith, c.if-now-wakes.false, c.wakes.ensures) in
    x.ensures.opened ∙ said_none x.result ∙ sym (opened_told c.args.now s x.result early)

pub returns-then-self-clause-closed : goal.returns-then-self-clause-closed
returns-then-self-clause-closed c =
    let s = c.args.self.now in
    let x = c.connected in
    x.ensures.closed ∙ sym (closed_later c.args.now s x.result c.args.input.now c.if-self.true)

pub returns-then-self-clause-told : goal.returns-then-self-clause-told
returns-then-self-clause-told c = λ held.
    let s = c.args.self.now in
    let x = c.connected in
    let early : c.args.now < wakes_at s.router =
    omega (arith, c.if-now-wakes.false, c.wakes.ensures) in
    let t = x.ensures.told held in (
      t.0,
      t.1,
      t.2,
      t.3,
      turn_opened c.args.now s c.args.input.now t.3.word early c.if-self.true
          t.4,
    )

pub returns-then-is_connected-clause-opened : goal.returns-then-is_connected-clause-opened
returns-then-is_connected-clause-opened c =
    let s = c.args.self.now in
    let x = c.listen in
    let early : c.args.now < wakes_at s.router =
    omega (arith, c.if-now-wakes.false, c.wakes.ensures) in
    x.ensures.opened ∙ ap (said_after x.result) c.if-self.false ∙ said_none x.result
    ∙ sym (opened_told c.args.now s x.result early)

pub returns-then-is_connected-clause-closed : goal.returns-then-is_connected-clause-closed
returns-then-is_connected-clause-closed c =
    let s = c.args.self.now in
    let x = c.listen in
    let early : c.args.now < wakes_at s.router =
    omega (arith, c.if-now-wakes.false, c.wakes.ensures) in
    let talks = c.is_connected.ensures.yes c.if-is_connected.true in
    x.ensures.closed
    ∙ sym (lost_talking s.router.phase (untold s c.args.input.now) x.result s.closed talks.0
    talks.1)
    ∙ sym (closed_told c.args.now s x.result c.args.input.now early c.if-self.false)

pub returns-then-is_connected-clause-told : goal.returns-then-is_connected-clause-told
returns-then-is_connected-clause-told c = λ held.
    let s = c.args.self.now in
    let x = c.listen in
    let early : c.args.now < wakes_at s.router =
    omega (arith, c.if-now-wakes.false, c.wakes.ensures) in
    let t = x.ensures.told held in (
      t.0,
      t.1,
      t.2,
      t.3,
      turn_rest c.args.now s c.args.input.now t.3.word early c.if-self.false
          (c.is_connected.ensures.yes c.if-is_connected.true) t.4,
    )

pub returns-then-is_connected-clause-rests : goal.returns-then-is_connected-clause-rests
returns-then-is_connected-clause-rests c = λ waits.
    let s = c.args.self.now in
    let rests = c.listen.ensures.rests waits in
    let early : c.args.now < wakes_at s.router =
    omega (arith, c.if-now-wakes.false, c.wakes.ensures) in
    record {
      time = early;
      opened = c.if-self.false;
      closed = rests.0;
      room = rests.2;
      awaits = λ talks. rests.1;
    }

pub returns-else-is_connected-clause-opened : goal.returns-else-is_connected-clause-opened
returns-else-is_connected-clause-opened c =
    let s = c.args.self.now in
    let x = c.starve in
    let early : c.args.now < wakes_at s.router =
    omega (arith, c.if-now-wakes.false, c.wakes.ensures) in
    x.ensures.opened ∙ ap (said_after x.result) c.if-self.false ∙ said_none x.result
    ∙ sym (opened_told c.args.now s x.result early)

pub returns-else-is_connected-clause-closed : goal.returns-else-is_connected-clause-closed
returns-else-is_connected-clause-closed c =
    let s = c.args.self.now in
    let x = c.starve in
    let early : c.args.now < wakes_at s.router =
    omega (arith, c.if-now-wakes.false, c.wakes.ensures) in
    let alone = c.is_connected.ensures.no c.if-is_connected.false in
    x.ensures.closed
    ∙ sym (lost_alone s.router.phase (untold s c.args.input.now) x.result s.closed alone)
    ∙ sym (closed_told c.args.now s x.result c.args.input.now early c.if-self.false)

pub returns-else-is_connected-clause-told : goal.returns-else-is_connected-clause-told
returns-else-is_connected-clause-told c = λ held.
    let s = c.args.self.now in
    let x = c.starve in
    let early : c.args.now < wakes_at s.router =
    omega (arith, c.if-now-wakes.false, c.wakes.ensures) in
    let t = x.ensures.told held in (
      t.0,
      t.1,
      t.2,
      t.3,
      turn_closed c.args.now s c.args.input.now t.3.word early c.if-self.false
          (c.is_connected.ensures.no c.if-is_connected.false) t.4,
    )

pub returns-else-is_connected-clause-rests : goal.returns-else-is_connected-clause-rests
returns-else-is_connected-clause-rests c = λ waits.
    let s = c.args.self.now in
    let rests = c.starve.ensures.rests waits in
    let early : c.args.now < wakes_at s.router =
    omega (arith, c.if-now-wakes.false, c.wakes.ensures) in
    record {
      time = early;
      opened = c.if-self.false;
      closed = rests.0;
      room = rests.1;
      awaits = λ talks. absurd (c.is_connected.ensures.no c.if-is_connected.false talks);
    }
