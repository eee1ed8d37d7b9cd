use Rattle.std.proofs.Common.{◌∙◌, None, inl, refl}
use Rattle.session_client.proofs.Calls.{said_none}
use Rattle.session_client.proofs.Takes.{takes_none}
use Rattle.session_client.proofs.Words.{of_lost}
use Rattle.session_client.proofs.client.Client.starve.Goals as goal

pub returns-then-self-clause-closed : goal.returns-then-self-clause-closed
returns-then-self-clause-closed c = c.tells.ensures.closed ∙ said_none c.tells.result

pub returns-then-self-clause-told : goal.returns-then-self-clause-told
returns-then-self-clause-told c = λ held.
    let t = c.tells.ensures.told held in
    (t.0, t.1, t.2, t.3, of_lost c.args.self.now.closed t.3.word c.if-self.true t.4)

pub returns-then-self-input-clause-told : goal.returns-then-self-input-clause-told
returns-then-self-input-clause-told c = λ held.
    let s = c.args.self.now in (
      None,
      tt,
      (inl refl, refl, refl),
      takes_none c.args.now s.router s.holding s.kept s.filled s.shown c.args.input.now held,
      c.if-self.false,
    )

pub returns-clause-told : goal.returns-clause-told
returns-clause-told c = λ held.
    let s = c.args.self.now in (
      None,
      tt,
      (inl refl, refl, refl),
      takes_none c.args.now s.router s.holding s.kept s.filled s.shown c.args.input.now held,
      c.if-self.false,
    )
