use Rattle.std.proofs.Common.{None, inl, refl}
use Rattle.session_client.proofs.Takes.{takes_none}
use Rattle.session_client.proofs.Words.{of_connected}
use Rattle.session_client.proofs.client.Client.connected.Goals as goal

pub returns-in_default-clause-told : goal.returns-in_default-clause-told
returns-in_default-clause-told c = λ held.
    let s = c.args.self.now in (
      None,
      tt,
      (inl refl, refl, refl),
      takes_none c.args.now s.router s.holding s.kept s.filled s.shown c.args.input.now held,
      c.in_default.not-Connecting,
    )

pub returns-in-Connecting-clause-told : goal.returns-in-Connecting-clause-told
returns-in-Connecting-clause-told c = λ held.
    let t = c.tells.ensures.told held in
    (t.0, t.1, t.2, t.3, of_connected c.args.self.now.router.phase t.3.word c.in-Connecting.is t.4)
