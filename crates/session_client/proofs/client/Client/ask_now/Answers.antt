use native.Mathlib.Omega.{arith}
use Rattle.std.proofs.Common.{None, inl, refl}
use Rattle.session_client.proofs.Takes.{takes_none}
use Rattle.session_client.proofs.client.Client.ask_now.Goals as goal

pub returns-then-not-has_room-clause-told : goal.returns-then-not-has_room-clause-told
returns-then-not-has_room-clause-told c = λ held.
    let s = c.args.self.now in
    let short = c.has_room.ensures.no c.if-not-has_room.true in (
      None,
      tt,
      (inl refl, refl, refl),
      takes_none c.args.now s.router s.holding s.kept s.filled s.shown c.args.input.now held,
      record { none = λ is. tt; asks = λ enough. absurd (omega (arith, short, enough)) },
    )

pub returns-clause-told : goal.returns-clause-told
returns-clause-told c = λ held.
    let enough = c.has_room.ensures.yes c.if-not-has_room.false in
    let t = c.tells.ensures.told held in (
      t.0,
      t.1,
      t.2,
      t.3,
      record { none = λ short. absurd (omega (arith, short, enough)); asks = λ is. t.4 },
    )
