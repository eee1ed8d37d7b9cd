use Rattle.session_client.proofs.Places.{moved}
use Rattle.std.proofs.Common.{subst, sym, take, drop, ◌≡◌, ◌-◌}
use Rattle.session_client.proofs.client.take_out.Goals as goal

pub returns-clause-rest : goal.returns-clause-rest
returns-clause-rest c =
    subst
    (λ new. take (c.args.filled - c.args.to) (drop c.args.from new) ≡ drop c.args.to (take
    c.args.filled c.args.input.now))
    (sym c.copy_within.ensures.after)
    (moved c.args.input.now c.args.from c.args.to c.args.filled c.requires.order c.requires.some
    c.requires.within)
