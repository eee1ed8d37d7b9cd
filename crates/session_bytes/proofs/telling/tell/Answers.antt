use Rattle.std.proofs.Common.{subst}
use Rattle.session_bytes.specs.PrivateReading.{Comes}
use Rattle.session_bytes.proofs.Units.{acts_first, keeps_first}
use Rattle.session_bytes.proofs.telling.tell.Goals as goal

pub returns-in-Keep : goal.returns-in-Keep
returns-in-Keep c =
    let comes = subst
    (λ a. Comes c.args.router.now c.args.now c.args.input.now a c.in-Ok.size c.came.new.router)
    c.in-Keep.is c.in-Ok.ensures.unit in
    c.tell_on.ensures c.args.router.now c.args.ended
    (keeps_first c.args.now c.args.router.now c.args.input.now c.in-Ok.size c.came.new.router
    comes)

pub returns-in_default : goal.returns-in_default
returns-in_default c =
    acts_first c.args.now c.args.router.now c.came.new.router c.args.input.now c.in-Ok.action
    c.in-Ok.size c.in-Ok.ensures.unit c.in_default.not-Keep
