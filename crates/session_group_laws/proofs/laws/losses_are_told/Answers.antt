use Rattle.std.proofs.Common.{None, Some}
use Rattle.session_group.specs.declared.event.Event.TheVariants as events
use Rattle.session_group_laws.proofs.Told.{none_left, same_left}
use Rattle.session_group_laws.proofs.laws.losses_are_told.Goals as goal

pub returns-clause-loss : goal.returns-clause-loss
returns-clause-loss c p t x x' calls tells = none_left p t x x' calls tells

pub returns-clause-failure : goal.returns-clause-failure
returns-clause-failure c p t x x' calls tells =
    same_left p t x x' (Some events.Fails) calls tells (λ e. cc) (λ e. cc)

pub returns-clause-silence : goal.returns-clause-silence
returns-clause-silence c p t x x' calls tells =
    same_left p t x x' None calls tells (λ e. cc) (λ e. cc)
