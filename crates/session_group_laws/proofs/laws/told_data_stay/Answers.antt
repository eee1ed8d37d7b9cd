use Rattle.std.proofs.Common.{None, Some}
use Rattle.session_group.specs.declared.event.Event.TheVariants as events
use Rattle.session_cache.proofs.ExampleWorlds.{settings}
use Rattle.session_group_laws.proofs.Unchanged.{data_stay}
use Rattle.session_group_laws.proofs.laws.told_data_stay.Goals as goal

pub returns-clause-failure : goal.returns-clause-failure
returns-clause-failure c p t x x' d calls tells has =
    data_stay settings p t x x' (Some events.Fails) d calls tells (λ e. cc) (λ e. cc) has

pub returns-clause-silence : goal.returns-clause-silence
returns-clause-silence c p t x x' d calls tells has =
    data_stay settings p t x x' None d calls tells (λ e. cc) (λ e. cc) has
