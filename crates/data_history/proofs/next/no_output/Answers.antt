use Rattle.std.proofs.Common.{Err, arith, length, subst, sym}
use Rattle.data_history.specs.Next.{Advances, IsFlawIn, IsShortForNewer}
use Rattle.data_history.proofs.next.no_output.Goals as goal

pub returns-clause-rooms : goal.returns-clause-rooms
returns-clause-rooms c = λ buffer most have few le.
    subst (λ r. IsShortForNewer (Err r) buffer most have (length c.args.output.now))
    (sym c.no_room.ensures) (
      c.wanted_of-wanted.ensures.more few,
      omega (arith, c.wanted_of-wanted.ensures.most, le),
    )

pub returns-clause-advances : goal.returns-clause-advances
returns-clause-advances c = λ since most z x ys before after.
    subst (λ r. Advances since most (Err r) z x ys before after) (sym c.no_room.ensures) tt

pub returns-clause-no_flaw : goal.returns-clause-no_flaw
returns-clause-no_flaw c = λ b. subst (IsFlawIn b) (sym c.no_room.ensures) tt
