use Rattle.rtr_base.specs.Addresses.{family_of}
use Rattle.data_validation.proofs.Following.{stays}
use Rattle.data_validation.proofs.trail.Trail.goes_on.Goals as goal

pub returns-then-not-has_turn-clause-trail : goal.returns-then-not-has_turn-clause-trail
returns-then-not-has_turn-clause-trail c =
    stays (family_of c.args.is_v4) c.args.units.now c.args.total c.args.least
    c.has_turn.new.self.missed c.args.self.now c.has_turn.new.self c.has_turn.ensures
    c.requires.trail

pub follow-requires-clause-trail : goal.follow-requires-clause-trail
follow-requires-clause-trail c =
    stays (family_of c.args.is_v4) c.args.units.now c.args.total c.args.least
    c.has_turn.new.self.missed c.args.self.now c.has_turn.new.self c.has_turn.ensures
    c.requires.trail
