use Rattle.std.proofs.Common.{refl}
use Rattle.rtr_base.specs.Addresses.{family_of}
use Rattle.data_validation.proofs.Following.{route_kept}
use Rattle.data_validation.proofs.trail.Trail.validity.Goals as goal

pub returns-then-goes_on-clause-says : goal.returns-then-goes_on-clause-says
returns-then-goes_on-clause-says c = λ least table.
    c.answer.ensures (λ i k v.
    route_kept (family_of c.args.is_v4) c.args.units.now c.args.total c.args.least c.args.address
    c.args.len c.goes_on.new.self c.requires.len c.goes_on.ensures.trail
    (c.if-goes_on.ensures.follows refl) (table.sorted, least) i k v)
