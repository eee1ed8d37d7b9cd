use Rattle.rtr_c.specs.Routes.{route_prefix}
use Rattle.rtr_c.proofs.Routes.{is_said, tells_validity}
use Rattle.rtr_c.proofs.validation.checked_validity.Goals as goal

pub returns-in-Some : goal.returns-in-Some
returns-in-Some c =
    tells_validity (route_prefix c.args.route.now) c.args.«data».now c.args.tables.now
    c.args.route.now.asn c.validity_number.result c.in-Some.route c.validate.result
    (is_said (route_prefix c.args.route.now) c.args.route.now.asn c.in-Some.route
    c.route_of.result c.route_of.ensures c.in-Some.is)
    c.validity_number.ensures c.validate.ensures
