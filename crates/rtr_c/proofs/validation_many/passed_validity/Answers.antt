use Rattle.rtr_c.specs.Routes.{route_prefix}
use Rattle.rtr_c.proofs.Routes.{is_said, sealed_validity, tells_validity}
use Rattle.rtr_c.proofs.validation_many.passed_validity.Goals as goal

pub returns-in-Some-clause-says : goal.returns-in-Some-clause-says
returns-in-Some-clause-says c =
    let said = route_prefix c.args.route.now in
    let input = c.args.pass.now.bytes.now in
    let t = c.args.pass.now.tables.now in
    let asn = c.args.route.now.asn in
    let code = c.validity_number.result in
    sealed_validity c.args.is_checked said input t asn code c.if-not-is_checked.false
    (tells_validity said input t asn code c.in-Some.route c.validity.result
    (is_said said asn c.in-Some.route c.route_of.result c.route_of.ensures c.in-Some.is)
    c.validity_number.ensures c.validity.ensures.says)
