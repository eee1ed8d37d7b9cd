use Rattle.std.proofs.Common.{Some, None}
use Rattle.rtr_c.specs.Routes.{route_prefix}
use Rattle.rtr_c.proofs.Routes.{is_said, shows_one, tells_covering}
use Rattle.rtr_c.proofs.validation.checked_covering.Goals as goal

pub returns-in-Some-first_covering : goal.returns-in-Some-first_covering
returns-in-Some-first_covering c =
    let r = c.in-Some.route in
    let prefix = route_prefix c.args.route.now in
    let asn = c.args.route.now.asn in
    let s = c.show_one in
    let out = s.new.covering in
    let found = c.in-Some-first_covering.found in
    tells_covering prefix c.args.«data».now c.args.tables.now asn c.args.from out s.result
    r (Some found) (is_said prefix asn r c.route_of.result c.route_of.ensures c.in-Some.is)
    (shows_one found r.prefix r.asn c.shown.result out s.result c.shown.ensures s.ensures)
    c.in-Some-first_covering.ensures.least c.in-Some-first_covering.ensures.first

pub returns-in-None : goal.returns-in-None
returns-in-None c =
    let r = c.in-Some.route in
    let prefix = route_prefix c.args.route.now in
    let asn = c.args.route.now.asn in
    let s = c.show_none-in-None in
    let out = s.new.covering in
    tells_covering prefix c.args.«data».now c.args.tables.now asn c.args.from out s.result
    r None (is_said prefix asn r c.route_of.result c.route_of.ensures c.in-Some.is) s.ensures
    c.in-None.ensures.least c.in-None.ensures.first
