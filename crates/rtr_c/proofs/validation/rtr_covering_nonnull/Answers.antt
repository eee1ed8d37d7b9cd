use Rattle.std.proofs.Common.{sym, ◌∙◌}
use Rattle.rtr_c.specs.Lookups.{is_sealed}
use Rattle.rtr_c.specs.Routes.{route_prefix}
use Rattle.rtr_c.proofs.Routes.{sealed_covering, unsealed_covering}
use Rattle.rtr_c.proofs.validation.rtr_covering_nonnull.Goals as goal

pub returns-then-not-is_of : goal.returns-then-not-is_of
returns-then-not-is_of c =
    unsealed_covering (is_sealed c.args.«data».now c.args.lookup.now)
    (route_prefix c.args.route.now) c.args.«data».now c.args.lookup.now.tables
    c.args.route.now.asn c.args.from c.show_none.new.covering c.show_none.result
    (sym c.is_of.ensures ∙ c.if-not-is_of.true) c.show_none.ensures

pub returns : goal.returns
returns c =
    sealed_covering (is_sealed c.args.«data».now c.args.lookup.now)
    (route_prefix c.args.route.now) c.args.«data».now c.args.lookup.now.tables
    c.args.route.now.asn c.args.from c.checked_covering.new.covering c.checked_covering.result
    (sym c.is_of.ensures ∙ c.if-not-is_of.false) c.checked_covering.ensures
