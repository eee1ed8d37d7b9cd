use Rattle.std.proofs.Common.{sym, ◌∙◌}
use Rattle.rtr_c.specs.Lookups.{is_sealed}
use Rattle.rtr_c.specs.Routes.{route_prefix}
use Rattle.rtr_c.proofs.Routes.{sealed_validity, unsealed_validity}
use Rattle.rtr_c.proofs.validation.rtr_validate_nonnull.Goals as goal

pub returns-then-not-is_of : goal.returns-then-not-is_of
returns-then-not-is_of c =
    unsealed_validity (is_sealed c.args.«data».now c.args.lookup.now)
    (route_prefix c.args.route.now) c.args.«data».now c.args.lookup.now.tables
    c.args.route.now.asn (sym c.is_of.ensures ∙ c.if-not-is_of.true)

pub returns : goal.returns
returns c =
    sealed_validity (is_sealed c.args.«data».now c.args.lookup.now)
    (route_prefix c.args.route.now) c.args.«data».now c.args.lookup.now.tables
    c.args.route.now.asn c.checked_validity.result
    (sym c.is_of.ensures ∙ c.if-not-is_of.false) c.checked_validity.ensures
