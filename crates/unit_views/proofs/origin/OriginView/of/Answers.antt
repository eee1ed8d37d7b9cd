use Rattle.std.proofs.Common.{◌≡◌, ◌+◌, take, drop, refl, ap, ◌∙◌}
use Rattle.std.proofs.lemmas.List.{take_rest}
use Rattle.rtr_base.specs.Bytes.{value}
use Rattle.rtr_units.specs.PrefixUnits.{address_bytes, prefix_at}
use Rattle.rtr_payload.specs.UnitFields.{prefix_unit}
use Rattle.rtr_payload.proofs.Origins.{asn_place}
use Rattle.rtr_payload.proofs.Rests.{agree_from}
use Rattle.rtr_payload.specs.declared.payload.RouteOrigin.{RouteOrigin}
use Rattle.unit_views.proofs.origin.OriginView.of.Goals as goal

pub returns-in-Ok-clause-view : goal.returns-in-Ok-clause-view
returns-in-Ok-clause-view g c =
    let family = g.U.PrefixUnit.family in
    let b = c.args.unit.now in
    let (kind, size) = g.met.U.PrefixUnit.typed in
    let place = asn_place family c.LENGTH.result (c.LENGTH.ensures ∙ size) in
    let asn : c.from_u32-asn.result ≡ value (take 4 (drop (12 + address_bytes family) b)) =
    c.from_u32-asn.ensures ∙ c.u32_at.ensures ∙ ap (λ n. value (take 4 (drop n b))) place in
    let prefix = rw (take_rest b 12) at c.in-Ok.ensures.ok in
    let origin = c.new.ensures ∙ (λ i. record { prefix = prefix i; asn = asn i }) in (
      refl,
      refl,
      ap (λ (o : RouteOrigin). o.prefix.prefix) origin,
      ap (λ (o : RouteOrigin). o.prefix.max_len) origin,
      ap (λ (o : RouteOrigin). o.asn) origin,
    )

pub returns-in-Err-clause-rule : goal.returns-in-Err-clause-rule
returns-in-Err-clause-rule g c = c.in-Err.ensures.broken

pub returns-in-Ok-clause-lengths : goal.returns-in-Ok-clause-lengths
returns-in-Ok-clause-lengths g c =
    agree_from (prefix_unit (prefix_at g.U.PrefixUnit.family c.args.unit.now)) c.in-Ok.ensures.kept
