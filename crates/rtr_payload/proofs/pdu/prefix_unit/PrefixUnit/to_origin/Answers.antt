use Rattle.std.proofs.Common.{◌≡◌, ◌+◌, take, drop, sym, ap, subst, ◌∙◌}
use Rattle.std.proofs.lemmas.List.{take_rest}
use Rattle.rtr_base.specs.Bytes.{value}
use Rattle.rtr_units.specs.PrefixUnits.{address_bytes, prefix_at}
use Rattle.rtr_payload.specs.UnitFields.{prefix_unit}
use Rattle.rtr_payload.specs.UnitBytes.{MeansPayload}
use Rattle.rtr_payload.specs.declared.payload.Payload.TheVariants.{Origin}
use Rattle.rtr_payload.proofs.Origins.{asn_place, origin_means}
use Rattle.rtr_payload.proofs.pdu.prefix_unit.PrefixUnit.to_origin.Goals as goal

pub returns-in-Ok-clause-ok : goal.returns-in-Ok-clause-ok
returns-in-Ok-clause-ok g c =
    let family = g.Self.PrefixUnit.family in
    let unit = g.Self.PrefixUnit.unit c.args.self.now in
    let b = c.as_ref-bytes.result.now in
    let (same, fields) = g.met.Self.PrefixUnit.told c.args.self.now in
    let (kind, size) = g.met.Self.PrefixUnit.typed in
    let place = asn_place family c.LENGTH.result (c.LENGTH.ensures ∙ size) in
    let asn : c.from_u32-asn.result ≡ value (take 4 (drop (12 + address_bytes family) b)) =
    c.from_u32-asn.ensures ∙ c.u32_at.ensures ∙ ap (λ n. value (take 4 (drop n b))) place in
    let prefix = rw (take_rest b 12) at c.in-Ok.ensures.ok in
    subst (λ action. MeansPayload unit action (Origin c.new.result)) (sym c.from_flags.ensures)
    (origin_means unit family b c.new.result (same ∙ sym c.as_ref-bytes.ensures.bytes)
    (fields ∙ ap (λ l. prefix_unit (prefix_at family l)) (sym c.as_ref-bytes.ensures.bytes))
    (c.new.ensures ∙ (λ i. record { prefix = prefix i; asn = asn i }))
    c.in-Ok.ensures.kept)

pub returns-in-Ok-clause-err : goal.returns-in-Ok-clause-err
returns-in-Ok-clause-err g c = tt

pub returns-in-Err-clause-ok : goal.returns-in-Err-clause-ok
returns-in-Err-clause-ok g c = tt

pub returns-in-Err-clause-family : goal.returns-in-Err-clause-family
returns-in-Err-clause-family g c = tt
