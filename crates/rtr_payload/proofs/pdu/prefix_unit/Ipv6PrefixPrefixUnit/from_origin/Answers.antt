use Rattle.std.proofs.Common.{sym, ap, ◌∙◌, rules}
use Rattle.rtr_units.specs.FixedUnits.{fixed_bytes}
use Rattle.rtr_units.specs.PrefixUnits.{prefix_at}
use Rattle.rtr_payload.specs.UnitFields.{prefix_unit}
use Rattle.rtr_payload.specs.Meanings.{origin_of}
use Rattle.rtr_payload.proofs.FieldsRead.{form_fields, IsOrigin-of}
use Rattle.rtr_payload.proofs.pdu.prefix_unit.Ipv6PrefixPrefixUnit.from_origin.Goals as goal

pub returns-clause-fields : goal.returns-clause-fields
returns-clause-fields c =
    let a = c.args in
    let unit = fixed_bytes c.from_bits.result in
    ap (λ f. (prefix_unit (prefix_at f unit))) (sym c.requires)
    ∙ form_fields unit a.version a.flags (origin_of a.origin)
    (IsOrigin-of a.origin c.prefix_len-len.ensures.valid c.into_u32.ensures.range)
    (search rules)
