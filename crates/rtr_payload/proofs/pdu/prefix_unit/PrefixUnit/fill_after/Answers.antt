use Rattle.std.proofs.Common.{◌∙◌}
use Rattle.rtr_units.specs.Reading.{by_bytes}
use Rattle.rtr_units.specs.HeaderBytes.{header_bytes}
use Rattle.rtr_payload.proofs.Reading.{prefix_after, prefix_has_fields}
use Rattle.rtr_payload.proofs.pdu.prefix_unit.PrefixUnit.fill_after.Goals as goal

pub returns-clause-bytes : goal.returns-clause-bytes
returns-clause-bytes g c =
    let unit = c.read_rest.new.self in
    let bytes = g.Self.Unit.bytes unit in
    let (same, fields) = g.met.Self.PrefixUnit.told unit in
    let (kind, size) = g.met.Self.PrefixUnit.typed in
    rw same
    (prefix_after _ (g.Self.PrefixUnit.unit unit) bytes _ same fields size
    (header_bytes c.args.header) (c.requires ∙ kind) (by_bytes (λ x. bytes) c.read_rest.result) _ _
    c.read_rest.ensures.bytes)

pub returns-clause-fields : goal.returns-clause-fields
returns-clause-fields g c =
    let unit = c.read_rest.new.self in
    let (same, fields) = g.met.Self.PrefixUnit.told unit in
    let (kind, size) = g.met.Self.PrefixUnit.typed in
    prefix_has_fields _ (g.Self.PrefixUnit.unit unit) (g.Self.Unit.bytes unit) _ same fields size
    (header_bytes c.args.header) (c.requires ∙ kind) c.read_rest.result _ _
    c.read_rest.ensures.bytes
