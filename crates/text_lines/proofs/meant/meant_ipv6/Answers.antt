use Rattle.std.proofs.Common.{ap, rules, ◌∙◌}
use Rattle.rtr_base.specs.Addresses.{cleared, v6}
use Rattle.rtr_units.specs.PrefixUnits.{PrefixFields, prefix_at}
use Rattle.rtr_payload.specs.UnitFields.{prefix_unit}
use Rattle.rtr_payload.proofs.FieldsRead.{fields_read}
use Rattle.text_lines.proofs.meant.meant_ipv6.Goals as goal

pub returns : goal.returns
returns c =
    let u : PrefixFields = record {
      version = c.version.result;
      session = 0;
      flags = c.flags.result;
      free = 0;
      origin = record {
        family = v6;
        address = c.cleared_ipv6-bits.result;
        prefix_len = c.prefix_len-len.result;
        max_len = c.max_len-max_len.result;
        asn = c.into_u32-asn.result;
      };
    } in
    let address =
    c.cleared_ipv6-bits.ensures
    ∙ (λ i. cleared 128 (c.prefix_len-len.ensures i) (c.prefix_bits.ensures i)) in
    let asn = c.into_u32-asn.ensures.number ∙ c.asn.ensures in
    ap (λ l. prefix_unit (prefix_at v6 l)) c.from_bits.ensures
    ∙ fields_read (prefix_unit u) (search rules)
    ∙ (λ i. prefix_unit (record {
      version = c.version.ensures i;
      session = 0;
      flags = c.flags.ensures i;
      free = 0;
      origin = record {
        family = v6;
        address = address i;
        prefix_len = c.prefix_len-len.ensures i;
        max_len = c.max_len-max_len.ensures i;
        asn = asn i;
      };
    }))
