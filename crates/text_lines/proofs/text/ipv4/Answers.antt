use Rattle.std.proofs.Common.{◌++◌, codes, decimal, rules}
use Rattle.rtr_base.specs.Addresses.{v4}
use Rattle.rtr_base.specs.PlainTexts.{address_text, asn_text}
use Rattle.rtr_units.specs.FixedUnits.{fixed_bytes}
use Rattle.rtr_units.specs.PrefixUnits.{prefix_at}
use Rattle.text_lines.proofs.Laid.{lays_both, lays_origin, lays_said}
use Rattle.text_lines.proofs.text.ipv4.Goals as goal

pub returns : goal.returns
returns c =
    let o = (prefix_at v4 (fixed_bytes c.args.unit.now)).origin in
    lays_origin _ _ _ _ _ _ _ _ _ _ _ _ _
    (lays_both _ _ _ _ _ _ _ _ c.text-at.ensures
    (lays_said _ (address_text v4 o.address) _ _ _ _ (search rules) c.ipv4-at.ensures))
    (lays_said _
    (codes "/" ++ decimal o.prefix_len ++ codes "-" ++ decimal o.max_len ++ codes " "
    ++ asn_text o.asn)
    _ _ _ _ (search rules) c.origin.ensures)
