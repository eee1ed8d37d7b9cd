use Rattle.std.proofs.Common.{◌++◌, ◌∷◌, [], codes, rules}
use Rattle.json.specs.Print.{print_from}
use Rattle.json.specs.Token.{end_object}
use Rattle.std.proofs.Common.{true}
use Rattle.rtr_base.specs.Addresses.{v6}
use Rattle.rtr_base.specs.PlainTexts.{address_text}
use Rattle.rtr_units.specs.FixedUnits.{fixed_bytes}
use Rattle.rtr_units.specs.PrefixUnits.{prefix_at}
use Rattle.text_lines.specs.JsonLines.{number_field}
use Rattle.text_lines.proofs.CleanTexts.{address_escape}
use Rattle.text_lines.proofs.JsonPieces.{origin_said}
use Rattle.text_lines.proofs.Laid.{lays_both, lays_said}
use Rattle.text_lines.proofs.object.ipv6_fields.Goals as goal

pub returns : goal.returns
returns c =
    let o = (prefix_at v6 (fixed_bytes c.args.unit.now)).origin in
    lays_said _ _ _ _ _ _
    (origin_said (address_text v6 o.address)
    (number_field (codes "prefix_length") o.prefix_len
    ++ number_field (codes "max_length") o.max_len ++ number_field (codes "asn") o.asn
    ++ end_object ∷ [])
    (address_escape v6 o.address))
    (lays_both _ _ _ _ _ _ _ _ c.text-at.ensures
    (lays_both _ _ _ _ _ _ _ _
    (lays_said _ (address_text v6 o.address) _ _ _ _ (search rules) c.ipv6-at.ensures)
    (lays_said _
    (codes "\"" ++ print_from true (number_field (codes "prefix_length") o.prefix_len
    ++ number_field (codes "max_length") o.max_len ++ number_field (codes "asn") o.asn
    ++ end_object ∷ []))
    _ _ _ _ (search rules) c.origin_fields.ensures)))
