use Rattle.std.proofs.Common.{rules}
use Rattle.text_lines.proofs.AddressTexts.{mapped_text, plain_text}
use Rattle.text_lines.proofs.Laid.{lays_both, lays_said}
use Rattle.text_lines.proofs.addresses.shown.Goals as goal

pub returns-then-not-is_mapped : goal.returns-then-not-is_mapped
returns-then-not-is_mapped c =
    lays_said _ _ _ _ _ _ (plain_text _ (search rules)) c.compressed.ensures

pub returns : goal.returns
returns c =
    lays_said _ _ _ _ _ _
    (mapped_text c.args.segments.now c.octets.result c.requires c.octets.ensures (search rules))
    (lays_both _ _ _ _ _ _ _ _ c.text-at.ensures c.dotted.ensures)
