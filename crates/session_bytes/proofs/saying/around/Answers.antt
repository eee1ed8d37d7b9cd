use Rattle.std.proofs.Common.{arith}
use Rattle.text_lines.proofs.Laid.{lays_both}
use Rattle.session_bytes.proofs.ShortTexts.{around_byte}
use Rattle.session_bytes.proofs.saying.around.Goals as goal

pub returns-clause-laid : goal.returns-clause-laid
returns-clause-laid c = lays_both _ _ _ _ _ _ _ _ c.labelled-at.ensures c.text.ensures

pub returns-clause-short : goal.returns-clause-short
returns-clause-short c = around_byte _ _ _ (omega (arith, c.ranges.number.fits))
