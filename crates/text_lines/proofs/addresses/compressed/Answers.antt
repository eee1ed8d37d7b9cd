use Rattle.std.proofs.Common.{◌+◌, ap, drop, rules}
use Rattle.std.proofs.lemmas.List.{take_rest}
use Rattle.std.specs.Net.Text.{groups_text}
use Rattle.text_lines.proofs.AddressTexts.{plain_groups, run_groups}
use Rattle.text_lines.proofs.Laid.{lays_both, lays_said}
use Rattle.text_lines.proofs.addresses.compressed.Goals as goal

pub returns-then-size-lt2 : goal.returns-then-size-lt2
returns-then-size-lt2 c =
    lays_said _ _ _ _ _ _
    (plain_groups _ c.longest_zero_run-start.result c.longest_zero_run-start.ensures.value
    (search rules))
    c.groups.ensures

pub returns : goal.returns
returns c =
    let run = c.longest_zero_run-start.result in
    let s = c.args.segments.now in
    lays_said _ _ _ _ _ _
    (run_groups _ run c.longest_zero_run-start.ensures.value (search rules))
    (lays_both _ _ _ _ _ _ _ _ (lays_both _ _ _ _ _ _ _ _ c.groups-at.ensures c.text-at.ensures)
    (lays_said _ (groups_text (drop (run.0 + run.1) s)) _ _ _ _
    (ap groups_text (take_rest s (run.0 + run.1))) c.groups-2.ensures))
