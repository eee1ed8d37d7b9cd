use Rattle.std.proofs.Common.{ap, arith, Some, ◌∙◌, ◌≡◌, ◌+◌, ◌-◌, ◌^◌, min}
use Rattle.std.proofs.lemmas.Grind.{common_steps}
use Rattle.std.specs.BTreeMap.{get}
use Rattle.std.specs.BTreeMap.Entry.{map_with_value}
use Rattle.std.specs.Option.{unwrap_or}
use Rattle.std.specs.Ordering.{nat_cmp}
use Rattle.list_summary.specs.PrivateTallies.{as_count, one_more}
use Rattle.list_summary.proofs.Tallies.{counted_once}
use Rattle.list_summary.proofs.as_counts.raise.Goals as goal

pub returns-in-Ok : goal.returns-in-Ok
returns-in-Ok c = λ yes k.
    let before = c.or_insert-count.result.now in
    let after = c.saturating_add.result in
    let had = c.or_insert-count.ensures.value ∙ ap (λ o. unwrap_or o 0) c.in-Ok.ensures.value in
    let more : after ≡ min (before + 1) (2 ^ 64 - 1) = omega (arith, c.saturating_add.ensures) in
    let once : as_count (map_with_value c.in-Ok.entry after) k
    ≡ one_more (Some c.args.asn) (as_count c.args.counts.now) k =
    counted_once c.args.asn k before after (get nat_cmp c.args.counts.now c.args.asn)
    (get nat_cmp c.args.counts.now k) _ ((c.in-Ok.ensures.update.0 after).0 k) had more in
    grind (arith, common_steps, once)
