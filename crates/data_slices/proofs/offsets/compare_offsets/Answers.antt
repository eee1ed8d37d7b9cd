use Rattle.std.proofs.Common.{sym, ◌∙◌}
use Rattle.std.specs.Option.{option_cmp}
use Rattle.std.specs.Ordering.{ordering_then}
use Rattle.data_slices.specs.PrivateOffsets.{meaning_cmp}
use Rattle.data_slices.proofs.UnitsAt.{read_as}
use Rattle.data_slices.proofs.offsets.compare_offsets.Goals as goal

pub returns : goal.returns
returns c = λ at reads.
    let r = c.args.input.now in
    let x = c.args.left in
    let y = c.args.right in
    let s = read_as r x _ (at x) c.unit_at.ensures (reads x) in
    let t = read_as r y _ (at y) c.unit_at-2.ensures (reads y) in
    c.then.ensures
    ∙ (λ i. ordering_then
    ((c.compare_views-names.ensures ∙ (λ j. option_cmp meaning_cmp (sym s j) (sym t j))) i)
    (c.cmp.ensures i))
