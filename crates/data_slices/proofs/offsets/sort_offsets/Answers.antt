use Rattle.std.proofs.Common.{ap, rules}
use Rattle.std.proofs.lemmas.Fn.{always_returns_same}
use Rattle.std.specs.Ordering.{is_lt}
use Rattle.data_slices.specs.PrivateOffsets.{ComparesOffsets, offset_cmp}
use Rattle.data_slices.proofs.UnitsAt.{places_ranked}
use Rattle.data_slices.proofs.offsets.sort_offsets.Goals as goal

pub returns-clause-sorted : goal.returns-clause-sorted
returns-clause-sorted c = λ at reads.
    c.sort_unstable_by.ensures.sorted (λ x y. is_lt (offset_cmp at x y)) (places_ranked at)
    (always_returns_same _ _ _ (λ a r f' k.
    let h : ComparesOffsets c.args.input.now a.0.now a.1.0.now r = search rules in
    (ap is_lt (h at reads), search rules)))
