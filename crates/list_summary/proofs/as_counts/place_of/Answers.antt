use Rattle.std.proofs.Common.{ℕ, ◌≡◌, sym, arith, nat_lt, length, get_or, true}
use Rattle.std.proofs.lemmas.Bool.Decides.{nat_tests}
use Rattle.std.proofs.lemmas.List.Sums.{position_or_len_is}
use Rattle.list_summary.proofs.as_counts.place_of.Goals as goal

pub returns-then-rows-place : goal.returns-then-rows-place
returns-then-rows-place c =
    let first : ℕ × ℕ = (0, 0) in
    let less = c.if-rows-place.true in
    let passes : nat_lt (get_or c.args.rows.now c.loop-place.place first).1 c.args.count ≡ true =
    grind (arith, nat_tests, less) in
    sym (position_or_len_is (λ (r : ℕ × ℕ). nat_lt r.1 c.args.count) c.args.rows.now
    c.loop-place.place first (omega arith) (λ k. c.loop-place.invariant k first) (λ _. passes))

pub returns : goal.returns
returns c =
    sym (position_or_len_is (λ (r : ℕ × ℕ). nat_lt r.1 c.args.count) c.args.rows.now
    (length c.args.rows.now) (0, 0) (omega arith)
    (λ k below. c.loop-place.invariant k (0, 0) (omega arith))
    (λ below. absurd (omega (arith, below))))
