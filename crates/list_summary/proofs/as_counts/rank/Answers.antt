use Rattle.std.proofs.Common.{◌≡◌, ℕ, ◌≤◌, List, sym, ap, ◌∙◌, subst, nat_lt, take}
use Rattle.std.proofs.Common.{arith, not}
use Rattle.std.proofs.lemmas.List.Sums.{prefix_len-le-length}
use Rattle.std.specs.List.{insert, position_or_len}
use Rattle.std.specs.Vec.{vec_len}
use Rattle.list_summary.specs.Summaries.{ranked}
use Rattle.list_summary.proofs.Rankings.{placed, put_after}
use Rattle.list_summary.proofs.as_counts.rank.Goals as goal
use Rattle.list_summary.proofs.as_counts.rank.Goals.{then-place-lt-MOST+in_ok-insert}
use Rattle.list_summary.proofs.as_counts.rank.Goals.{else-place-lt-MOST}

pub insert-requires : goal.insert-requires
insert-requires c =
    let below =
    prefix_len-le-length (λ (r : ℕ × ℕ). not (nat_lt r.1 c.args.row.1)) c.as_slice.result.now in
    subst (λ n. n ≤ vec_len c.args.rows.now) (sym c.place_of-place.ensures)
    (subst
    (λ n. position_or_len (λ (r : ℕ × ℕ). nat_lt r.1 c.args.row.1) c.as_slice.result.now ≤ n)
    c.as_slice.ensures.len below)

pub returns : goal.returns
returns c =
    let behind = λ (r : ℕ × ℕ). nat_lt r.1 c.args.row.1 in
    let place =
    c.place_of-place.ensures
    ∙ ap (λ (l : List (ℕ × ℕ)). position_or_len behind l) c.as_slice.ensures.value in
    elim c.if-place-lt-MOST.branch [
      | then-place-lt-MOST+in_ok-insert w ↦
          let put : w.insert.new.self.items ≡ ranked c.args.row c.args.rows.now.items =
          w.in_ok-insert.ensures.items
          ∙ ap (λ k. insert c.args.rows.now.items k c.args.row) place
          ∙ placed c.args.row c.args.rows.now.items in
          c.truncate.ensures.items ∙ ap (λ v. take 10 v.items) w.rows-is ∙ ap (λ l. take 10 l) put
      | else-place-lt-MOST w ↦
          let far : 10 ≤ position_or_len behind c.args.rows.now.items =
          omega (arith, w.if-place-lt-MOST.false, place) in
          c.truncate.ensures.items ∙ ap (λ v. take 10 v.items) w.rows-is
          ∙ put_after 10 c.args.row c.args.rows.now.items far
    ]
