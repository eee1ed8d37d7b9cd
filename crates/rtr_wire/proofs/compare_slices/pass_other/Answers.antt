use Rattle.std.proofs.Common.{List, ℕ, ◌++◌, take, sym, ap, ◌∙◌}
use Rattle.std.proofs.lemmas.List.{take-append-drop}
use Rattle.rtr_wire.proofs.Fronts.{same_front, differs, right_refused}
use Rattle.rtr_wire.proofs.compare_slices.pass_other.Goals as goal

pub returns-in-Err-clause-different : goal.returns-in-Err-clause-different
returns-in-Err-clause-different c none =
    right_refused c.in-Err.field-0 c.args.left.now c.args.right.now c.in-Err.ensures.fault

pub returns-then-not-same_view-clause-different : goal.returns-then-not-same_view-clause-different
returns-then-not-same_view-clause-different c none =
    let l = c.args.left.now in
    let r = c.args.right.now in
    let n = c.args.size in
    let k = c.in-Ok.second.1 in
    differs c.args.first.now c.in-Ok.second.0 (take n l) (take k r) l r _ _
    c.requires.view c.in-Ok.ensures.view (sym (take-append-drop n l))
    (sym (take-append-drop k r)) (λ equal. let yes = c.same_view.ensures.1 equal in absurd cc)

pub returns-clause-same : goal.returns-clause-same
returns-clause-same c =
    let l = c.args.left.now in
    let r = c.args.right.now in
    let n = c.args.size in
    let k = c.in-Ok.second.1 in
    let parts =
    sym (ap (λ (t : List ℕ). take n l ++ t) c.split_at.ensures.back ∙ take-append-drop n l) in
    let others =
    sym (ap (λ (t : List ℕ). take k r ++ t) c.split_at-2.ensures.back ∙ take-append-drop k r) in
    rw c.is_unit.ensures
    (same_front c.args.first.now c.in-Ok.second.0 (take n l) (take k r) l r
    c.split_at.result.1.now c.split_at-2.result.1.now c.requires.view
    c.in-Ok.ensures.view parts others
    (c.same_view.ensures.0 c.if-not-same_view.false))
