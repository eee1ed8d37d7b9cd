use Rattle.std.proofs.Common.{◌≡◌, ◌-◌, ◌<◌, ◌≤◌, ◌^◌, ◌++◌, ◌∙◌, ap, arith, drop, length}
use Rattle.std.proofs.Common.{rules, subst, sym, take, OnOk}
use Rattle.std.proofs.lemmas.List.{length-take, take_at}
use Rattle.text_lines.specs.Laying.{text_end}
use Rattle.list_lines.proofs.Pieces.{front_kept, laid_after, lays_keeps, lays_stop}
use Rattle.list_lines.proofs.line.Line.lay.Goals as goal

pub returns-then-end-len : goal.returns-then-end-len
returns-then-end-len g c =
    let made : c.as_mut_slice.result.now ≡ c.self.inside.room.items = search rules in
    let most : length c.as_mut_slice.result.now ≤ 2 ^ 64 - 1 = search rules in
    let view : take c.self.inside.len c.self.inside.room.items ≡ c.args.self.now = search rules in
    let less : c.lay-end.result < length c.lay-end.new.output = search rules in
    let same = lays_keeps _ _ _ _ _ c.lay-end.ensures most in
    ap (take c.lay-end.result)
    (take_at c.lay-end.new.output _ _ (same ∙ c.as_mut_slice.ensures.len))
    ∙ laid_after _ _ _ _ c.self.inside.len _ (ap (take c.self.inside.len) made ∙ view)
    c.lay-end.ensures (omega (arith, less, same)) most

pub lay_over_more-requires : goal.lay_over_more-requires
lay_over_more-requires g c =
    let made : c.as_mut_slice.result.now ≡ c.self.inside.room.items = search rules in
    let most : length c.as_mut_slice.result.now ≤ 2 ^ 64 - 1 = search rules in
    let same = lays_keeps _ _ _ _ _ c.lay-end.ensures most in
    let start : c.self.inside.len ≡ length (take c.self.inside.len c.lay-end.new.output) =
    omega (
      arith,
      length-take c.self.inside.len c.lay-end.new.output,
      same,
      ap length made,
      c.self.invariant,
    ) in
    let kept = take_at c.lay-end.new.output
    (drop (length c.lay-end.new.output) c.self.inside.room.items) c.self.inside.room.len
    (same ∙ c.as_mut_slice.ensures.len) in
    lays_stop _ _ _ _ _ c.lay-end.ensures
    ∙ ap (λ n. text_end n (g.T.Laid.text c.args.text.now))
    (start ∙ ap (λ l. length (take c.self.inside.len l)) (sym kept))

pub returns : goal.returns
returns g c =
    let made : c.as_mut_slice.result.now ≡ c.self.inside.room.items = search rules in
    let most : length c.as_mut_slice.result.now ≤ 2 ^ 64 - 1 = search rules in
    let view : take c.self.inside.len c.self.inside.room.items ≡ c.args.self.now = search rules in
    let same = lays_keeps _ _ _ _ _ c.lay-end.ensures most in
    let kept = take_at c.lay-end.new.output
    (drop (length c.lay-end.new.output) c.self.inside.room.items) c.self.inside.room.len
    (same ∙ c.as_mut_slice.ensures.len) in
    let front =
    ap (take c.self.inside.len) kept
    ∙ front_kept _ _ _ c.self.inside.len _ c.lay-end.ensures most
    ∙ ap (take c.self.inside.len) made ∙ view in
    subst
    (λ l. OnOk c.lay_over_more.result
    (c.lay_over_more.new.self ≡ l ++ g.T.Laid.text c.args.text.now)) front c.lay_over_more.ensures
