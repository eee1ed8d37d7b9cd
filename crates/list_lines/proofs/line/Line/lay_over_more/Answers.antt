use Rattle.std.proofs.Common.{◌≡◌, ◌+◌, ◌-◌, ◌≤◌, ◌^◌, ◌++◌, ◌∙◌, ap, arith, drop, length}
use Rattle.std.proofs.Common.{replicate, rules, take}
use Rattle.std.proofs.lemmas.List.{length-take, take_at}
use Rattle.list_lines.proofs.Pieces.{front_stays, laid_after, lays_keeps, lays_stop}
use Rattle.list_lines.proofs.line.Line.lay_over_more.Goals as goal

pub invariant_of-self-2 : goal.invariant_of-self-2
invariant_of-self-2 g c =
    let is : c.in-Some.size ≡ c.args.end + 512 = search rules in
    let long : length c.as_mut_slice.result.now ≡ c.in-Some.size = search rules in
    let most : length c.as_mut_slice.result.now ≤ 2 ^ 64 - 1 = search rules in
    let view : take c.self.inside.len c.self.inside.room.items ≡ c.args.self.now = search rules in
    let start : length c.args.self.now ≡ c.self.inside.len =
    omega (
      arith,
      ap length view,
      c.self.invariant,
      length-take c.self.inside.len c.self.inside.room.items,
    ) in
    let stops = lays_stop _ _ _ _ _ c.lay-self-inside.ensures in
    let same = lays_keeps _ _ _ _ _ c.lay-self-inside.ensures most in
    let kept =
    take_at c.lay-self-inside.new.output
    (drop (length c.lay-self-inside.new.output) c.resize.new.self.items) c.resize.new.self.len
    (same ∙ c.as_mut_slice.ensures.len) in
    omega (arith, is, long, c.requires, start, stops, same, ap length kept)

pub returns : goal.returns
returns g c =
    let is : c.in-Some.size ≡ c.args.end + 512 = search rules in
    let made : c.as_mut_slice.result.now ≡
    take c.in-Some.size c.self.inside.room.items
    ++ replicate (c.in-Some.size - length c.self.inside.room.items) 0 = search rules in
    let long : length c.as_mut_slice.result.now ≡ c.in-Some.size = search rules in
    let most : length c.as_mut_slice.result.now ≤ 2 ^ 64 - 1 = search rules in
    let view : take c.self.inside.len c.self.inside.room.items ≡ c.args.self.now = search rules in
    let start : length c.args.self.now ≡ c.self.inside.len =
    omega (
      arith,
      ap length view,
      c.self.invariant,
      length-take c.self.inside.len c.self.inside.room.items,
    ) in
    let stops = lays_stop _ _ _ _ _ c.lay-self-inside.ensures in
    let same = lays_keeps _ _ _ _ _ c.lay-self-inside.ensures most in
    ap (take c.lay-self-inside.result)
    (take_at c.lay-self-inside.new.output _ _ (same ∙ c.as_mut_slice.ensures.len))
    ∙ laid_after _ _ _ _ c.self.inside.len _
    (ap (take c.self.inside.len) made
    ∙ front_stays c.self.inside.len c.in-Some.size _ c.self.inside.room.items
    (omega (arith, is, c.requires, start, c.self.ranges)) c.self.invariant
    ∙ view)
    c.lay-self-inside.ensures (omega (arith, long, is, stops, c.requires, start)) most
