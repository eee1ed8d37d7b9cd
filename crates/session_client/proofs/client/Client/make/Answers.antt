use native.Mathlib.Omega.{arith}
use Rattle.std.proofs.Common.{◌≡◌, ◌+◌, ◌≤◌, drop, take, length, ap, subst, ◌∙◌}
use Rattle.std.proofs.lemmas.List.{length-take-le}
use Rattle.session_client.specs.Holding.{base_room}
use Rattle.session_client.specs.Makings.{onto}
use Rattle.data_slices.specs.InOrder.{AppliesInOrder}
use Rattle.session_client.proofs.Made.{was_made}
use Rattle.session_client.proofs.Room.{base_short, end_short}
use Rattle.session_client.proofs.Places.{last_of}
use Rattle.session_client.proofs.client.Client.make.Goals as goal

pub returns-clause-enough : goal.returns-clause-enough
returns-clause-enough c = λ room.
    let s = c.args.self.now in
    let input = c.args.input.now in
    let base = c.base.result.now in
    let answer = c.split_at.result.0.now in
    let end = c.split_at-2.result.1.now in
    let all : length answer ≡ s.kept + c.args.size =
    ap length c.split_at.ensures.front ∙ length-take-le (s.kept + c.args.size) input
    c.requires.within in
    let part : length end ≤ c.args.size =
    end_short answer end s.kept c.args.size c.split_at-2.ensures.back all in
    let short : length base ≤ base_room c.args.since s.shown c.args.size =
    base_short base c.args.held.now end c.args.since s.shown c.args.size part c.base.ensures in
    c.changes_as_they_came.ensures.fits c.apply_in_order.result (length c.args.index.now) base
    answer
    c.args.made.now c.apply_in_order.new.output c.apply_in_order.ensures
    (omega (arith, room, all, short))

pub returns-clause-applies : goal.returns-clause-applies
returns-clause-applies c =
    let s = c.args.self.now in
    let input = c.args.input.now in
    let size = c.args.size in
    let end_is : c.split_at-2.result.1.now ≡ take size (drop s.kept input) =
    c.split_at-2.ensures.back ∙ ap (drop s.kept) c.split_at.ensures.front
    ∙ last_of input s.kept size in
    let base_is = c.base.ensures ∙ ap (onto c.args.since s.shown c.args.held.now) end_is in
    subst (λ a. AppliesInOrder c.apply_in_order.result
    (onto c.args.since s.shown c.args.held.now (take size (drop s.kept input))) a
    (length c.args.index.now) c.args.made.now c.apply_in_order.new.output)
    c.split_at.ensures.front
    (subst (λ b. AppliesInOrder c.apply_in_order.result b c.split_at.result.0.now
    (length c.args.index.now) c.args.made.now c.apply_in_order.new.output) base_is
    c.apply_in_order.ensures)

pub returns-clause-made : goal.returns-clause-made
returns-clause-made c =
    let s = c.args.self.now in
    let input = c.args.input.now in
    let size = c.args.size in
    let end_is : c.split_at-2.result.1.now ≡ take size (drop s.kept input) =
    c.split_at-2.ensures.back ∙ ap (drop s.kept) c.split_at.ensures.front
    ∙ last_of input s.kept size in
    was_made c.apply_in_order.result c.base.result.now c.split_at.result.0.now
    (onto c.args.since s.shown c.args.held.now (take size (drop s.kept input)))
    (take (s.kept + size) input) (length c.args.index.now) c.args.made.now
    c.apply_in_order.new.output
    (c.base.ensures ∙ ap (onto c.args.since s.shown c.args.held.now) end_is)
    c.split_at.ensures.front c.apply_in_order.ensures
