use Rattle.std.proofs.Common.{◌++◌, ◌∙◌, ap, Some, subst}
use Rattle.data_slices.specs.Canonical.{PlacesFront}
use Rattle.data_slices.proofs.Deltas.{joined}
use Rattle.data_history.specs.Parts.{head_bytes, part_form}
use Rattle.data_history.proofs.next.place_history.Goals as goal

pub returns-clause-bytes : goal.returns-clause-bytes
returns-clause-bytes c =
    joined (part_form c.args.now c.args.new.now)
    (part_form c.args.now c.args.step.now ++ c.args.kept.now)
    c.args.output.now c.place.new.output c.place_steps.new.output c.in_ok-first.first
    c.in_ok-rest.rest
    (subst (λ l. PlacesFront (Some c.in_ok-first.first) (l ++ c.args.new.now) c.args.output.now
    c.place.new.output)
    (c.head.ensures ∙ ap (λ n. head_bytes c.args.now n) c.length_of.ensures.length)
    c.in_ok-first.ensures)
    c.in_ok-rest.ensures.bytes
