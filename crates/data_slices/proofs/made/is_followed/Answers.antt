use Rattle.std.proofs.Common.{sym, ap, ◌∙◌}
use Rattle.data_memory.specs.Sequences.{change_of}
use Rattle.data_slices.specs.Items.{meant}
use Rattle.data_slices.specs.PrivateMade.{starts_same}
use Rattle.data_slices.specs.PrivateOffsets.{same_name}
use Rattle.data_slices.proofs.Going.{taken}
use Rattle.data_slices.proofs.made.is_followed.Goals as goal

pub returns-in-Some : goal.returns-in-Some
returns-in-Some c = λ v cs h.
    let f = c.in-Some in
    let m = change_of (meant c.args.view.now) in
    let t = taken c.args.input.now c.args.offsets.now f.field-0-0 f.later f.field-0-2.now v cs
    f.ensures.0 f.ensures.1 h in
    c.same_name.ensures ∙ ap (same_name m) t.is ∙ sym (ap (starts_same m) t.parts)
