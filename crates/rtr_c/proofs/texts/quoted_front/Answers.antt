use Rattle.std.proofs.Common.{rules, sym}
use Rattle.std.proofs.lemmas.List.{length-take-le, take_all}
use Rattle.rtr_c.proofs.texts.quoted_front.Goals as goal

pub slice_bounds-result-end : goal.slice_bounds-result-end
slice_bounds-result-end c = sym (length-take-le 100 c.args.text.now (search rules))

pub returns-then-text-le-MOST_QUOTED : goal.returns-then-text-le-MOST_QUOTED
returns-then-text-le-MOST_QUOTED c = sym (take_all 100 c.args.text.now (search rules))
