use Rattle.std.proofs.Common.{◌≡◌, ◌++◌, ap, arith, false, length, take, true}
use Rattle.std.proofs.lemmas.List.{length-drop}
use Rattle.data_slices.proofs.Merging.{rest_is}
use Rattle.rtr_units.specs.End.{end_list}
use Rattle.data_memory.specs.Deltas.{change_forms}
use Rattle.data_slices.proofs.Deltas.{joined}
use Rattle.data_history.proofs.Joining.{written_behind}
use Rattle.data_history.proofs.join.append.Goals as goal

pub returns-in-Some-clause-appends : goal.returns-in-Some-clause-appends
returns-in-Some-clause-appends c = λ cs e h.
    joined (take c.args.size c.args.buffer.now) (change_forms e.version cs ++ end_list e)
    c.args.buffer.now c.args.buffer.now c.copy.new.output c.args.size c.in-Some.more
    (written_behind c.args.buffer.now c.args.size c.requires)
    (c.in-Some.ensures.copies cs e h)

pub returns-in-None-clause-enough : goal.returns-in-None-clause-enough
returns-in-None-clause-enough c = λ cs e h le.
    let some : false ≡ true = c.in-None.ensures.enough cs e h (omega (
      arith,
      le,
      c.requires,
      ap length (rest_is c.args.size c.args.buffer.now),
      length-drop c.args.size c.args.buffer.now,
    )) in
    absurd cc
