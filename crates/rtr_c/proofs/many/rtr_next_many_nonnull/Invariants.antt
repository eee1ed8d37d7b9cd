use Rattle.std.proofs.Common.{◌≡◌, ◌≤◌, length}
use Rattle.rtr_c.proofs.Filling.{From}
use Rattle.rtr_c.proofs.many.rtr_next_many_nonnull.Given as goal

abbrev pub invariant-loop-unit : goal.invariant-loop-unit
invariant-loop-unit l = (l.count ≡ l.unit-index) × (l.taken ≤ length l.input)
    × From l.input l.fn.units l.units l.unit-index l.count l.taken
