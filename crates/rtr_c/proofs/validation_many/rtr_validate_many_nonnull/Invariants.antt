use Rattle.std.proofs.Common.{◌≡◌}
use Rattle.rtr_c.proofs.ManyTold.{SoFar}
use Rattle.rtr_c.proofs.validation_many.rtr_validate_many_nonnull.Given as goal

abbrev pub invariant-loop-index : goal.invariant-loop-index
invariant-loop-index l =
    (l.pass.bytes.now ≡ l.data) × (l.pass.tables.now ≡ l.lookup.tables)
    × SoFar l.is_checked l.data l.lookup.tables l.routes l.fn.validities l.validities l.index
