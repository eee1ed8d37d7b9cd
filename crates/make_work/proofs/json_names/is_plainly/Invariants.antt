use Rattle.make_work.proofs.NamesSoFar.{NameSoFar}
use Rattle.make_work.proofs.json_names.is_plainly.Given as goal

abbrev pub invariant-loop-byte : goal.invariant-loop-byte
invariant-loop-byte l = NameSoFar l.fn.known l.fn.name l.byte-index l.left
