use Rattle.std.proofs.Common.{◌≡◌, drop}
use Rattle.data_history.specs.Seal.{fnv, fnv_from}
use Rattle.data_history.proofs.seal.checksum.Given as goal

abbrev pub invariant-bytes : goal.invariant-bytes
invariant-bytes l = fnv_from l.hash (drop l.byte-index l.bytes) ≡ fnv l.bytes
