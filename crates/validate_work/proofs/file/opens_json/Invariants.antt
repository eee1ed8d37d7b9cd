use Rattle.std.proofs.Common.{◌≡◌, drop}
use Rattle.validate_work.specs.Files.{opens_json}
use Rattle.validate_work.proofs.file.opens_json.Given as goal

abbrev pub invariant-loop-byte : goal.invariant-loop-byte
invariant-loop-byte l = opens_json l.fn.text ≡ opens_json (drop l.byte-index l.fn.text)
