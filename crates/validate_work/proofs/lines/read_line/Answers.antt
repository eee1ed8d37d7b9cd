use Rattle.std.proofs.Common.{[], ◌∷◌, ◌++◌, ◌∙◌}
use Rattle.std.proofs.KnownBytes.{Consumes-trans}
use Rattle.validate_work.proofs.lines.read_line.Goals as goal

pub returns-in-Err-byte : goal.returns-in-Err-byte
returns-in-Err-byte g c =
    let read = rw c.in-Ok-Some.field-0-is at c.in-Ok-Some.ensures in (
      (
        c.bytes.line ++ c.in-Ok-Some.byte ∷ [],
        Consumes-trans _ _ _ _ _ c.bytes.invariant.took read.0,
      ),
      read.1 ∙ c.bytes.invariant.reads,
    )
