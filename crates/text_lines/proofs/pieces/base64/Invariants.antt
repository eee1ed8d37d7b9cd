use Rattle.std.proofs.Common.{ℕ, List, length}
use Rattle.base64.specs.Engines.{url_safe_no_pad}
use Rattle.base64.specs.GeneralPurpose.{encode_of}
use Rattle.text_lines.specs.Laying.{Lays}
use Rattle.text_lines.proofs.pieces.base64.Given as goal

-- what lays the rest from here on lays all
abbrev pub invariant-each : goal.invariant-each
invariant-each l =
    (stop : ℕ) (after : List ℕ) → Lays (encode_of url_safe_no_pad l.left) l.end l.output stop after
    →
    Lays (encode_of url_safe_no_pad l.bytes) l.at l.initial.output stop after

abbrev pub decreases-each : goal.decreases-each
decreases-each l = length l.left
