use Rattle.std.proofs.Common.{◌≡◌}
use Rattle.make_work.proofs.QuotesSoFar.{LookedAt}
use Rattle.make_work.proofs.quotes.check_bytes.Given as goal

abbrev pub invariant-loop-byte : goal.invariant-loop-byte
invariant-loop-byte l =
    LookedAt l.fn.text l.byte-index l.closed l.before × (l.offset ≡ l.byte-index)
