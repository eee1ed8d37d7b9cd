-- Calls of writers that count their failures: this library's own. Only contracts of private
-- functions cite these.
use Rattle.std.specs.Prelude.{◌≡◌, ◌<◌, ℕ, Option, List, length, Result, IfOk, IfErr}
use Rattle.std.specs.Io.{WritesAtMost}
use Rattle.std.specs.Io.KnownBytes.{WriteAppends}
use Rattle.std.specs.declared.io.Error.{Error}
use Rattle.rtr_units.specs.CountedFailures.{Tally, FailedWith, Stalled}
use Rattle.rtr_units.specs.Stream.{count_after_write}

-- a write of a piece to a writer whose bytes are known by `held`
abbrev pub WritesCounted : {T : Type 0} → (T → Option (List ℕ)) → Result ℕ Error →
    Tally T → Tally T → List ℕ → Type 0
WritesCounted held answer old new piece =
    WritesAtMost answer piece × WriteAppends (held old.inner) (held new.inner) answer piece
    × IfErr answer (FailedWith new)
    × IfOk answer (λ n. n ≡ 0 → 0 < length piece → Stalled new)
    × (new.failed ≡ count_after_write old.failed answer piece)
