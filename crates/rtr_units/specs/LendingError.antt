-- What a loan of all bytes of an error report leaves (this library's own calls).
use Rattle.std.specs.Prelude.{ℕ, List, ◌++◌, length, take, drop}
use Rattle.std.specs.Borrow.{Lends, MutBor, Fml, u8, Array}
use Rattle.rtr_units.specs.contracts.error.Error.{the_row}

-- old with written over its front, at the same length: written itself where it is as long
abbrev pub overwritten : List ℕ → List ℕ → List ℕ
overwritten old written = take (length old) (written ++ drop (length written) old)

-- the report ends as what the slice then holds, which keeps its length
abbrev pub LendsError : MutBor (List ℕ) → MutBor (List ℕ) → Fml
LendsError report r = Lends the_row (Array u8 0) report r (overwritten report.now)
