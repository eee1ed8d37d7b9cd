-- What a loan of all bytes of an end of data leaves (this library's own calls).
use Rattle.std.specs.Prelude.{ℕ, List}
use Rattle.std.specs.Borrow.{Lends, MutBor, Fml, u8, Array}
use Rattle.rtr_units.specs.declared.end.EndOfData.{EndOfData}
use Rattle.rtr_units.specs.declared.end.EndOfData.TheVariants.{V0, V1}
use Rattle.rtr_units.specs.contracts.end.EndOfData.{the_row}

-- an end of data of the same kind with other bytes
abbrev pub with_end_bytes : EndOfData → List ℕ → EndOfData
with_end_bytes (V0 u) l = V0 (record { cells = record { bytes = l } })
with_end_bytes (V1 u) l = V1 (record { cells = record { bytes = l } })

abbrev pub LendsEnd : MutBor EndOfData → MutBor (List ℕ) → Fml
LendsEnd end r = Lends the_row (Array u8 0) end r (with_end_bytes end.now)
