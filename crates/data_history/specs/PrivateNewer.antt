-- Faults of stores as faults of newer data. Only contracts of private functions cite these.
use Rattle.std.specs.Prelude.{⊤, ℕ, List, Result, Ok, Err}
use Rattle.data_history.specs.Next.{IsFlawIn}
use Rattle.data_history.specs.declared.newer.Untaken.{Untaken}
use Rattle.data_history.specs.declared.newer.Untaken.TheVariants as untaken
use Rattle.data_history.specs.declared.store.TakeFault.{TakeFault}
use Rattle.data_history.specs.declared.store.TakeFault.TheVariants as faults

abbrev pub taken_fault : TakeFault → Untaken
taken_fault faults.SessionLeft = untaken.SessionLeft
taken_fault faults.Malformed = untaken.Malformed
taken_fault (faults.NoRoom wanted) = untaken.NoRoom wanted

-- it isn't one of the faults that come before the data are looked at
abbrev pub ComesLate : Result ℕ Untaken → Type 0
ComesLate (Ok n) = ⊤
ComesLate (Err untaken.Waits) = ⊥
ComesLate (Err untaken.OtherSession) = ⊥
ComesLate (Err untaken.SessionLeft) = ⊤
ComesLate (Err (untaken.Refused r)) = ⊤
ComesLate (Err untaken.Malformed) = ⊤
ComesLate (Err (untaken.NoRoom wanted)) = ⊤

-- a flaw is one of the new data
abbrev pub IsFlawOfNew : List ℕ → Untaken → Type 0
IsFlawOfNew b (untaken.Refused r) = IsFlawIn b r
IsFlawOfNew b why = ⊤
