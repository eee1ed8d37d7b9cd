-- What a check leaves of data for lookups of routes (this library's own).
use Rattle.std.specs.Prelude.{◌≡◌, ◌-◌, ◌^◌, ◌==◌, ◌&&◌, ℕ, Bool, List, length}
use Rattle.std.specs.Prelude.{Option, Some, None}
use Rattle.data_slices.specs.Canonical.{HasData}
use Rattle.data_slices.specs.Flaws.{IsFlawOfData}
use Rattle.data_slices.specs.declared.fault.Flaw.{Flaw}
use Rattle.data_validation.specs.Tables.{AreTables}
use Rattle.rtr_c.specs.DataAnswers.{TellsData, flaw_told, written_told}
use Rattle.rtr_c.specs.declared.data_answer.RtrDataAnswer.{RtrDataAnswer}
use Rattle.rtr_c.specs.declared.lookup.RtrLookup.{RtrLookup}

-- Whether a lookup was made of data of this length: one of zeros is of none, since its seal isn't
-- what its length is below the greatest number.
abbrev pub is_sealed : List ℕ → RtrLookup → Bool
is_sealed input l =
    (l.length == length input) && (l.seal == 2 ^ 64 - 1 - length input)

-- that of the data that the input begins with
pub record IsLookup (input : List ℕ) (l : RtrLookup) : Type 0 where
  pub size : l.length ≡ length input
  pub seal : l.seal ≡ 2 ^ 64 - 1 - length input
  pub tables : AreTables input l.tables

-- that of no data
abbrev pub unsealed : RtrLookup → RtrLookup
unsealed l = record { length = 0; seal = 0; tables = l.tables }

-- The input begins with data, and the lookup is theirs; or it has a flaw, the first of which is
-- told, and the lookup is of none.
abbrev pub ChecksData : Option Flaw → List ℕ → (before after : RtrLookup) → RtrDataAnswer →
    (code : ℕ) → Type 0
ChecksData None input before after a code =
    HasData input × IsLookup input after × TellsData (written_told 0) a code
ChecksData (Some f) input before after a code =
    IsFlawOfData input f × (after ≡ unsealed before) × TellsData (flaw_told 1 f) a code
