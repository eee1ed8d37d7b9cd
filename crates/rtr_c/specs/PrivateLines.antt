-- What functions leave that look for the unit of a line: this library's own. Only contracts of
-- private functions cite these.
use Rattle.std.specs.Prelude.{◌≡◌, ℕ, ◌≤◌, List, length, take, Option, Some, Result, Ok}
use Rattle.rtr_units.specs.Header.{type_field, version_field}
use Rattle.unit_views.specs.declared.fault.ViewFault.{ViewFault}
use Rattle.unit_any.specs.Lengths.{IsBounded, SaysLength}
use Rattle.rtr_c.specs.LineAnswers.{HasNoLine}
use Rattle.rtr_c.specs.declared.lines.RtrLine.{RtrLine}

-- the unit that the input begins with, of a length that units of its version and type have
pub record IsUnitOf (input unit : List ℕ) : Type 0 where
  pub front : unit ≡ take (length unit) input
  pub within : length unit ≤ length input
  pub said : SaysLength input (Ok (Some (length unit)))
  pub bounded : IsBounded (version_field unit) (type_field unit) (length unit)

-- why there is none
abbrev pub TellsRefusal : List ℕ → RtrLine → Type 0
TellsRefusal input a =
    (r : Result (Option ℕ) ViewFault) × SaysLength input r × HasNoLine r input a
