-- A unit of a fixed size as the list of its bytes.
use Rattle.std.specs.Prelude.{ℕ, List}
use Rattle.rtr_units.specs.declared.fixed_unit.FixedUnit.{FixedUnit}

abbrev pub fixed_bytes : {kind size : ℕ} → FixedUnit kind size → List ℕ
fixed_bytes u = u.cells.bytes
