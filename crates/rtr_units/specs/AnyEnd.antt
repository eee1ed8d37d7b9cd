-- An end of data of any version (RFC 6810 and RFC 8210 section 5.8): its bytes, its meaning, and
-- what is wrong with its header. That versions above 2 are refused, and before a length, is this
-- library's own.
use Rattle.std.specs.Prelude.{ℕ, Bool, true, false, List, Some, nat_lt, ◌==◌, if◌then◌else◌}
use Rattle.rtr_units.specs.StopCauses.{unit_version}
use Rattle.rtr_units.specs.End.{EndMeaning, untimed_meaning, timed_meaning}
use Rattle.rtr_units.specs.FixedUnits.{fixed_bytes}
use Rattle.rtr_units.specs.Header.{version_field, length_field}
use Rattle.rtr_units.specs.Reading.{Kind, exact_length}
use Rattle.rtr_units.specs.declared.end.EndOfData.{EndOfData}
use Rattle.rtr_units.specs.declared.end.EndOfData.TheVariants.{V0, V1}

abbrev pub end_bytes : EndOfData → List ℕ
end_bytes (V0 u) = fixed_bytes u
end_bytes (V1 u) = fixed_bytes u

abbrev pub end_meaning : EndOfData → EndMeaning
end_meaning (V0 u) = untimed_meaning (fixed_bytes u)
end_meaning (V1 u) = timed_meaning (fixed_bytes u)

-- whether it has timings
abbrev pub is_timed : EndOfData → Bool
is_timed (V0 u) = false
is_timed (V1 u) = true

-- how many bytes there are in a version
abbrev pub end_length : ℕ → ℕ
end_length v = if v == 0 then 12 else 24

-- ends of data of any version, whatever their type
abbrev pub end_unit : Kind
end_unit = record {
  fault = λ u.
      if nat_lt 2 (version_field u) then Some (unit_version (version_field u))
      else exact_length (end_length (version_field u)) (length_field u);
  asks = λ u. false;
}
