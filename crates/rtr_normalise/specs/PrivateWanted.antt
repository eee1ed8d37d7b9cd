-- What the program holds of what it is asked for: this program's own. Only contracts of private
-- functions cite these.
use Rattle.std.specs.Prelude.{◌≤◌, ⊤}
use Rattle.rtr_wire.specs.Sequences.{Output, everything, for_version}
use Rattle.rtr_normalise.specs.declared.run.Wanted.{Wanted}
use Rattle.rtr_normalise.specs.declared.run.Wanted.TheVariants as wants

-- what is written of the input, as the program holds what it is asked for
abbrev pub wanted_output : Wanted → Output
wanted_output wants.Everything = everything
wanted_output (wants.Version v) = for_version v

-- the version is one that there is
abbrev pub IsKnown : Wanted → Type 0
IsKnown wants.Everything = ⊤
IsKnown (wants.Version v) = v ≤ 2
