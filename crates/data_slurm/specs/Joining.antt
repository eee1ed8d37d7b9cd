-- Why a SLURM file isn't used beside others (RFC 8416 section 4.2).
use Rattle.std.specs.Prelude.{◌≡◌, ⊤, true, List}
use Rattle.data_slurm.specs.Overlaps.{files_overlap}
use Rattle.data_slurm.specs.declared.entry.Entry.{Entry}
use Rattle.data_slurm.specs.declared.slurm.JoinError.{JoinError}
use Rattle.data_slurm.specs.declared.slurm.JoinError.TheVariants.{Overlap, Memory}

-- they overlap, or memory ran out
abbrev pub JoinFails : List Entry → List Entry → JoinError → Type 0
JoinFails es fs Overlap = files_overlap es fs ≡ true
JoinFails es fs Memory = ⊤
