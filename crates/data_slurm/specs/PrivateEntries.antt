-- What reading arrays adds to the entries of a file. Only contracts of private
-- functions cite this.
use Rattle.std.specs.Prelude.{◌≡◌, List, ◌++◌}
use Rattle.data_slurm.specs.declared.entry.Entry.{Entry}

-- entries were added, of which this holds
abbrev pub AddsEntries : (List Entry → Type 0) → List Entry → List Entry → Type 0
AddsEntries Are old new = (es : List Entry) × Are es × (new ≡ old ++ es)
