use Rattle.std.proofs.Common.{◌≡◌, length}
use Rattle.csv.specs.Records.{fields_of}
use Rattle.make_work.proofs.Columns.{FoundSoFar}
use Rattle.make_work.proofs.csv_columns.column_of.Given as goal

abbrev pub invariant-loop-index : goal.invariant-loop-index
invariant-loop-index l =
    FoundSoFar l.part (fields_of l.row) l.index l.column
    × (l.index-end ≡ length (fields_of l.row))
