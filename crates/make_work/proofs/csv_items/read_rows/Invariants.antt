use Rattle.std.proofs.Common.{◌≡◌, Bor, ℕ, List, Some}
use Rattle.csv.specs.Reading.{Ready, default_config, source_of}
use Rattle.csv.specs.declared.reader.Trim.TheVariants as trim
use Rattle.make_work.specs.Taking.{TakesItems}
use Rattle.make_work.specs.declared.item.Item.{Item}
use Rattle.make_work.proofs.Rows.{RowsSoFar}
use Rattle.make_work.proofs.csv_items.read_rows.Given as goal

abbrev pub invariant-loop-count : goal.invariant-loop-count
invariant-loop-count l =
    (l.reader.trim ≡ trim.None) × Ready l.reader × (l.reader.config ≡ default_config)
    × (y : List ℕ) × (source_of (λ (s : Bor (List ℕ)). Some s.now) l.reader ≡ Some y)
    × (items : List Item) × TakesItems items l.initial.gathering l.gathering
    × RowsSoFar l.fn.text l.count l.columns items l.reader.state y
