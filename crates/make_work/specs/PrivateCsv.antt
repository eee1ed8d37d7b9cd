-- What one row leaves of items. Only contracts of private functions cite these.
use Rattle.std.specs.Prelude.{◌≡◌, ⊤, ℕ, Bool, true, false, ◌&&◌, nat_le, length}
use Rattle.std.specs.Prelude.{get_or, is_some, ◌++◌, List, [], ◌∷◌, Result, Ok, Err, if◌then◌else◌}
use Rattle.csv.specs.Reading.{is_bom}
use Rattle.csv.specs.declared.error.ErrorKind.{ErrorKind}
use Rattle.csv.specs.declared.error.ErrorKind.TheVariants.{Utf8}
use Rattle.make_work.specs.CsvItems.{IsItemOf}
use Rattle.make_work.specs.CsvColumns.{columns_after, columns_named}
use Rattle.make_work.specs.CsvRows.{RefusesRow}
use Rattle.make_work.specs.Taking.{TakesSome}
use Rattle.make_work.specs.declared.csv_columns.Columns.{Columns}
use Rattle.make_work.specs.declared.gathering.Gathering.{Gathering}
use Rattle.make_work.specs.declared.item.Item.{Item}
use Rattle.make_work.specs.declared.item.Reason.{Reason}
use Rattle.make_work.specs.declared.item.Reason.TheVariants.{NotText, Header, Memory}
use Rattle.make_work.specs.declared.item.Refusal.{Refusal}

-- the text begins with U+FEFF
abbrev pub has_mark : List ℕ → Bool
has_mark text = nat_le 3 (length text)
    && is_bom (get_or text 0 0) (get_or text 1 0) (get_or text 2 0)

-- the reason of what stopped the reader of rows
abbrev pub reason_of : ErrorKind → Reason
reason_of (Utf8 position error) = NotText
reason_of other = Memory

-- a header adds no item, and any other row adds its own
abbrev pub AddsItem : Bool → Columns → List (List ℕ) → List Item → List Item → Type 0
AddsItem true columns row old new = (new ≡ old) × (is_some (columns_named row) ≡ true)
AddsItem false columns row old new =
    (i : Item) × (new ≡ old ++ i ∷ []) × IsItemOf columns row i

-- a header doesn't name its columns, another row is no origin, or memory ran out
abbrev pub RefusesItem : Bool → Columns → List (List ℕ) → Reason → Type 0
RefusesItem heads columns row Memory = ⊤
RefusesItem heads columns row Header =
    (heads ≡ true) × (is_some (columns_named row) ≡ false)
RefusesItem heads columns row why = (heads ≡ false) × RefusesRow columns row why

abbrev pub TakesRow : {T : Type 0} → Bool → Columns → List (List ℕ) → Result T Refusal →
    Gathering → Gathering → Type 0
TakesRow heads columns row (Ok t) old new = TakesSome (AddsItem heads columns row []) old new
TakesRow heads columns row (Err r) old new = RefusesItem heads columns row r.reason

-- the columns of the rows that follow, after one row more: the first may name them
abbrev pub columns_from : Bool → Columns → List (List ℕ) → Columns
columns_from first columns row = if first then columns_after row else columns
