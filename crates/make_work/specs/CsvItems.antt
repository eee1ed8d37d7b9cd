-- Which items are read of a text of comma-separated values, and why one is refused. The rows are
-- those that the kit's `csv` reads of a text, as RFC 4180 has them, without a mark of its byte
-- order.
use Rattle.std.specs.Prelude.{◌≡◌, ◌⊎◌, ⊤, ℕ, Bool, true, false, not, ◌&&◌, ◌||◌, ◌++◌, List, []}
use Rattle.std.specs.Prelude.{◌∷◌, is_some, if◌then◌else◌}
use Rattle.std.specs.List.{AllByRecursion}
use Rattle.csv.specs.Reading.{AreRecords, Reached, default_config, strip_bom}
use Rattle.csv.specs.Records.{AllText}
use Rattle.csv.specs.declared.parser.State.{State}
use Rattle.csv.specs.declared.parser.State.TheVariants.{StartRecord}
use Rattle.make_work.specs.CsvColumns.{columns_after, columns_named, is_header, plain_columns}
use Rattle.make_work.specs.CsvQuotes.{AreQuotesWell, RefusesQuotes}
use Rattle.make_work.specs.CsvRows.{IsPayloadRow, RefusesRow, is_ended, row_expiry}
use Rattle.make_work.specs.declared.csv_columns.Columns.{Columns}
use Rattle.make_work.specs.declared.item.Item.{Item}
use Rattle.make_work.specs.declared.item.Reason.{Reason}
use Rattle.make_work.specs.declared.item.Reason.TheVariants.{NotText, Header, Unended, Memory}

-- these are all rows of the text
abbrev pub HasRows : List ℕ → List (List (List ℕ)) → Type 0
HasRows text rows = AreRecords default_config StartRecord (strip_bom text) rows

-- these are the first rows of the text
abbrev pub BeginsWithRows : List ℕ → List (List (List ℕ)) → Type 0
BeginsWithRows text rows = (state : State) × (rest : List ℕ)
    × Reached default_config StartRecord (strip_bom text) rows state rest

-- the rows without one in the first place that names the columns
abbrev pub without_header : List (List (List ℕ)) → List (List (List ℕ))
without_header [] = []
without_header (row ∷ rows) = if is_header row then rows else row ∷ rows

-- the columns of the rows, which one in the first place may name
abbrev pub columns_of : List (List (List ℕ)) → Columns
columns_of [] = plain_columns
columns_of (row ∷ rows) = columns_after row

-- a header that doesn't name its columns
abbrev pub is_bad_header : List (List ℕ) → Bool
is_bad_header row = is_header row && not (is_some (columns_named row))

abbrev pub has_bad_header : List (List (List ℕ)) → Bool
has_bad_header [] = false
has_bad_header (row ∷ rows) = is_bad_header row

abbrev pub IsItemOf : Columns → List (List ℕ) → Item → Type 0
IsItemOf columns row i =
    IsPayloadRow columns row i.payload × (i.expiry ≡ row_expiry columns row)

-- an item of each row, in order, with its origin, and its time where there is a column of times
abbrev pub AreItemsOf : Columns → List (List (List ℕ)) → List Item → Type 0
AreItemsOf columns [] [] = ⊤
AreItemsOf columns (row ∷ rows) (i ∷ items) =
    IsItemOf columns row i × AreItemsOf columns rows items
AreItemsOf columns rows others = ⊥

-- all rows are text, and all but a header are origins: those of the items
pub record HasItems (text : List ℕ) (items : List Item) : Type 0 where
  pub rows : List (List (List ℕ))
  pub all : HasRows text rows
  pub text_rows : AllByRecursion AllText rows
  pub header : has_bad_header rows ≡ false
  pub origins : AreItemsOf (columns_of rows) (without_header rows) items

-- rows that are text and, but for a header, origins, come before a row that is no text
pub record HasNoText (text : List ℕ) : Type 0 where
  pub before : List (List (List ℕ))
  pub items : List Item
  pub row : List (List ℕ)
  pub first : BeginsWithRows text (before ++ row ∷ [])
  pub text_rows : AllByRecursion AllText before
  pub header : has_bad_header before ≡ false
  pub origins : AreItemsOf (columns_of before) (without_header before) items
  pub refused : ¬ AllText row

-- the first row is text, and a header that doesn't name its columns
pub record HasNoColumns (text : List ℕ) : Type 0 where
  pub row : List (List ℕ)
  pub first : BeginsWithRows text (row ∷ [])
  pub text_row : AllText row
  pub refused : is_bad_header row ≡ true

-- rows that are text and, but for a header, origins, come before one that is text and no origin
pub record HasNoOrigin (text : List ℕ) (why : Reason) : Type 0 where
  pub rows : List (List (List ℕ))
  pub before : List (List (List ℕ))
  pub items : List Item
  pub row : List (List ℕ)
  pub first : BeginsWithRows text rows
  pub text_rows : AllByRecursion AllText rows
  pub header : has_bad_header rows ≡ false
  pub last : without_header rows ≡ before ++ row ∷ []
  pub origins : AreItemsOf (columns_of rows) before items
  pub refused : RefusesRow (columns_of rows) row why

-- why the rows of a text are refused: the first row that is at fault decides, unless memory ran out
abbrev pub RefusesRows : List ℕ → Reason → Type 0
RefusesRows text Memory = ⊤
RefusesRows text NotText = HasNoText text
RefusesRows text Header = HasNoColumns text
RefusesRows text why = HasNoOrigin text why

-- the rows are those of the items, and the last ends, unless that isn't asked for
pub record HasWholeItems (takes_unended : Bool) (text : List ℕ) (items : List Item) : Type 0 where
  pub rows : HasItems text items
  pub ended : (takes_unended || is_ended (strip_bom text)) ≡ true

-- the rows are those of items, and the last doesn't end
pub record HasUnended (text : List ℕ) : Type 0 where
  pub items : List Item
  pub rows : HasItems text items
  pub unended : is_ended (strip_bom text) ≡ false

-- a row is at fault, or else the last doesn't end, where it has to
abbrev pub RefusesWhole : Bool → List ℕ → Reason → Type 0
RefusesWhole false text Unended = HasUnended text
RefusesWhole takes_unended text why = RefusesRows text why

-- quotes stand where they may, and the rows are those of the items
pub record IsCsvOf (takes_unended : Bool) (text : List ℕ) (items : List Item) : Type 0 where
  pub quotes : AreQuotesWell (strip_bom text)
  pub rows : HasWholeItems takes_unended text items

-- why a text is refused: its first quote at fault decides, else its first row, else its end
abbrev pub RefusesCsv : Bool → List ℕ → Reason → Type 0
RefusesCsv takes_unended text why = RefusesQuotes (strip_bom text) why
    ⊎ (AreQuotesWell (strip_bom text) × RefusesWhole takes_unended text why)
