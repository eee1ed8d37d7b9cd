-- Which fields of rows of comma-separated values are which parts of an origin. The first line may
-- be a header, "appearing as the first line of the file with the same format as normal record
-- lines", with "names corresponding to the fields in the file" (RFC 4180 section 2, rule 3): then
-- each part is the field under its name, whatever the order. Names are those of `JsonNames`.
use Rattle.std.specs.Prelude.{ℕ, ◌+◌, Bool, nat_le, length, List, [], ◌∷◌, Option, Some, None}
use Rattle.std.specs.Prelude.{unwrap_or, option_map, option_and_then, if◌then◌else◌}
use Rattle.csv.specs.Records.{field_at}
use Rattle.make_work.specs.JsonNames.{is_part}
use Rattle.make_work.specs.declared.csv_columns.Column.{Column}
use Rattle.make_work.specs.declared.csv_columns.Column.TheVariants.{Missing, At, Twice}
use Rattle.make_work.specs.declared.csv_columns.Columns.{Columns}
use Rattle.make_work.specs.declared.json_names.Part.{Part}
use Rattle.make_work.specs.declared.json_names.Part.TheVariants as parts

-- the field at an index; one that isn't there is empty
abbrev pub field : List (List ℕ) → ℕ → List ℕ
field row i = unwrap_or (field_at row i) []

-- a row that names the columns, of which the first is that of ASNs
abbrev pub is_header : List (List ℕ) → Bool
is_header row = is_part parts.Asn (field row 0)

-- ---- where a header names a part

-- the indices of the fields that name it, of which the first has this one
unfoldable pub indices_from : Part → ℕ → List (List ℕ) → List ℕ
indices_from p i [] = []
indices_from p i (f ∷ fs) =
    if is_part p f then i ∷ indices_from p (i + 1) fs else indices_from p (i + 1) fs

abbrev pub as_column : List ℕ → Column
as_column [] = Missing
as_column (i ∷ []) = At i
as_column (i ∷ j ∷ js) = Twice

abbrev pub column_of : Part → List (List ℕ) → Column
column_of p row = as_column (indices_from p 0 row)

-- it was found at one more index
abbrev pub found_again : Column → ℕ → Column
found_again Missing i = At i
found_again (At j) i = Twice
found_again Twice i = Twice

-- the index of a column that has to be there, and of one that may be missing
abbrev pub one : Column → Option ℕ
one Missing = None
one (At i) = Some i
one Twice = None

abbrev pub at_most_one : Column → Option (Option ℕ)
at_most_one Missing = Some None
at_most_one (At i) = Some (Some i)
at_most_one Twice = None

-- ---- the columns of rows

-- Without a header the prefix follows the ASN, and then the max length, if there is one.
abbrev pub plain_columns : Columns
plain_columns = record { prefix = 1; max_length = 2; expires = None; width = 0 }

-- Those that a header names, each part once, but for the time, which may be missing. "Each line
-- should contain the same number of fields throughout the file" (RFC 4180 section 2, rule 4).
abbrev pub columns_named : List (List ℕ) → Option Columns
columns_named row =
    option_and_then (λ asn.
    option_and_then (λ prefix.
    option_and_then (λ max_length.
    option_map (λ expires. record {
      prefix = prefix;
      max_length = max_length;
      expires = expires;
      width = length row;
    })
    (at_most_one (column_of parts.Expires row)))
    (one (column_of parts.MaxLength row)))
    (one (column_of parts.Prefix row)))
    (one (column_of parts.Asn row))

-- those of the rows after this one in the first place
abbrev pub columns_after : List (List ℕ) → Columns
columns_after row =
    if is_header row then unwrap_or (columns_named row) plain_columns else plain_columns

-- a row has no fewer fields than the header
abbrev pub has_fields : Columns → List (List ℕ) → Bool
has_fields columns row = nat_le columns.width (length row)
