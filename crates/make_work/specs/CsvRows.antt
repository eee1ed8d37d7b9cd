-- Which rows of comma-separated values are which origins, and why others are refused: the shape of
-- what validators print. A row is the list of its fields, each the bytes of a text.
use Rattle.std.specs.Prelude.{◌≡◌, ℕ, Bool, true, false, ◌||◌, Option, Some, None, get_or, length}
use Rattle.std.specs.List.{starts_with}
use Rattle.std.specs.Prelude.{List, [], ◌==◌, ◌-◌, codes, bytes_eq, Result, MatchResult}
use Rattle.std.specs.Prelude.{if◌then◌else◌}
use Rattle.rtr_base.specs.Addresses.{PrefixParts, IsMaxLenPrefix, BreaksMaxLen}
use Rattle.rtr_base.specs.ReadTexts.{IsAsnText, IsLenText, IsPrefixText, RefusesPrefix}
use Rattle.rtr_payload.specs.declared.payload.Payload.{Payload}
use Rattle.rtr_payload.specs.declared.payload.Payload.TheVariants.{Origin}
use Rattle.rtr_payload.specs.declared.payload.RouteOrigin.{RouteOrigin}
use Rattle.make_work.specs.CsvColumns.{field, has_fields}
use Rattle.make_work.specs.JsonValues.{expiry_by_number, has_plus}
use Rattle.make_work.specs.MakeWords.{number_of}
use Rattle.make_work.specs.declared.csv_columns.Columns.{Columns}
use Rattle.make_work.specs.declared.item.Expiry.{Expiry}
use Rattle.make_work.specs.declared.item.Expiry.TheVariants.{Never}
use Rattle.make_work.specs.declared.item.Reason.{Reason}
use Rattle.make_work.specs.declared.item.Reason.TheVariants.{Asn, Prefix, MaxLength, MaxLengthRule}
use Rattle.make_work.specs.declared.item.Reason.TheVariants.{FewFields, Plus, UriColumn}

-- when a row expires: where there is a column of times, at the number of seconds that its field is
abbrev pub expiry_in : Option ℕ → List (List ℕ) → Expiry
expiry_in None row = Never
expiry_in (Some i) row = expiry_by_number (number_of 64 (field row i))

abbrev pub row_expiry : Columns → List (List ℕ) → Expiry
row_expiry columns row = expiry_in columns.expires row

-- a part of an origin has a plus in it, which Rust's `from_str` takes before a number, and no
-- validator prints
abbrev pub some_plus : Columns → List (List ℕ) → Bool
some_plus columns row = has_plus (field row 0)
    || (has_plus (field row columns.prefix) || has_plus (field row columns.max_length))

-- the field of a max length: a number of at most 255, or empty where none is given
abbrev pub IsMaxLengthField : List ℕ → Option ℕ → Type 0
IsMaxLengthField text None = text ≡ []
IsMaxLengthField text (Some x) = IsLenText text x

-- the max length that a field is, or that it is none
abbrev pub ReadsMaxLength : List ℕ → Result (Option ℕ) Reason → Type 0
ReadsMaxLength text r = MatchResult r (IsMaxLengthField text)
    (λ why. (why ≡ MaxLength) × ((x : Option ℕ) → ¬ IsMaxLengthField text x))

-- its ASN, its prefix and its max length are those of the origin, and the two go together
pub record IsOriginRow (columns : Columns) (row : List (List ℕ)) (o : RouteOrigin) : Type 0 where
  pub fields : has_fields columns row ≡ true
  pub no_plus : some_plus columns row ≡ false
  pub asn : IsAsnText (field row 0) o.asn
  pub prefix : IsPrefixText (field row columns.prefix) o.prefix.prefix
  pub max_length : IsMaxLengthField (field row columns.max_length) o.prefix.max_len
  pub valid : IsMaxLenPrefix o.prefix

-- its fields are there, and none of them has a plus
abbrev pub IsPlain : Columns → List (List ℕ) → Type 0
IsPlain columns row = (has_fields columns row ≡ true) × (some_plus columns row ≡ false)

abbrev pub HasAsn : Columns → List (List ℕ) → Type 0
HasAsn columns row = IsPlain columns row × (n : ℕ) × IsAsnText (field row 0) n

abbrev pub HasPrefix : Columns → List (List ℕ) → Type 0
HasPrefix columns row = (p : PrefixParts) × IsPrefixText (field row columns.prefix) p

-- what some validators print before the others: the name of a column of URIs, or such a URI
abbrev pub is_uri : List ℕ → Bool
is_uri text = bytes_eq text (codes "URI") || starts_with ◌==◌ text (codes "rsync://")

-- why a row is no origin: the first of these that holds
abbrev pub RefusesRow : Columns → List (List ℕ) → Reason → Type 0
RefusesRow columns row FewFields = has_fields columns row ≡ false
RefusesRow columns row Plus =
    (has_fields columns row ≡ true) × (some_plus columns row ≡ true)
RefusesRow columns row UriColumn = IsPlain columns row
    × ((n : ℕ) → ¬ IsAsnText (field row 0) n) × (is_uri (field row 0) ≡ true)
RefusesRow columns row Asn = IsPlain columns row
    × ((n : ℕ) → ¬ IsAsnText (field row 0) n) × (is_uri (field row 0) ≡ false)
RefusesRow columns row (Prefix e) =
    HasAsn columns row × RefusesPrefix (field row columns.prefix) e
RefusesRow columns row MaxLength = HasAsn columns row × HasPrefix columns row
    × ((x : Option ℕ) → ¬ IsMaxLengthField (field row columns.max_length) x)
RefusesRow columns row (MaxLengthRule e) = HasAsn columns row × (p : PrefixParts) × (x : ℕ)
    × IsPrefixText (field row columns.prefix) p × IsLenText (field row columns.max_length) x
    × BreaksMaxLen p x e
RefusesRow columns row other = ⊥

-- the payload that a row is
abbrev pub IsPayloadRow : Columns → List (List ℕ) → Payload → Type 0
IsPayloadRow columns row p = (o : RouteOrigin) × (p ≡ Origin o) × IsOriginRow columns row o

abbrev pub ReadsRow : Columns → List (List ℕ) → Result Payload Reason → Type 0
ReadsRow columns row r = MatchResult r (IsPayloadRow columns row) (RefusesRow columns row)

-- ---- the end of a text

-- nothing comes after the last line end: of the two bytes of one (RFC 4180 section 2, rule 1)
-- either may stand alone
abbrev pub is_ended : List ℕ → Bool
is_ended text = if length text == 0 then true else
    (get_or text (length text - 1) 0 == 10) || (get_or text (length text - 1) 0 == 13)
