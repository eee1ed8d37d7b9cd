-- What rows of comma-separated values make of items.
use Rattle.std.proofs.Common.{◌≡◌, ◌≢◌, ℕ, ◌+◌, ◌<◌, ◌==◌, ◌&&◌, Bool, true}
use Rattle.std.proofs.Common.{false, cond, not, is_some, List, [], ◌∷◌, ◌++◌}
use Rattle.std.proofs.lemmas.Bool.{and_parts, eqb-true}
use Rattle.std.proofs.lemmas.List.{append-nil, length-append}
use Rattle.std.proofs.Common.{length, Option, Some, None, Err, refl, sym, ap, ◌∙◌, subst, arith}
use Rattle.std.specs.List.{AllByRecursion}
use Rattle.std.specs.Str.Parse.{ParsesUnsigned}
use Rattle.csv.proofs.ReadFacts.{reached-more}
use Rattle.csv.specs.Machine.{Read, next_record}
use Rattle.csv.specs.Reading.{ExplainsRead, NextIs, Reached, ReadsNext, default_config}
use Rattle.csv.specs.Reading.{pending_of, source_of, strip_bom}
use Rattle.csv.specs.declared.error.ErrorKind.{ErrorKind}
use Rattle.csv.specs.declared.error.ErrorKind.TheVariants.{Utf8}
use Rattle.csv.specs.declared.reader.Reader.{Reader}
use Rattle.csv.specs.Records.{AllText}
use Rattle.csv.specs.declared.parser.State.{State}
use Rattle.csv.specs.declared.parser.State.TheVariants.{StartRecord}
use Rattle.rtr_base.proofs.Parsing.{refuses_len}
use Rattle.make_work.specs.CsvColumns.{columns_named, is_header, plain_columns}
use Rattle.make_work.specs.CsvItems.{AreItemsOf, HasNoOrigin, HasNoText, HasItems, IsItemOf}
use Rattle.make_work.specs.CsvItems.{HasNoColumns, RefusesRows, columns_of, has_bad_header}
use Rattle.make_work.specs.CsvItems.{is_bad_header, without_header}
use Rattle.make_work.specs.CsvRows.{IsMaxLengthField, RefusesRow}
use Rattle.make_work.specs.PrivateCsv.{AddsItem, RefusesItem, columns_from, reason_of}
use Rattle.make_work.specs.declared.csv_columns.Columns.{Columns}
use Rattle.make_work.specs.declared.item.Item.{Item}
use Rattle.make_work.specs.declared.item.Reason.{Reason}
use Rattle.make_work.specs.declared.item.Reason.TheVariants.{Header, Memory, NotText}

pub not_empty : (text : List ℕ) → (length text == 0) ≡ false → text ≢ []
not_empty [] h e = absurd cc
not_empty (c ∷ cs) h e = absurd cc

pub no_length : (text : List ℕ) → text ≢ [] →
    ParsesUnsigned {E = Unit {0}} 8 10 text (Err (tt {0})) → (x : Option ℕ) →
    ¬ IsMaxLengthField text x
no_length text some none None h = some h
no_length text some none (Some n) h = refuses_len text none n h

all_text : (rows : List (List (List ℕ))) (row : List (List ℕ)) → AllByRecursion AllText rows →
    AllText row → AllByRecursion AllText (rows ++ row ∷ [])
all_text [] row h t = (t, tt)
all_text (r ∷ rows) row h t = (h.0, all_text rows row h.1 t)

one_item : (columns : Columns) (rows : List (List (List ℕ))) (items : List Item)
    (row : List (List ℕ)) (i : Item) → AreItemsOf columns rows items → IsItemOf columns row i →
    AreItemsOf columns (rows ++ row ∷ []) (items ++ i ∷ [])
one_item columns [] [] row i h is = (is, tt)
one_item columns [] (j ∷ items) row i h is = absurd h
one_item columns (r ∷ rows) [] row i h is = absurd h
one_item columns (r ∷ rows) (j ∷ items) row i h is =
    (h.0, one_item columns rows items row i h.1 is)

not_zero : (n : ℕ) (b : Bool) → (n == 0) ≡ b → 0 < n → b ≡ false
not_zero n true e h = absurd (omega (arith, eqb-true n 0 e, h))
not_zero n false e h = refl

-- the first row says which the columns are
first_says : (rows : List (List (List ℕ))) (row : List (List ℕ)) (columns : Columns) →
    columns_of rows ≡ columns →
    columns_of (rows ++ row ∷ []) ≡ columns_from (length rows == 0) columns row
first_says [] row columns e = refl
first_says (r ∷ rows) row columns e =
    e
    ∙ sym (ap (λ b. columns_from b columns row)
    (not_zero (length (r ∷ rows)) (length (r ∷ rows) == 0) refl (omega arith)))

-- the items of rows after which there is one row more
same_columns : (rows : List (List (List ℕ))) (row : List (List ℕ)) (items : List Item) →
    AreItemsOf (columns_of rows) (without_header rows) items →
    AreItemsOf (columns_of (rows ++ row ∷ [])) (without_header rows) items
same_columns [] row [] h = tt
same_columns [] row (i ∷ items) h = absurd h
same_columns (r ∷ rows) row items h = h

-- a header names its columns, and a row after others is none
good_header : (heads b : Bool) (row : List (List ℕ)) → is_header row ≡ heads →
    (heads ≡ true → is_some (columns_named row) ≡ true) → is_bad_header row ≡ false
good_header true b row e h =
    ap (λ k. k && not (is_some (columns_named row))) e ∙ ap not (h refl)
good_header false b row e h = ap (λ k. k && not (is_some (columns_named row))) e

header_more : (rows : List (List (List ℕ))) (row : List (List ℕ)) →
    has_bad_header rows ≡ false →
    (((length rows == 0) && is_header row) ≡ true → is_some (columns_named row) ≡ true) →
    has_bad_header (rows ++ row ∷ []) ≡ false
header_more [] row e h = good_header (is_header row) true row refl h
header_more (r ∷ rows) row e h = e

-- a row after others is no header
header_before : (b : Bool) (rows : List (List (List ℕ))) (r row : List (List ℕ)) →
    cond b (rows ++ row ∷ []) (r ∷ rows ++ row ∷ []) ≡ cond b rows (r ∷ rows) ++ row ∷ []
header_before true rows r row = refl
header_before false rows r row = refl

no_header : (b : Bool) (row : List (List ℕ)) → b ≡ false → cond b [] (row ∷ []) ≡ row ∷ []
no_header true row e = absurd cc
no_header false row e = refl

not_true : false ≡ true → ⊥
not_true e = absurd cc

-- a row after none
alone : (rows : List (List (List ℕ))) (row : List (List ℕ)) → length rows ≡ 0 →
    rows ++ row ∷ [] ≡ row ∷ []
alone [] row e = refl
alone (r ∷ rows) row e = absurd (omega (arith, e))

-- the rows after one that isn't passed over
not_passed : (rows : List (List (List ℕ))) (row : List (List ℕ)) →
    ((length rows == 0) && is_header row) ≡ false →
    without_header (rows ++ row ∷ []) ≡ without_header rows ++ row ∷ []
not_passed [] row e = no_header (is_header row) row e
not_passed (r ∷ rows) row e = header_before (is_header r) rows r row

passed : (rows : List (List (List ℕ))) (row : List (List ℕ)) →
    ((length rows == 0) && is_header row) ≡ true →
    without_header (rows ++ row ∷ []) ≡ without_header rows
passed [] row e = ap (λ b. cond b [] (row ∷ [])) e
passed (r ∷ rows) row e =
    let first = and_parts (length (r ∷ rows) == 0) (is_header row) e in
    absurd (omega (arith, eqb-true (length (r ∷ rows)) 0 first.0))

added : (b : Bool) (columns : Columns) (rows : List (List (List ℕ))) (row : List (List ℕ))
    (old new : List Item) → ((length rows == 0) && is_header row) ≡ b →
    AddsItem b columns row old new → AreItemsOf columns (without_header rows) old →
    AreItemsOf columns (without_header (rows ++ row ∷ [])) new
added true columns rows row old new e a h =
    subst (λ l. AreItemsOf columns (without_header (rows ++ row ∷ [])) l) (sym a.0)
    (subst (λ l. AreItemsOf columns l old) (sym (passed rows row e)) h)
added false columns rows row old new e a h =
    subst (λ l. AreItemsOf columns (without_header (rows ++ row ∷ [])) l) (sym a.1)
    (subst (λ l. AreItemsOf columns l (old ++ a.0 ∷ [])) (sym (not_passed rows row e))
    (one_item columns (without_header rows) old row a.0 h a.2))

-- the items that a row adds to none are those that it adds to others
pub adds_after : (heads : Bool) (columns : Columns) (row : List (List ℕ))
    (items more : List Item) → AddsItem heads columns row [] more →
    AddsItem heads columns row items (items ++ more)
adds_after true columns row items more h = (ap (λ l. items ++ l) h.0 ∙ append-nil items, h.1)
adds_after false columns row items more h = (h.0, ap (λ l. items ++ l) h.1, h.2)

-- a header that adds no item names its columns
heads_well : (heads : Bool) (columns : Columns) (row : List (List ℕ)) (old new : List Item) →
    AddsItem heads columns row old new → heads ≡ true → is_some (columns_named row) ≡ true
heads_well true columns row old new a e = a.1
heads_well false columns row old new a e = absurd cc

-- The rows so far, after which a text is in this state with this rest, and their items.
pub record RowsSoFar (text : List ℕ) (count : ℕ) (columns : Columns) (items : List Item)
    (state : State) (rest : List ℕ) : Type 0 where
  pub rows : List (List (List ℕ))
  pub reached : Reached default_config StartRecord (strip_bom text) rows state rest
  pub text_rows : AllByRecursion AllText rows
  pub header : has_bad_header rows ≡ false
  pub named : columns_of rows ≡ columns
  pub origins : AreItemsOf (columns_of rows) (without_header rows) items
  pub number : length rows ≡ count

pub no_rows : (text : List ℕ) → RowsSoFar text 0 plain_columns [] StartRecord (strip_bom text)
unfolding Reached
no_rows text = record {
  rows = [];
  reached = (refl, refl);
  text_rows = tt;
  header = refl;
  named = refl;
  origins = tt;
  number = refl;
}

-- what a read took
found : (o : Option Read) (row : List (List ℕ)) (s : State) (z : List ℕ) → NextIs o true row s z →
    (p : Read) × (o ≡ Some p) × (row ≡ p.0) × (s ≡ p.1) × (z ≡ p.2)
found None row s z h = absurd cc
found (Some p) row s z h = (p, refl, h.1, h.2, h.3)

same_reached : (xs : List ℕ) (rows others : List (List (List ℕ))) (a b : State) (y z : List ℕ) →
    rows ≡ others → a ≡ b → y ≡ z → Reached default_config StartRecord xs rows a y →
    Reached default_config StartRecord xs others b z
same_reached xs rows others a b y z e f g h = rw (← e, ← f, ← g) h

taken_at : (xs y z : List ℕ) (rows : List (List (List ℕ))) (row : List (List ℕ)) (a b : State) →
    NextIs (next_record default_config a [] [] y) true row b z →
    Reached default_config StartRecord xs rows a y →
    Reached default_config StartRecord xs (rows ++ row ∷ []) b z
taken_at xs y z rows row a b h r =
    let n = found (next_record default_config a [] [] y) row b z h in
    same_reached xs _ _ _ _ _ _ (ap (λ (f : List (List ℕ)). rows ++ f ∷ []) (sym n.2)) (sym n.3)
    (sym n.4) (reached-more default_config StartRecord a xs y rows n.0 r n.1)

pub taken : (xs y : List ℕ) (rows : List (List (List ℕ))) (row : List (List ℕ)) (a b : State)
    (k : Option (List ℕ)) → ReadsNext default_config a (Some y) k true row b →
    Reached default_config StartRecord xs rows a y →
    (z : List ℕ) × (k ≡ Some z) × Reached default_config StartRecord xs (rows ++ row ∷ []) b z
taken xs y rows row a b None h r = absurd h
taken xs y rows row a b (Some z) h r = (z, refl, taken_at xs y z rows row a b h r)

module _ (text : List ℕ) (count : ℕ) (columns : Columns) (items : List Item) (a : State)
    (y : List ℕ) (s : RowsSoFar text count columns items a y) where
  test : (row : List (List ℕ)) (b : Bool) → ((count == 0) && is_header row) ≡ b →
      ((length s.rows == 0) && is_header row) ≡ b
  test row b e = ap (λ n. (n == 0) && is_header row) s.number ∙ e

  columns_now : (row : List (List ℕ)) (now : Columns) →
      now ≡ columns_from (count == 0) columns row → columns_of (s.rows ++ row ∷ []) ≡ now
  columns_now row now e =
      first_says s.rows row columns s.named
      ∙ ap (λ n. columns_from (n == 0) columns row) s.number
      ∙ sym e

  pub adds : (row : List (List ℕ)) (new : List Item) (now : Columns) (b : State) (z : List ℕ) →
      Reached default_config StartRecord (strip_bom text) (s.rows ++ row ∷ []) b z →
      AllText row → now ≡ columns_from (count == 0) columns row →
      AddsItem ((count == 0) && is_header row) now row items new →
      RowsSoFar text (count + 1) now new b z
  adds row new now b z r t e i = record {
    rows = s.rows ++ row ∷ [];
    reached = r;
    text_rows = all_text s.rows row s.text_rows t;
    header = header_more s.rows row s.header
        (λ h. heads_well ((count == 0) && is_header row) now row items new i
        (sym (test row _ refl) ∙ h));
    named = columns_now row now e;
    origins = added ((count == 0) && is_header row) (columns_of (s.rows ++ row ∷ [])) s.rows row
        items new (test row _ refl)
        (subst (λ c. AddsItem ((count == 0) && is_header row) c row items new)
        (sym (columns_now row now e)) i)
        (same_columns s.rows row items s.origins);
    number = omega (arith, s.number, length-append s.rows (row ∷ []));
  }

  pub all : next_record default_config a [] [] y ≡ None → HasItems text items
  all e = record {
    rows = s.rows;
    all = (a, y, s.reached, e);
    text_rows = s.text_rows;
    header = s.header;
    origins = s.origins;
  }

  pub no_text : (row : List (List ℕ)) (b : State) (z : List ℕ) →
      Reached default_config StartRecord (strip_bom text) (s.rows ++ row ∷ []) b z →
      ¬ AllText row → HasNoText text
  no_text row b z r t = record {
    before = s.rows;
    items = items;
    row = row;
    first = (b, z, r);
    text_rows = s.text_rows;
    header = s.header;
    origins = s.origins;
    refused = t;
  }

  pub no_columns : (row : List (List ℕ)) (b : State) (z : List ℕ) →
      Reached default_config StartRecord (strip_bom text) (s.rows ++ row ∷ []) b z →
      AllText row → ((count == 0) && is_header row) ≡ true →
      is_some (columns_named row) ≡ false → HasNoColumns text
  no_columns row b z r t e h =
      let first = and_parts (length s.rows == 0) (is_header row) (test row true e) in
      record {
        row = row;
        first = (
          b,
          z,
          subst (λ l. Reached default_config StartRecord (strip_bom text) l b z)
              (alone s.rows row (eqb-true (length s.rows) 0 first.0)) r,
        );
        text_row = t;
        refused = ap (λ k. k && not (is_some (columns_named row))) first.1 ∙ ap not h;
      }

  pub no_origin : (row : List (List ℕ)) (why : Reason) (now : Columns) (b : State)
      (z : List ℕ) →
      Reached default_config StartRecord (strip_bom text) (s.rows ++ row ∷ []) b z →
      AllText row → now ≡ columns_from (count == 0) columns row →
      ((count == 0) && is_header row) ≡ false → RefusesRow now row why →
      HasNoOrigin text why
  no_origin row why now b z r t n e h = record {
    rows = s.rows ++ row ∷ [];
    before = without_header s.rows;
    items = items;
    row = row;
    first = (b, z, r);
    text_rows = all_text s.rows row s.text_rows t;
    header = header_more s.rows row s.header
        (λ f. absurd (not_true (sym (test row false e) ∙ f)));
    last = not_passed s.rows row (test row false e);
    origins = same_columns s.rows row items s.origins;
    refused = subst (λ c. RefusesRow c row why) (sym (columns_now row now n)) h;
  }

  pub refuses : (row : List (List ℕ)) (why : Reason) (now : Columns) (b : State)
      (z : List ℕ) →
      Reached default_config StartRecord (strip_bom text) (s.rows ++ row ∷ []) b z →
      AllText row → now ≡ columns_from (count == 0) columns row →
      RefusesItem ((count == 0) && is_header row) now row why → RefusesRows text why
  refuses row Memory now b z r t n h = tt
  refuses row NotText now b z r t n h = absurd h.1
  refuses row Header now b z r t n h = no_columns row b z r t h.0 h.1
  refuses row other now b z r t n h = no_origin row other now b z r t n h.0 h.1

-- why the reader of rows stopped
pub explained : {R : Type 0} (rem : R → Option (List ℕ)) (a b : Reader R) (k : ErrorKind)
    (text : List ℕ) (count : ℕ) (columns : Columns) (items : List Item) (y : List ℕ) →
    a.config ≡ default_config → source_of rem a ≡ Some y →
    RowsSoFar text count columns items a.state y → ExplainsRead rem a b true k →
    RefusesRows text (reason_of k)
explained rem a b (Utf8 position error) text count columns items y c e s h =
    let t = taken (strip_bom text) y s.rows h.1 a.state b.state (pending_of (rem b.rdr) b)
    (rw (c, e) at h.2) s.reached in
    no_text text count columns items a.state y s h.1 b.state t.0 t.2 h.3
explained rem a b other text count columns items y c e s h = tt
