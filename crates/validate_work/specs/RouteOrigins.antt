-- The states of routes by their origin AS, and in which order the ASes are listed. Order and words
-- are this program's own.
use Rattle.std.specs.Prelude.{◌≡◌, ⊤, ℕ, ◌∷◌, [], ◌++◌, ◌==◌, ◌&&◌, ◌||◌, nat_lt, zero, suc}
use Rattle.std.specs.Prelude.{Bool, true, false, List, Option, Some, None, unwrap_or, is_some, not}
use Rattle.std.specs.Prelude.{codes, decimal, if◌then◌else◌}
use Rattle.std.specs.BTreeMap.{insert_entry, is_at}
use Rattle.std.specs.List.{Contains}
use Rattle.std.specs.Map.{lookup}
use Rattle.std.specs.Ordering.{nat_cmp}
use Rattle.data_validation.specs.declared.validity.Validity.{Validity}
use Rattle.validate_work.specs.RouteStates.{no_states, states_text, with_state}
use Rattle.validate_work.specs.declared.form.Form.{Form}
use Rattle.validate_work.specs.declared.form.Form.TheVariants.{Text, Json}
use Rattle.validate_work.specs.declared.origins.OriginRow.{OriginRow}
use Rattle.validate_work.specs.declared.states.States.{States}

-- ---- states by AS, which ascend by AS

-- those of an AS
abbrev pub states_at : ℕ → List (ℕ × States) → States
states_at asn es = unwrap_or (lookup (is_at (nat_cmp asn)) es) no_states

-- with one more route of this origin AS and this validity. A route without a single origin AS, as
-- one whose path ends with an AS_SET, is of none of them.
abbrev pub with_origin : Validity → (origin : Option ℕ) → List (ℕ × States) → List (ℕ × States)
with_origin state None es = es
with_origin state (Some asn) es = insert_entry nat_cmp es asn (with_state state (states_at asn es))

-- ---- their order

-- by more invalid routes, and of as many by the smaller AS
abbrev pub stands_before : OriginRow → OriginRow → Bool
stands_before r s = nat_lt s.states.invalid r.states.invalid
    || ((r.states.invalid == s.states.invalid) && nat_lt r.asn s.asn)

-- it comes after this row, if there is one
abbrev pub is_left : (after : Option OriginRow) → OriginRow → Bool
is_left None r = true
is_left (Some last) r = stands_before last r

abbrev pub row_of : ℕ × States → OriginRow
row_of e = record { asn = e.0; states = e.1 }

-- the row that comes next after one, or the first one; or none is left
abbrev pub IsNextRow : List (ℕ × States) → (after : Option OriginRow) → Option OriginRow → Type 0
IsNextRow es after None = (e : ℕ × States) → Contains es e → is_left after (row_of e) ≡ false
IsNextRow es after (Some r) = Contains es (r.asn, r.states) × (is_left after r ≡ true)
    × ((e : ℕ × States) → Contains es e → is_left after (row_of e) ≡ true →
    stands_before (row_of e) r ≡ false)

-- the rows that come after one, each the next: this many, unless there are fewer
abbrev pub AreNextRows : (most : ℕ) → List (ℕ × States) → (after : Option OriginRow) →
    List OriginRow → Type 0
AreNextRows zero es after rows = rows ≡ []
AreNextRows (suc most) es after [] = IsNextRow es after None
AreNextRows (suc most) es after (r ∷ rows) =
    IsNextRow es after (Some r) × AreNextRows most es (Some r) rows

-- ---- their words

abbrev pub first_label : Form → (is_first : Bool) → List ℕ
first_label Text is_first = codes "AS"
first_label Json true = codes "{\"asn\":"
first_label Json false = codes ",{\"asn\":"

abbrev pub row_states_text : Form → States → List ℕ
row_states_text Text s = states_text (codes " valid ") (codes " invalid ") (codes " not found ")
    (codes "\n") s
row_states_text Json s = states_text (codes ",\"valid\":") (codes ",\"invalid\":")
    (codes ",\"not found\":") (codes "}") s

-- AS64496 valid 1 invalid 2 not found 3, or
-- {"asn":64496,"valid":1,"invalid":2,"not found":3}
abbrev pub row_text : Form → (is_first : Bool) → OriginRow → List ℕ
row_text form is_first r =
    (first_label form is_first ++ decimal r.asn) ++ row_states_text form r.states

abbrev pub rows_text : Form → (after : Option OriginRow) → List OriginRow → List ℕ
rows_text form after [] = []
rows_text form after (r ∷ rows) =
    row_text form (not (is_some after)) r ++ rows_text form (Some r) rows

-- they are added to a line
abbrev pub AddsRows : Form → (most : ℕ) → List (ℕ × States) → (after : Option OriginRow) →
    (old new : List ℕ) → Type 0
AddsRows form most es after old new = (rows : List OriginRow) × AreNextRows most es after rows
    × (new ≡ old ++ rows_text form after rows)

-- the row, if it comes after the one and before the next one so far
abbrev pub before_next : Option OriginRow → OriginRow → Option OriginRow
before_next None r = Some r
before_next (Some other) r = if stands_before r other then Some r else Some other

abbrev pub nearer : (after next : Option OriginRow) → OriginRow → Option OriginRow
nearer after next r = if is_left after r then before_next next r else next
