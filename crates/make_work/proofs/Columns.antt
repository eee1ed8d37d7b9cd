-- Where a header names a part, of which some fields were looked at.
use Rattle.std.proofs.Common.{◌≡◌, ℕ, ◌+◌, ◌<◌, ◌≤◌, Bool, true, false, cond, suc, zero}
use Rattle.std.proofs.Common.{List, [], ◌∷◌, length, drop, refl, sym, ap, ◌∙◌, arith}
use Rattle.std.proofs.Math.ListN.{drop_of_length-le}
use Rattle.csv.specs.Records.{field_at}
use Rattle.make_work.specs.CsvColumns.{as_column, column_of, field, found_again, indices_from}
use Rattle.make_work.specs.JsonNames.{is_part}
use Rattle.make_work.specs.declared.csv_columns.Column.{Column}
use Rattle.make_work.specs.declared.csv_columns.Column.TheVariants.{Missing, At, Twice}
use Rattle.make_work.specs.declared.json_names.Part.{Part}

-- a column that was found, with the indices that are left
abbrev pub with_more : Column → List ℕ → Column
with_more Missing js = as_column js
with_more (At i) js = as_column (i ∷ js)
with_more Twice js = Twice

-- the fields so far don't decide but for this
pub record FoundSoFar (p : Part) (row : List (List ℕ)) (i : ℕ) (column : Column) : Type 0 where
  pub same : column_of p row ≡ with_more column (indices_from p i (drop i row))

pub starts : (p : Part) (row : List (List ℕ)) → FoundSoFar p row 0 Missing
starts p row = record { same = refl }

indices_more : (p : Part) (i : ℕ) (f : List ℕ) (fs : List (List ℕ)) (b : Bool) →
    is_part p f ≡ b →
    indices_from p i (f ∷ fs)
    ≡ cond b (i ∷ indices_from p (i + 1) fs) (indices_from p (i + 1) fs)
unfolding indices_from
indices_more p i f fs b e =
    ap (λ k. cond k (i ∷ indices_from p (i + 1) fs) (indices_from p (i + 1) fs)) e

indices_none : (p : Part) (i : ℕ) → indices_from p i [] ≡ []
unfolding indices_from
indices_none p i = refl

with_found : (c : Column) (i : ℕ) (js : List ℕ) →
    with_more c (i ∷ js) ≡ with_more (found_again c i) js
with_found Missing i js = refl
with_found (At j) i js = refl
with_found Twice i js = refl

with_none : (c : Column) → with_more c [] ≡ c
with_none Missing = refl
with_none (At i) = refl
with_none Twice = refl

drop_field : (row : List (List ℕ)) (i : ℕ) → i < length row →
    drop i row ≡ field row i ∷ drop (suc i) row
unfolding field_at
drop_field [] i h = absurd (omega (arith, h))
drop_field (f ∷ fs) zero h = refl
drop_field (f ∷ fs) (suc i) h = drop_field fs i (omega (arith, h))

module _ (p : Part) (row : List (List ℕ)) (i : ℕ) (c : Column) (s : FoundSoFar p row i c) where
  module _ (small : i < length row) where
    here : drop i row ≡ field row i ∷ drop (i + 1) row
    here =
        let next : suc i ≡ i + 1 = omega arith in
        drop_field row i small ∙ ap (λ j. field row i ∷ drop j row) next

    at : (b : Bool) → is_part p (field row i) ≡ b →
        column_of p row
        ≡ with_more c (cond b (i ∷ indices_from p (i + 1) (drop (i + 1) row))
        (indices_from p (i + 1) (drop (i + 1) row)))
    at b e =
        s.same ∙ ap (λ l. with_more c (indices_from p i l)) here
        ∙ ap (with_more c) (indices_more p i (field row i) (drop (i + 1) row) b e)

    pub passed : is_part p (field row i) ≡ false → FoundSoFar p row (i + 1) c
    passed e = record { same = at false e }

    pub found : is_part p (field row i) ≡ true → FoundSoFar p row (i + 1) (found_again c i)
    found e = record { same = at true e ∙ with_found c i _ }

  pub ended : length row ≤ i → c ≡ column_of p row
  ended large =
      sym (s.same ∙ ap (λ l. with_more c (indices_from p i l)) (drop_of_length-le row large)
      ∙ ap (with_more c) (indices_none p i) ∙ with_none c)
