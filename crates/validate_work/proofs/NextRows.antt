-- The row of an origin AS that comes next, of entries that are looked at one after the other.
use Rattle.std.proofs.Common.{◌≡◌, ◌⊎◌, ℕ, ◌<◌, ◌≤◌, ◌-◌, ◌+◌, Bool, true, false, zero, suc}
use Rattle.std.proofs.Common.{List, [], ◌∷◌, ◌++◌, Option, Some, None, refl, sym, subst, ◌∙◌}
use Rattle.std.proofs.Common.{append-nil, append_assoc, ap, arith, inl, inr, is_some, map, not}
use Rattle.std.proofs.Common.{OnOk, Result, Ok, Err}
use Rattle.std.proofs.lemmas.List.{map-append}
use Rattle.std.proofs.lemmas.List.Elements.{Contains-append_cases, Contains-append_left}
use Rattle.std.proofs.lemmas.List.Elements.{Contains-append_right}
use Rattle.std.specs.List.{Contains}
use Rattle.validate_work.specs.RouteOrigins.{AddsRows, AreNextRows, IsNextRow, before_next, is_left}
use Rattle.validate_work.specs.RouteOrigins.{nearer, row_of, row_text, rows_text, stands_before}
use Rattle.validate_work.specs.declared.form.Form.{Form}
use Rattle.validate_work.specs.declared.origins.OriginRow.{OriginRow}
use Rattle.validate_work.specs.declared.states.States.{States}

-- an element of a list of one
is_one : (e x : ℕ × States) → Contains (e ∷ []) x → x ≡ e
is_one e x (zero, small, is) = sym is
is_one e x (suc k, small, is) = absurd (omega (arith, small))

one_in : (e : ℕ × States) → Contains (e ∷ []) e
one_in e = (0, omega arith, refl)

-- the order is one
not_both : (r s : OriginRow) → stands_before r s ≡ true → stands_before s r ≡ false
not_both r s h = grind (arith, h)

follows : (r s t : OriginRow) → stands_before r s ≡ false → stands_before t s ≡ true →
    stands_before r t ≡ false
follows r s t h k = grind (arith, h, k)

never_first : (r : OriginRow) → stands_before r r ≡ false
never_first r = grind arith

pub none_yet : (after : Option OriginRow) → IsNextRow [] after None
none_yet after e (k, small, is) = absurd (omega (arith, small))

module _ (es : List (ℕ × States)) (after : Option OriginRow) (e : ℕ × States) where
  -- one more entry that doesn't come after the row
  passes : (next : Option OriginRow) → is_left after (row_of e) ≡ false →
      IsNextRow es after next → IsNextRow (es ++ e ∷ []) after next
  passes None out h = λ x has.
      elim (Contains-append_cases es (e ∷ []) x has) [
        | inl old ↦ h x old
        | inr new ↦ subst (λ y. is_left after (row_of y) ≡ false) (sym (is_one e x new)) out
      ]
  passes (Some r) out (has, left, first) = (
    Contains-append_left es (e ∷ []) (r.asn, r.states) has,
    left,
    λ x there is.
        elim (Contains-append_cases es (e ∷ []) x there) [
          | inl old ↦ first x old is
          | inr new ↦
              let same = subst (λ y. is_left after (row_of y) ≡ true) (is_one e x new) is in
              let wrong : true ≡ false = sym same ∙ out in cc
        ],
  )

  -- one that comes after it, and before all others
  is_new : is_left after (row_of e) ≡ true →
      ((x : ℕ × States) → Contains es x → is_left after (row_of x) ≡ true →
      stands_before (row_of x) (row_of e) ≡ false) →
      IsNextRow (es ++ e ∷ []) after (Some (row_of e))
  is_new left first = (
    Contains-append_right es (e ∷ []) e (one_in e),
    left,
    λ x there is.
        elim (Contains-append_cases es (e ∷ []) x there) [
          | inl old ↦ first x old is
          | inr new ↦ subst (λ y. stands_before (row_of y) (row_of e) ≡ false)
              (sym (is_one e x new)) (never_first (row_of e))
        ],
  )

  -- one that comes after it, but not before the next one so far
  stays : (r : OriginRow) → stands_before (row_of e) r ≡ false → IsNextRow es after (Some r) →
      IsNextRow (es ++ e ∷ []) after (Some r)
  stays r later (has, left, first) = (
    Contains-append_left es (e ∷ []) (r.asn, r.states) has,
    left,
    λ x there is.
        elim (Contains-append_cases es (e ∷ []) x there) [
          | inl old ↦ first x old is
          | inr new ↦ subst (λ y. stands_before (row_of y) r ≡ false) (sym (is_one e x new)) later
        ],
  )

  by_order : (b : Bool) (r : OriginRow) → stands_before (row_of e) r ≡ b →
      is_left after (row_of e) ≡ true → IsNextRow es after (Some r) →
      IsNextRow (es ++ e ∷ []) after (before_next (Some r) (row_of e))
  by_order true r sooner left (has, is, first) =
      rw sooner (is_new left (λ x old more.
      follows (row_of x) r (row_of e) (first x old more) sooner))
  by_order false r later left h = rw later (stays r later h)

  by_left : (b : Bool) (next : Option OriginRow) → is_left after (row_of e) ≡ b →
      IsNextRow es after next → IsNextRow (es ++ e ∷ []) after (nearer after next (row_of e))
  by_left false next out h = rw out (passes next out h)
  by_left true None left h =
      rw left (is_new left (λ x old more. let wrong : true ≡ false = sym more ∙ h x old in cc))
  by_left true (Some r) left h =
      rw left (by_order (stands_before (row_of e) r) r refl left h)

  pub next_too : (next : Option OriginRow) → IsNextRow es after next →
      IsNextRow (es ++ e ∷ []) after (nearer after next (row_of e))
  next_too next h = by_left (is_left after (row_of e)) next refl h

-- entries that an iterator gives, with one more
pub turned_too : {A : Type 0} (f : A → ℕ × States) (xs : List A) (x : A)
    (after next new : Option OriginRow) → IsNextRow (map f xs) after next →
    new ≡ nearer after next (row_of (f x)) → IsNextRow (map f (xs ++ x ∷ [])) after new
turned_too f xs x after next new h e =
    subst (λ es. IsNextRow es after new) (sym (map-append f xs (x ∷ [])))
    (subst (λ r. IsNextRow (map f xs ++ f x ∷ []) after r) (sym e)
    (next_too (map f xs) after (f x) next h))

-- ---- rows that are added

pub no_rows : (form : Form) (most : ℕ) (es : List (ℕ × States)) (after : Option OriginRow)
    (old : List ℕ) → most ≡ 0 → AddsRows form most es after old old
no_rows form zero es after old e = ([], refl, sym (append-nil old))
no_rows form (suc most) es after old e = absurd (omega (arith, e))

pub rows_end : (form : Form) (most : ℕ) (es : List (ℕ × States)) (after : Option OriginRow)
    (old : List ℕ) → IsNextRow es after None → AddsRows form most es after old old
rows_end form zero es after old h = ([], refl, sym (append-nil old))
rows_end form (suc most) es after old h = ([], h, sym (append-nil old))

turned_back : (b c : Bool) → b ≡ not c → c ≡ not b
turned_back true true e = absurd cc
turned_back true false e = refl
turned_back false true e = refl
turned_back false false e = absurd cc

-- one row, and those that come after it, where they could be added
pub row_added : {T E : Type 0} (r : Result T E) (form : Form) (n less : ℕ)
    (es : List (ℕ × States)) (after : Option OriginRow) (row : OriginRow)
    (first : Bool) (old mid new : List ℕ) → n ≡ suc less → IsNextRow es after (Some row) →
    is_some after ≡ not first → mid ≡ old ++ row_text form first row →
    OnOk r (AddsRows form less es (Some row) mid new) → OnOk r (AddsRows form n es after old new)
row_added (Ok u) form n less es after row first old mid new e next is one (rows, are, made) =
    subst (λ k. AddsRows form k es after old new) (sym e) (
      row ∷ rows,
      (next, are),
      made ∙ ap (λ l. l ++ rows_text form (Some row) rows)
          (subst (λ b. mid ≡ old ++ row_text form b row) (turned_back (is_some after) first is) one)
          ∙ append_assoc old (row_text form (not (is_some after)) row)
          (rows_text form (Some row) rows),
    )
row_added (Err why) form n less es after row first old mid new e next is one h = tt
