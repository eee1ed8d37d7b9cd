-- What is printed as units is a delta, of what the version has.
use Rattle.std.proofs.Common.{◌≡◌, ℕ, Bool, true, false, not, ◌||◌, cond, List, [], ◌∷◌, ◌++◌}
use Rattle.std.proofs.Common.{map, refl, sym, ap, ◌∙◌}
use Rattle.std.proofs.lemmas.Bool.{false≢true}
use Rattle.std.proofs.lemmas.Grind.{flat_map-append}
use Rattle.std.proofs.lemmas.List.{map-append}
use Rattle.std.specs.BTreeMap.{is_at}
use Rattle.std.specs.List.{filter, flat_map, list_any}
use Rattle.std.specs.Ordering.{is_eq}
use Rattle.std.specs.Prelude.{nat_le}
use Rattle.std.specs.declared.cmp.Ordering.{Ordering}
use Rattle.std.specs.declared.cmp.Ordering.TheVariants.{Less, Equal, Greater}
use Rattle.rtr_payload.specs.Orders.{payload_cmp}
use Rattle.rtr_payload.specs.Payloads.{Payload, origin, key, aspa, smallest_version}
use Rattle.rtr_payload.specs.Units.{form_of}
use Rattle.data_memory.proofs.Names.{very_name}
use Rattle.data_memory.specs.Changes.{announcements, withdrawals}
use Rattle.data_memory.specs.Data.{Change, announcement, has, has_name, name_cmp, name_of}
use Rattle.data_memory.specs.Data.{withdrawal}
use Rattle.data_memory.specs.Deltas.{change_forms, changes_for, data_for, unit_of}
use Rattle.diff_work.specs.Differences.{change_piece, change_pieces, differences}
use Rattle.diff_work.specs.declared.words.Form.TheVariants.{Units}
use Rattle.diff_work.proofs.Going.{pieces_append}

-- ---- payloads of one name are of one kind

one_kind : (p q : Payload) → name_cmp p q ≡ Equal → smallest_version q ≡ smallest_version p
unfolding name_cmp
one_kind (origin a) (origin b) h = refl
one_kind (origin a) (key b) h = absurd cc
one_kind (origin a) (aspa b) h = absurd cc
one_kind (key a) (origin b) h = absurd cc
one_kind (key a) (key b) h = refl
one_kind (key a) (aspa b) h = absurd cc
one_kind (aspa a) (origin b) h = absurd cc
one_kind (aspa a) (key b) h = absurd cc
one_kind (aspa a) (aspa b) h = refl

is_equal : (o : Ordering) → is_eq o ≡ true → o ≡ Equal
is_equal Less h = absurd (false≢true h)
is_equal Equal h = refl
is_equal Greater h = absurd (false≢true h)

equal_at : (c : Payload → Ordering) (q : Payload) → is_at c q ≡ true → c q ≡ Equal
equal_at c q h = is_equal (c q) h

-- ---- what the version has is found among what it has

never : (b : Bool) → (b ≡ true → false ≡ true) → b ≡ false
never true k = absurd (false≢true (k refl))
never false k = refl

module _ (v : ℕ) (t : Payload → Bool)
    (kind : (q : Payload) → t q ≡ true → nat_le (smallest_version q) v ≡ true) where
  any_step : (x : Payload) (ys xs : List Payload) (b : Bool) → (t x ≡ true → b ≡ true) →
      list_any t ys ≡ list_any t xs → list_any t (cond b (x ∷ ys) ys) ≡ list_any t (x ∷ xs)
  any_step x ys xs true k e = ap (λ c. t x || c) e
  any_step x ys xs false k e = e ∙ sym (ap (λ c. c || list_any t xs) (never (t x) k))

  any_for : (d : List Payload) → list_any t (data_for v d) ≡ list_any t d
  any_for [] = refl
  any_for (x ∷ xs) =
      any_step x (data_for v xs) xs (nat_le (smallest_version x) v) (kind x) (any_for xs)

module _ (v : ℕ) (p : Payload) (has_it : nat_le (smallest_version p) v ≡ true) where
  named_kind : (q : Payload) → is_at (name_cmp p) q ≡ true → nat_le (smallest_version q) v ≡ true
  named_kind q h =
      ap (λ n. nat_le n v) (one_kind p q (equal_at (name_cmp p) q h)) ∙ has_it

  very_kind : (q : Payload) → is_at (payload_cmp p) q ≡ true →
      nat_le (smallest_version q) v ≡ true
  very_kind q h =
      ap (λ n. nat_le n v) (one_kind p q (very_name p q (equal_at (payload_cmp p) q h))) ∙ has_it

  name_for : (d : List Payload) → has_name d p ≡ has_name (data_for v d) p
  name_for d = sym (any_for v (is_at (name_cmp p)) named_kind d)

  has_for : (d : List Payload) → has d p ≡ has (data_for v d) p
  has_for d = sym (any_for v (is_at (payload_cmp p)) very_kind d)

-- ---- pieces of the payloads that pass a test

module _ (v : ℕ) (make : Payload → Change)
    (kind : (p : Payload) → smallest_version (make p).payload ≡ smallest_version p)
    (f g : Payload → Bool)
    (same : (p : Payload) → nat_le (smallest_version p) v ≡ true → f p ≡ g p) where
  piece_of : (p : Payload) (b : Bool) → nat_le (smallest_version p) v ≡ b →
      change_piece Units v (make p) ≡ cond b (form_of (unit_of v (make p))) []
  unfolding change_piece
  piece_of p b is =
      ap (λ n. cond (nat_le n v) (form_of (unit_of v (make p))) []) (kind p)
      ∙ ap (λ c. cond c (form_of (unit_of v (make p))) []) is

  unit_piece : (p : Payload) (xs ys : List Payload) (d : Bool) →
      nat_le (smallest_version p) v ≡ true →
      change_pieces Units v (map make xs) ≡ change_forms v (map make ys) →
      change_pieces Units v (map make (cond d (p ∷ xs) xs)) ≡
      change_forms v (map make (cond d (p ∷ ys) ys))
  unit_piece p xs ys true is e =
      ap (λ l. l ++ change_pieces Units v (map make xs)) (piece_of p true is)
      ∙ ap (λ l. form_of (unit_of v (make p)) ++ l) e
  unit_piece p xs ys false is e = e

  step : (p : Payload) (xs ys : List Payload) (b c : Bool) →
      nat_le (smallest_version p) v ≡ b → (b ≡ true → c ≡ g p) →
      change_pieces Units v (map make xs) ≡ change_forms v (map make (filter g ys)) →
      change_pieces Units v (map make (cond c (p ∷ xs) xs)) ≡
      change_forms v (map make (filter g (cond b (p ∷ ys) ys)))
  step p xs ys true c is alike e =
      ap (λ b. change_pieces Units v (map make (cond b (p ∷ xs) xs))) (alike refl)
      ∙ unit_piece p xs (filter g ys) (g p) is e
  step p xs ys false true is alike e =
      ap (λ l. l ++ change_pieces Units v (map make xs)) (piece_of p false is) ∙ e
  step p xs ys false false is alike e = e

  pieces_for : (ps : List Payload) →
      change_pieces Units v (map make (filter f ps)) ≡
      change_forms v (map make (filter g (data_for v ps)))
  pieces_for [] = refl
  pieces_for (p ∷ ps) =
      step p (filter f ps) (data_for v ps) (nat_le (smallest_version p) v) (f p) refl (same p)
      (pieces_for ps)

-- ---- the delta

name_version : (p : Payload) → smallest_version (name_of p) ≡ smallest_version p
name_version (origin o) = refl
name_version (key k) = refl
name_version (aspa a) = refl

forms_both : (v : ℕ) (xs ys : List Change) →
    change_forms v (xs ++ ys) ≡ change_forms v xs ++ change_forms v ys
forms_both v xs ys =
    ap (flat_map form_of) (map-append (unit_of v) xs ys)
    ∙ flat_map-append form_of (map (unit_of v) xs) (map (unit_of v) ys)

pub units_delta : (v : ℕ) (old new : List Payload) (end : List ℕ) →
    differences Units v old new end ≡ change_forms v (changes_for v old new) ++ end
units_delta v old new end =
    let come = pieces_for v announcement (λ p. refl) (λ p. not (has old p))
    (λ p. not (has (data_for v old) p)) (λ p is. ap not (has_for v p is old)) new in
    let gone = pieces_for v withdrawal name_version (λ p. not (has_name new p))
    (λ p. not (has_name (data_for v new) p)) (λ p is. ap not (name_for v p is new)) old in
    ap (λ l. l ++ end)
    (pieces_append Units v (announcements old new) (withdrawals old new)
    ∙ ap (λ l. l ++ change_pieces Units v (withdrawals old new)) come
    ∙ ap (λ l. change_forms v (announcements (data_for v old) (data_for v new)) ++ l) gone
    ∙ sym (forms_both v (announcements (data_for v old) (data_for v new))
    (withdrawals (data_for v old) (data_for v new))))
