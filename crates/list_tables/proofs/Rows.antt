-- Rows and items that were added one after the other.
use Rattle.std.proofs.Common.{◌≡◌, ℕ, Bool, true, false, List, [], ◌∷◌, ◌++◌, map, flat_map, drop}
use Rattle.std.proofs.Common.{codes, refl, sym, ap, ◌∙◌}
use Rattle.std.proofs.lemmas.Grind.{flat_map-append}
use Rattle.std.proofs.lemmas.List.{append_assoc, append-nil, map-append, flat_map_more}
use Rattle.std.proofs.lemmas.List.Folds.{flat_map-map}
use Rattle.rtr_payload.specs.Meanings.{key_of, origin_of}
use Rattle.rtr_payload.specs.Payloads.{Payload}
use Rattle.rtr_payload.specs.declared.payload.RouteOrigin.{RouteOrigin}
use Rattle.rtr_payload.specs.declared.payload.RouterKey.{RouterKey}
use Rattle.data_memory.specs.Contents.{entry_of, joined}
use Rattle.data_memory.proofs.Fronts.{turned_all}
use Rattle.list_tables.specs.PrivateObjects.{comma_unless}

-- ---- rows

-- one row more was added
pub row_more : {A B : Type 0} (see : A → B) (row : B → List ℕ) (xs : List A) (x : A)
    (start before after : List ℕ) → before ≡ start ++ flat_map row (map see xs) →
    after ≡ before ++ row (see x) → after ≡ start ++ flat_map row (map see (xs ++ x ∷ []))
row_more see row xs x start before after is adds =
    adds ∙ ap (λ (l : List ℕ). l ++ row (see x)) is ∙ flat_map_more row start (map see xs) (see x)
    ∙ ap (λ l. start ++ flat_map row l) (sym (map-append see xs (x ∷ [])))

-- all were
pub row_last : {A B : Type 0} (see : A → B) (row : B → List ℕ) (xs : List A) (all rest : List B)
    (start after : List ℕ) → all ≡ map see xs ++ rest → rest ≡ [] →
    after ≡ start ++ flat_map row (map see xs) → after ≡ start ++ flat_map row all
row_last see row xs all rest start after turned none is =
    is ∙ ap (λ l. start ++ flat_map row l) (sym (turned_all see xs all rest turned none))

-- ---- items with commas

-- whether there are none
abbrev pub is_none : {A : Type 0} → List A → Bool
is_none [] = true
is_none (x ∷ xs) = false

-- the comma before the next item
abbrev comma_after : {A : Type 0} → List A → List ℕ
comma_after xs = comma_unless (is_none xs)

pub some_more : {A : Type 0} (xs : List A) (x : A) → false ≡ is_none (xs ++ x ∷ [])
some_more [] x = refl
some_more (y ∷ ys) x = refl

cut_more : {B : Type 0} (item : B → List ℕ) (xs : List B) (x : B) →
    drop 1 (flat_map (λ y. 44 ∷ item y) (xs ++ x ∷ []))
    ≡ drop 1 (flat_map (λ y. 44 ∷ item y) xs) ++ (comma_after xs ++ item x)
cut_more item [] x = append-nil (item x)
cut_more item (y ∷ ys) x =
    ap (λ (l : List ℕ). item y ++ l)
    (flat_map-append (λ z. 44 ∷ item z) ys (x ∷ [])
    ∙ ap (λ (l : List ℕ). flat_map (λ z. 44 ∷ item z) ys ++ l) (append-nil (44 ∷ item x)))
    ∙ sym (append_assoc (item y) (flat_map (λ z. 44 ∷ item z) ys) (44 ∷ item x))

comma_map : {A B : Type 0} (see : A → B) (xs : List A) →
    comma_after (map see xs) ≡ comma_after xs
comma_map see [] = refl
comma_map see (x ∷ xs) = refl

-- the items of these, the first without its comma
abbrev pub items_so_far : {A B : Type 0} → (A → B) → (B → List ℕ) → List A → List ℕ
items_so_far see item xs = drop 1 (flat_map (λ y. 44 ∷ item y) (map see xs))

-- one item more was added after what stands before it
pub item_more : {A B : Type 0} (see : A → B) (item : B → List ℕ) (xs : List A) (x : A)
    (start old new said : List ℕ) (first : Bool) → old ≡ start ++ items_so_far see item xs →
    first ≡ is_none xs → said ≡ comma_unless first ++ item (see x) → new ≡ old ++ said →
    new ≡ start ++ items_so_far see item (xs ++ x ∷ [])
item_more see item xs x start old new said first is none parts adds =
    adds ∙ ap (λ (l : List ℕ). l ++ said) is
    ∙ append_assoc start (items_so_far see item xs) said
    ∙ ap (λ (l : List ℕ). start ++ (items_so_far see item xs ++ l))
    (parts ∙ ap (λ (b : Bool). comma_unless b ++ item (see x)) none
    ∙ ap (λ (l : List ℕ). l ++ item (see x)) (sym (comma_map see xs)))
    ∙ ap (λ (l : List ℕ). start ++ l)
    (sym (cut_more item (map see xs) (see x)))
    ∙ ap (λ l. start ++ drop 1 (flat_map (λ y. 44 ∷ item y) l))
    (sym (map-append see xs (x ∷ [])))

-- all were
pub item_last : {A B : Type 0} (see : A → B) (item : B → List ℕ) (xs : List A)
    (all rest : List B) (start after : List ℕ) → all ≡ map see xs ++ rest → rest ≡ [] →
    after ≡ start ++ items_so_far see item xs →
    after ≡ start ++ drop 1 (flat_map (λ y. 44 ∷ item y) all)
item_last see item xs all rest start after turned none is =
    is ∙ ap (λ l. start ++ drop 1 (flat_map (λ y. 44 ∷ item y) l))
    (sym (turned_all see xs all rest turned none))

-- an item after a comma and a line feed, which were added first
pub on_a_line : (first : Bool) (old mid new line object : List ℕ) →
    line ≡ comma_unless first ++ codes "\n" → mid ≡ old ++ line → new ≡ mid ++ object →
    new ≡ old ++ (comma_unless first ++ (codes "\n" ++ object))
on_a_line first old mid new line object is adds more =
    more ∙ ap (λ (l : List ℕ). l ++ object) (adds ∙ ap (λ (l : List ℕ). old ++ l) is)
    ∙ append_assoc old (comma_unless first ++ codes "\n") object
    ∙ ap (λ (l : List ℕ). old ++ l) (append_assoc (comma_unless first) (codes "\n") object)

-- ---- a table of payloads that are listed by kind

none_at : {T : Type 0} (piece : Payload → List ℕ) (p : T → Payload) →
    ((t : T) → piece (p t) ≡ []) → (ts : List T) → flat_map piece (map p ts) ≡ []
none_at piece p none [] = refl
none_at piece p none (t ∷ ts) =
    ap (λ (l : List ℕ). l ++ flat_map piece (map p ts)) (none t) ∙ none_at piece p none ts

module _ (piece : Payload → List ℕ) (os : List RouteOrigin) (ks : List RouterKey)
    (es : List (ℕ × List ℕ)) (d : List Payload) (is : d ≡ joined os ks es) where
  by_kinds : flat_map piece d ≡ flat_map piece (map origin_of os)
      ++ (flat_map piece (map key_of ks) ++ flat_map piece (map entry_of es))
  by_kinds =
      ap (flat_map piece) is
      ∙ flat_map-append piece (map origin_of os) (map key_of ks ++ map entry_of es)
      ∙ ap (λ (l : List ℕ). flat_map piece (map origin_of os) ++ l)
      (flat_map-append piece (map key_of ks) (map entry_of es))

  pub of_origins : ((k : RouterKey) → piece (key_of k) ≡ []) →
      ((e : ℕ × List ℕ) → piece (entry_of e) ≡ []) →
      flat_map (λ o. piece (origin_of o)) os ≡ flat_map piece d
  of_origins no_key no_entry =
      sym (flat_map-map piece origin_of os)
      ∙ sym (append-nil (flat_map piece (map origin_of os)))
      ∙ sym (by_kinds ∙ ap (λ (l : List ℕ). flat_map piece (map origin_of os) ++ l)
      (ap (λ (l : List ℕ). l ++ flat_map piece (map entry_of es))
      (none_at piece key_of no_key ks) ∙ none_at piece entry_of no_entry es))
