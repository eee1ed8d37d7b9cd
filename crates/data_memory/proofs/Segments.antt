-- Data in three parts, of which each has payloads of one kind: a change of one part is a change of
-- the data.
use Rattle.std.proofs.Common.{◌≡◌, Bool, true, false, ◌||◌, cond, List, [], ◌∷◌, ◌++◌, map}
use Rattle.std.proofs.Common.{refl, ap, ◌∙◌}
use Rattle.std.specs.BTreeMap.{is_at}
use Rattle.std.specs.BTreeSet.{insert_key, replace_key}
use Rattle.std.specs.List.{list_any, AllByRecursion}
use Rattle.std.specs.Ordering.{is_eq, match_ordering}
use Rattle.std.specs.Set.{remove_key}
use Rattle.std.specs.declared.cmp.Ordering.{Ordering}
use Rattle.std.specs.declared.cmp.Ordering.TheVariants.{Less, Equal, Greater}
use Rattle.std.proofs.lemmas.Bool.{true≢false, or_parts}
use Rattle.rtr_payload.specs.Payloads.{Payload}
use Rattle.data_memory.specs.Data.{name_cmp, has_name}

-- the names of all are below p, or above it
abbrev pub Below : Payload → List Payload → Type 0
Below p xs = AllByRecursion (λ q. name_cmp p q ≡ Greater) xs

abbrev pub Above : Payload → List Payload → Type 0
Above p xs = AllByRecursion (λ q. name_cmp p q ≡ Less) xs

pub no_name_below : (p : Payload) (front ds : List Payload) → Below p front →
    has_name (front ++ ds) p ≡ has_name ds p
no_name_below p [] ds h = refl
no_name_below p (x ∷ xs) ds (g, h) =
    ap (λ o. is_eq o || has_name (xs ++ ds) p) g ∙ no_name_below p xs ds h

pub replace_behind : (p : Payload) (front ds : List Payload) → Below p front →
    replace_key name_cmp (front ++ ds) p ≡ front ++ replace_key name_cmp ds p
replace_behind p [] ds h = refl
replace_behind p (x ∷ xs) ds (g, h) =
    ap (λ o. match_ordering o (p ∷ x ∷ xs ++ ds) (p ∷ xs ++ ds)
    (x ∷ replace_key name_cmp (xs ++ ds) p)) g
    ∙ ap (λ l. x ∷ l) (replace_behind p xs ds h)

pub remove_behind : (p : Payload) (front ds : List Payload) → Below p front →
    remove_key (is_at (name_cmp p)) (front ++ ds) ≡ front ++ remove_key (is_at (name_cmp p)) ds
remove_behind p [] ds h = refl
remove_behind p (x ∷ xs) ds (g, h) =
    ap (λ o. cond (is_eq o) (xs ++ ds) (x ∷ remove_key (is_at (name_cmp p)) (xs ++ ds))) g
    ∙ ap (λ l. x ∷ l) (remove_behind p xs ds h)

pub no_name_above : (p : Payload) (rest : List Payload) → Above p rest → has_name rest p ≡ false
no_name_above p [] h = refl
no_name_above p (x ∷ xs) (g, h) =
    ap (λ o. is_eq o || has_name xs p) g ∙ no_name_above p xs h

pub replace_above : (p : Payload) (rest : List Payload) → Above p rest →
    replace_key name_cmp rest p ≡ p ∷ rest
replace_above p [] h = refl
replace_above p (x ∷ xs) (g, h) =
    ap (λ o. match_ordering o (p ∷ x ∷ xs) (p ∷ xs) (x ∷ replace_key name_cmp xs p)) g

remove_above : (p : Payload) (rest : List Payload) → Above p rest →
    remove_key (is_at (name_cmp p)) rest ≡ rest
remove_above p [] h = refl
remove_above p (x ∷ xs) (g, h) =
    ap (λ o. cond (is_eq o) xs (x ∷ remove_key (is_at (name_cmp p)) xs)) g
    ∙ ap (λ l. x ∷ l) (remove_above p xs h)

-- one part, whose order is that of the names
module _ {T : Type 0} (f : T → Payload) (c : T → T → Ordering)
    (same : (a b : T) → name_cmp (f a) (f b) ≡ c a b) where
  pub part_has : (k : T) (ks : List T) (rest : List Payload) → Above (f k) rest →
      has_name (map f ks ++ rest) (f k) ≡ list_any (is_at (c k)) ks
  part_has k [] rest h = no_name_above (f k) rest h
  part_has k (x ∷ ks) rest h =
      ap (λ o. is_eq o || has_name (map f ks ++ rest) (f k)) (same k x)
      ∙ ap (λ b. is_eq (c k x) || b) (part_has k ks rest h)

  insert_at : (k x : T) (ks : List T) (rest tail : List Payload) (o : Ordering) → is_eq o ≡ false →
      tail ≡ map f (insert_key c ks k) ++ rest →
      match_ordering o (f k ∷ f x ∷ map f ks ++ rest) (f k ∷ map f ks ++ rest) (f x ∷ tail)
      ≡ map f (match_ordering o (k ∷ x ∷ ks) (x ∷ ks) (x ∷ insert_key c ks k)) ++ rest
  insert_at k x ks rest tail Less n e = refl
  insert_at k x ks rest tail Equal n e = absurd (true≢false n)
  insert_at k x ks rest tail Greater n e = ap (λ l. f x ∷ l) e

  pub part_insert : (k : T) (ks : List T) (rest : List Payload) → Above (f k) rest →
      list_any (is_at (c k)) ks ≡ false →
      replace_key name_cmp (map f ks ++ rest) (f k) ≡ map f (insert_key c ks k) ++ rest
  part_insert k [] rest h n = replace_above (f k) rest h
  part_insert k (x ∷ ks) rest h n =
      let (first, others) = or_parts (is_eq (c k x)) (list_any (is_at (c k)) ks) n in
      ap (λ o. match_ordering o (f k ∷ f x ∷ map f ks ++ rest) (f k ∷ map f ks ++ rest)
      (f x ∷ replace_key name_cmp (map f ks ++ rest) (f k))) (same k x)
      ∙ insert_at k x ks rest (replace_key name_cmp (map f ks ++ rest) (f k)) (c k x) first
      (part_insert k ks rest h others)

  remove_at : (x : T) (ks gone : List T) (rest tail : List Payload) (b : Bool) →
      tail ≡ map f gone ++ rest →
      cond b (map f ks ++ rest) (f x ∷ tail) ≡ map f (cond b ks (x ∷ gone)) ++ rest
  remove_at x ks gone rest tail true e = refl
  remove_at x ks gone rest tail false e = ap (λ l. f x ∷ l) e

  pub part_remove : (k : T) (ks : List T) (rest : List Payload) → Above (f k) rest →
      remove_key (is_at (name_cmp (f k))) (map f ks ++ rest) ≡
      map f (remove_key (is_at (c k)) ks) ++ rest
  part_remove k [] rest h = remove_above (f k) rest h
  part_remove k (x ∷ ks) rest h =
      ap (λ o. cond (is_eq o) (map f ks ++ rest)
      (f x ∷ remove_key (is_at (name_cmp (f k))) (map f ks ++ rest))) (same k x)
      ∙ remove_at x ks (remove_key (is_at (c k)) ks) rest _ (is_eq (c k x))
      (part_remove k ks rest h)

pub all_map : {T : Type 0} (P : Payload → Type 0) (f : T → Payload) → ((x : T) → P (f x)) →
    (xs : List T) → AllByRecursion P (map f xs)
all_map P f h [] = tt
all_map P f h (x ∷ xs) = (h x, all_map P f h xs)

pub all_append : (P : Payload → Type 0) (xs ys : List Payload) → AllByRecursion P xs →
    AllByRecursion P ys → AllByRecursion P (xs ++ ys)
all_append P [] ys h k = k
all_append P (x ∷ xs) ys (g, h) k = (g, all_append P xs ys h k)
