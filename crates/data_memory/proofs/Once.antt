-- No two changes from old data to new are of one name.
use Rattle.std.proofs.Common.{◌≡◌, Bool, true, false, not, cond, List, [], ◌∷◌, ◌++◌, map}
use Rattle.std.proofs.Common.{refl, ap, ◌∙◌}
use Rattle.std.proofs.lemmas.Bool.{or_parts}
use Rattle.std.proofs.lemmas.List.Kept.{IsStrictlySortedBy-filter}
use Rattle.std.specs.List.{filter, AllByRecursion}
use Rattle.std.specs.List.Sorted.{IsStrictlySortedBy}
use Rattle.std.specs.Ordering.{is_eq}
use Rattle.std.specs.declared.cmp.Ordering.TheVariants.{Less}
use Rattle.rtr_payload.specs.Payloads.{Payload, origin, key, aspa}
use Rattle.data_memory.specs.Data.{name_cmp, name_of, has, has_name, IsData, Change}
use Rattle.data_memory.specs.Data.{announcement, withdrawal}
use Rattle.data_memory.specs.Changes.{AreApart, withdrawals, changes}
use Rattle.data_memory.proofs.Names.{name_alike}
use Rattle.data_memory.proofs.Merge.{all_filter, laws}

alike_name : (p q : Payload) → name_cmp p (name_of q) ≡ name_cmp p q
unfolding name_cmp
alike_name p (origin o) = refl
alike_name p (key k) = refl
alike_name p (aspa a) = refl

-- the change is of another name than all these
abbrev Other : Payload → List Change → Type 0
Other p cs = AllByRecursion (λ e. is_eq (name_cmp p e.payload) ≡ false) cs

module _ (f : Payload → Change)
    (alike : (p q : Payload) → name_cmp (f p).payload (f q).payload ≡ name_cmp p q) where
  above_other : (p : Payload) (xs : List Payload) → AllByRecursion (λ q. name_cmp p q ≡ Less) xs →
      Other (f p).payload (map f xs)
  above_other p [] a = tt
  above_other p (x ∷ xs) (g, a) = (ap is_eq (alike p x ∙ g), above_other p xs a)

  ascending_apart : (xs : List Payload) → IsData xs → AreApart (map f xs)
  unfolding IsStrictlySortedBy
  ascending_apart [] s = tt
  ascending_apart (x ∷ xs) (a, s) = (above_other x xs a, ascending_apart xs s)

pub all_changes : (P : Change → Type 0) (cs ds : List Change) → AllByRecursion P cs →
    AllByRecursion P ds → AllByRecursion P (cs ++ ds)
all_changes P [] ds a b = b
all_changes P (c ∷ cs) ds (g, a) b = (g, all_changes P cs ds a b)

apart_append : (xs : List Payload) (ds : List Change) → AreApart (map announcement xs) →
    AreApart ds → AllByRecursion (λ x. Other x ds) xs → AreApart (map announcement xs ++ ds)
apart_append [] ds a b o = b
apart_append (x ∷ xs) ds (g, a) b (h, o) = (
  all_changes (λ e. is_eq (name_cmp x e.payload) ≡ false) (map announcement xs) ds g h,
  apart_append xs ds a b o,
)

-- the payload is of another name than all of whose names the data has none
abbrev Holds : List Payload → Payload → Type 0
Holds new y = (x : Payload) → has_name new x ≡ false → is_eq (name_cmp y x) ≡ false

holds_more : (z : Payload) (zs ys : List Payload) → AllByRecursion (λ y. Holds zs y) ys →
    AllByRecursion (λ y. Holds (z ∷ zs) y) ys
holds_more z zs [] h = tt
holds_more z zs (y ∷ ys) (g, h) =
    (λ x n. g x (or_parts (is_eq (name_cmp x z)) (has_name zs x) n).1, holds_more z zs ys h)

holds_own : (ys : List Payload) → AllByRecursion (λ y. Holds ys y) ys
holds_own [] = tt
holds_own (y ∷ ys) = (
  λ x n. laws.symm y x ∙ (or_parts (is_eq (name_cmp x y)) (has_name ys x) n).0,
  holds_more y ys ys (holds_own ys),
)

gone_first : (new : List Payload) (y x : Payload) (cs : List Payload) → Holds new y →
    Other y (map withdrawal cs) → (b : Bool) → has_name new x ≡ b →
    Other y (map withdrawal (cond (not b) (x ∷ cs) cs))
gone_first new y x cs h ih true e = ih
gone_first new y x cs h ih false e = (ap is_eq (alike_name y x) ∙ h x e, ih)

gone_other : (new : List Payload) (y : Payload) → Holds new y → (old : List Payload) →
    Other y (withdrawals old new)
gone_other new y h [] = tt
gone_other new y h (x ∷ old) =
    gone_first new y x (filter (λ p. not (has_name new p)) old) h (gone_other new y h old)
    (has_name new x) refl

all_gone : (old new ys : List Payload) → AllByRecursion (λ y. Holds new y) ys →
    AllByRecursion (λ y. Other y (withdrawals old new)) ys
all_gone old new [] h = tt
all_gone old new (y ∷ ys) (g, h) = (gone_other new y g old, all_gone old new ys h)

pub changes_apart : (old new : List Payload) → IsData old → IsData new →
    AreApart (changes old new)
changes_apart old new s t =
    let fresh : Payload → Bool = λ p. not (has old p) in
    let gone : Payload → Bool = λ p. not (has_name new p) in
    apart_append (filter fresh new) (withdrawals old new)
    (ascending_apart announcement (λ p q. refl) (filter fresh new)
    (IsStrictlySortedBy-filter name_cmp fresh new t))
    (ascending_apart withdrawal
    (λ p q. name_alike p (name_of q) ∙ alike_name p q) (filter gone old)
    (IsStrictlySortedBy-filter name_cmp gone old s))
    (all_gone old new (filter fresh new)
    (all_filter (λ y. Holds new y) fresh new (holds_own new)))
