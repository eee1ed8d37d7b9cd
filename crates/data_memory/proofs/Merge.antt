-- What is announced first leaves what is withdrawn then.
use Rattle.std.proofs.Common.{◌≡◌, Bool, true, false, not, ◌&&◌, ◌||◌, cond, List, [], ◌∷◌, map}
use Rattle.std.proofs.Common.{Ok, Err, refl, sym, ap, ◌∙◌}
use Rattle.std.specs.BTreeSet.{replace_key}
use Rattle.std.specs.Cmp.{IsEquivalence, eq_by_cmp_equiv}
use Rattle.std.specs.List.{filter, AllByRecursion}
use Rattle.std.specs.List.Sorted.{IsStrictlySortedBy}
use Rattle.std.specs.Ordering.{eq_by_cmp, is_eq, match_ordering}
use Rattle.std.specs.declared.cmp.Ordering.{Ordering}
use Rattle.std.specs.declared.cmp.Ordering.TheVariants.{Less, Equal, Greater}
use Rattle.std.proofs.lemmas.Bool.{true≢false}
use Rattle.rtr_payload.specs.Payloads.{Payload}
use Rattle.data_memory.specs.declared.change_error.ChangeError.{ChangeError}
use Rattle.data_memory.specs.declared.change_error.ChangeError.TheVariants.{Duplicate}
use Rattle.data_memory.specs.Data.{name_cmp, takes_place, has_name, IsData, Change, announcement}
use Rattle.data_memory.specs.Changes.{after_all}
use Rattle.data_memory.proofs.Names.{name_total, below_all}
use Rattle.data_memory.proofs.Membership.{replaced_data}
use Rattle.data_memory.proofs.Segments.{replace_above}

pub laws : IsEquivalence (eq_by_cmp name_cmp)
laws = eq_by_cmp_equiv name_total

-- a test of names
abbrev pub OfNames : (Payload → Bool) → Type 0
OfNames test = (p q : Payload) → is_eq (name_cmp p q) ≡ true → test p ≡ test q

pub same_names : (new : List Payload) → OfNames (has_name new)
same_names [] p q n = refl
same_names (x ∷ new) p q n =
    ap (λ b. b || has_name new p) (laws.congr p q x n)
    ∙ ap (λ b. is_eq (name_cmp q x) || b) (same_names new p q n)

pub all_filter : (P : Payload → Type 0) (test : Payload → Bool) (xs : List Payload) →
    AllByRecursion P xs → AllByRecursion P (filter test xs)
all_filter P test [] h = tt
all_filter P test (x ∷ xs) (g, h) =
    elim (test x) as (λ b. AllByRecursion P (cond b (x ∷ filter test xs) (filter test xs))) [
      | true ↦ (g, all_filter P test xs h)
      | false ↦ all_filter P test xs h
    ]

module _ (keep : Payload → Bool) (of_names : OfNames keep) (p : Payload) where
  -- what isn't kept is of another name than what is
  other_name : (x : Payload) → keep p ≡ true → keep x ≡ false → (b : Bool) →
      is_eq (name_cmp p x) ≡ b → b ≡ false
  other_name x k h true e = absurd (true≢false (sym k ∙ of_names p x e ∙ h))
  other_name x k h false e = refl

  kept_name_first : (x : Payload) (d : List Payload) → keep p ≡ true →
      has_name (filter keep d) p ≡ has_name d p → (b : Bool) → keep x ≡ b →
      has_name (cond b (x ∷ filter keep d) (filter keep d)) p ≡ has_name (x ∷ d) p
  kept_name_first x d k ih true h = ap (λ b. is_eq (name_cmp p x) || b) ih
  kept_name_first x d k ih false h =
      ih ∙ sym (ap (λ b. b || has_name d p) (other_name x k h (is_eq (name_cmp p x)) refl))

  kept_name : keep p ≡ true → (d : List Payload) → has_name (filter keep d) p ≡ has_name d p
  kept_name k [] = refl
  kept_name k (x ∷ d) = kept_name_first x d k (kept_name k d) (keep x) refl

  kept_first : (x : Payload) (d tail : List Payload) → keep p ≡ true →
      replace_key name_cmp (filter keep d) p ≡ filter keep tail → name_cmp p x ≡ Greater →
      (b : Bool) → replace_key name_cmp (cond b (x ∷ filter keep d) (filter keep d)) p ≡
      cond b (x ∷ filter keep tail) (filter keep tail)
  kept_first x d tail k ih e true =
      ap (λ o. match_ordering o (p ∷ x ∷ filter keep d) (p ∷ filter keep d)
      (x ∷ replace_key name_cmp (filter keep d) p)) e
      ∙ ap (λ l. x ∷ l) ih
  kept_first x d tail k ih e false = ih

  kept_replaced_at : (x : Payload) (d : List Payload) → keep p ≡ true → IsData (x ∷ d) →
      replace_key name_cmp (filter keep d) p ≡ filter keep (replace_key name_cmp d p) →
      (o : Ordering) → name_cmp p x ≡ o →
      replace_key name_cmp (filter keep (x ∷ d)) p ≡
      filter keep (match_ordering o (p ∷ x ∷ d) (p ∷ d) (x ∷ replace_key name_cmp d p))
  unfolding IsStrictlySortedBy
  kept_replaced_at x d k (a, s) ih Less e =
      replace_above p (filter keep (x ∷ d))
      (all_filter (λ q. name_cmp p q ≡ Less) keep (x ∷ d) (e, below_all p x e d a))
      ∙ sym (ap (λ b. cond b (p ∷ filter keep (x ∷ d)) (filter keep (x ∷ d))) k)
  kept_replaced_at x d k (a, s) ih Equal e =
      ap (λ b. replace_key name_cmp (cond b (x ∷ filter keep d) (filter keep d)) p)
      (sym (of_names p x (ap is_eq e)) ∙ k)
      ∙ ap (λ o. match_ordering o (p ∷ x ∷ filter keep d) (p ∷ filter keep d)
      (x ∷ replace_key name_cmp (filter keep d) p)) e
      ∙ sym (ap (λ b. cond b (p ∷ filter keep d) (filter keep d)) k)
  kept_replaced_at x d k s ih Greater e =
      kept_first x d (replace_key name_cmp d p) k ih e (keep x)

  -- what is kept is announced into what is kept
  kept_replaced : keep p ≡ true → (d : List Payload) → IsData d →
      replace_key name_cmp (filter keep d) p ≡ filter keep (replace_key name_cmp d p)
  unfolding IsStrictlySortedBy
  kept_replaced k [] s = sym (ap (λ b. cond b (p ∷ []) []) k)
  kept_replaced k (x ∷ d) s =
      kept_replaced_at x d k s (kept_replaced k d s.1) (name_cmp p x) refl

  left_replaced_at : (x : Payload) (d : List Payload) → keep p ≡ false →
      filter keep (replace_key name_cmp d p) ≡ filter keep d →
      (o : Ordering) → name_cmp p x ≡ o →
      filter keep (match_ordering o (p ∷ x ∷ d) (p ∷ d) (x ∷ replace_key name_cmp d p)) ≡
      filter keep (x ∷ d)
  left_replaced_at x d k ih Less e =
      ap (λ b. cond b (p ∷ filter keep (x ∷ d)) (filter keep (x ∷ d))) k
  left_replaced_at x d k ih Equal e =
      ap (λ b. cond b (p ∷ filter keep d) (filter keep d)) k
      ∙ sym (ap (λ b. cond b (x ∷ filter keep d) (filter keep d))
      (sym (of_names p x (ap is_eq e)) ∙ k))
  left_replaced_at x d k ih Greater e = ap (λ l. cond (keep x) (x ∷ l) l) ih

  -- what isn't kept is not in what is
  left_replaced : keep p ≡ false → (d : List Payload) →
      filter keep (replace_key name_cmp d p) ≡ filter keep d
  left_replaced k [] = ap (λ b. cond b (p ∷ []) []) k
  left_replaced k (x ∷ d) =
      left_replaced_at x d k (left_replaced k d) (name_cmp p x) refl

pub refused_all : (cs : List Change) (e : ChangeError) → after_all cs (Err e) ≡ Err e
refused_all [] e = refl
refused_all (c ∷ cs) e = refl

-- What announcements make of old data, where of what is kept of it they make new data.
pub record Merged (keep : Payload → Bool) (ys old new : List Payload) : Type 0 where
  pub merged : List Payload
  pub made : after_all (map announcement ys) (Ok old) ≡ Ok merged
  pub ordered : IsData merged
  pub kept : filter keep merged ≡ new
  pub left : filter (λ p. not (keep p)) merged ≡ filter (λ p. not (keep p)) old

module _ (keep : Payload → Bool) (of_names : OfNames keep) where
  merge_first : (y : Payload) (ys old new : List Payload) → keep y ≡ true → IsData old →
      ((d : List Payload) → IsData d →
      after_all (map announcement ys) (Ok (filter keep d)) ≡ Ok new → Merged keep ys d new) →
      (b : Bool) → (has_name old y && not (takes_place y)) ≡ b →
      after_all (map announcement ys)
      (cond b (Err Duplicate) (Ok (replace_key name_cmp (filter keep old) y))) ≡ Ok new →
      Merged keep (y ∷ ys) old new
  merge_first y ys old new k s ih true e h =
      absurd (let is = sym (refused_all (map announcement ys) Duplicate) ∙ h in cc)
  merge_first y ys old new k s ih false e h =
      let d = replace_key name_cmp old y in
      let m = ih d (replaced_data y old s)
      (ap (λ l. after_all (map announcement ys) (Ok l))
      (sym (kept_replaced keep of_names y k old s))
      ∙ h) in
      record {
        merged = m.merged;
        made = ap (λ b. after_all (map announcement ys) (cond b (Err Duplicate) (Ok d))) e ∙ m.made;
        ordered = m.ordered;
        kept = m.kept;
        left =
            m.left
            ∙ left_replaced (λ p. not (keep p)) (λ p q n. ap not (of_names p q n)) y (ap not k) old;
      }

  pub merge : (ys old new : List Payload) → AllByRecursion (λ y. keep y ≡ true) ys → IsData old →
      after_all (map announcement ys) (Ok (filter keep old)) ≡ Ok new → Merged keep ys old new
  merge [] old new a s h =
      record { merged = old; made = refl; ordered = s; kept = cc; left = refl }
  merge (y ∷ ys) old new (k, a) s h =
      merge_first y ys old new k s (λ d t g. merge ys d new a t g)
      (has_name old y && not (takes_place y)) refl
      (sym (ap (λ b. after_all (map announcement ys)
      (cond (b && not (takes_place y)) (Err Duplicate)
      (Ok (replace_key name_cmp (filter keep old) y)))) (kept_name keep of_names y k old)) ∙ h)
