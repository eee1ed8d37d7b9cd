-- What changes make of data, from the least name on.
use Rattle.std.proofs.Common.{◌≡◌, ◌≢◌, Bool, true, false, not, ◌&&◌, ◌||◌, cond, List, [], ◌∷◌}
use Rattle.std.proofs.Common.{◌++◌, map, Result, Ok, Err, refl, sym, ap, ◌∙◌, subst, inl, inr}
use Rattle.std.specs.Prelude.{◌⊎◌, ⊤}
use Rattle.std.specs.BTreeMap.{is_at}
use Rattle.std.specs.BTreeSet.{replace_key}
use Rattle.std.specs.Cmp.{tied_back}
use Rattle.std.specs.List.{AllByRecursion}
use Rattle.std.specs.List.Sorted.{IsStrictlySortedBy}
use Rattle.std.specs.Ordering.{is_eq, match_ordering}
use Rattle.std.specs.Set.{remove_key}
use Rattle.std.specs.declared.cmp.Ordering.{Ordering}
use Rattle.std.specs.declared.cmp.Ordering.TheVariants.{Less, Equal, Greater}
use Rattle.std.proofs.lemmas.Bool.{true≢false}
use Rattle.rtr_payload.specs.Payloads.{Payload}
use Rattle.data_memory.specs.Changes.{after_all}
use Rattle.data_memory.specs.Data.{Change, IsData, after, announcement, has_name, name_cmp, name_of}
use Rattle.data_memory.specs.Data.{takes_place, withdrawal}
use Rattle.data_memory.specs.declared.change_error.ChangeError.{ChangeError}
use Rattle.data_memory.specs.declared.change_error.ChangeError.TheVariants.{Duplicate, Unknown}
use Rattle.data_memory.proofs.Changes.{announced_is}
use Rattle.data_memory.proofs.Delta.{AllAbove, after_append, all_behind, announce_before}
use Rattle.data_memory.proofs.Delta.{announce_over, behind}
use Rattle.data_memory.proofs.Merge.{laws, refused_all}
use Rattle.data_memory.proofs.Names.{above, absent, below, below_all, name_alike, name_total}
use Rattle.data_slices.specs.PrivateChanges.{IsBelow, MakesNew}

-- ---- names that are there

-- an announcement leaves other names
pub replaced_name : (p q : Payload) → is_eq (name_cmp q p) ≡ false → (d : List Payload) →
    has_name (replace_key name_cmp d p) q ≡ has_name d q
replaced_name p q n [] = ap (λ b. b || false) n
replaced_name p q n (x ∷ d) = by_order (replaced_name p q n d) (name_cmp p x) refl
  where
    by_order : has_name (replace_key name_cmp d p) q ≡ has_name d q → (o : Ordering) →
        name_cmp p x ≡ o →
        has_name (match_ordering o (p ∷ x ∷ d) (p ∷ d) (x ∷ replace_key name_cmp d p)) q ≡
        has_name (x ∷ d) q
    by_order ih Less e = ap (λ b. b || has_name (x ∷ d) q) n
    by_order ih Equal e =
        ap (λ b. b || has_name d q)
        (laws.symm q p ∙ laws.congr p x q (ap is_eq e) ∙ laws.symm x q)
    by_order ih Greater e = ap (λ b. is_eq (name_cmp q x) || b) ih

-- a withdrawal leaves other names
pub removed_name : (p q : Payload) → is_eq (name_cmp q p) ≡ false → (d : List Payload) →
    has_name (remove_key (is_at (name_cmp p)) d) q ≡ has_name d q
removed_name p q n [] = refl
removed_name p q n (x ∷ d) = by_test (removed_name p q n d) (is_eq (name_cmp p x)) refl
  where
    by_test : has_name (remove_key (is_at (name_cmp p)) d) q ≡ has_name d q → (b : Bool) →
        is_eq (name_cmp p x) ≡ b →
        has_name (cond b d (x ∷ remove_key (is_at (name_cmp p)) d)) q ≡ has_name (x ∷ d) q
    by_test ih true e =
        sym (ap (λ b. b || has_name d q)
        (laws.symm q x ∙ sym (laws.congr p x q e) ∙ laws.symm p q ∙ n))
    by_test ih false e = ap (λ b. is_eq (name_cmp q x) || b) ih

-- a name is there where what is withdrawn for it is
pub named_there : (q : Payload) (d : List Payload) → has_name d (name_of q) ≡ has_name d q
named_there q [] = refl
named_there q (x ∷ d) = λ i. is_eq (name_alike q x i) || named_there q d i

pub or_parts : (a b : Bool) → (a || b) ≡ false → (a ≡ false) × (b ≡ false)
or_parts true b e = absurd (true≢false e)
or_parts false b e = (refl, e)

abbrev made : List Payload → Result (List Payload) ChangeError
made d = Ok d

is_ok : (d x : List Payload) → made d ≡ made x → d ≡ x
is_ok d x h = cc

pub not_refused : (cs : List Change) (e : ChangeError) (d : List Payload) →
    after_all cs (Err e) ≡ Ok d → ⊥
not_refused cs e d h = let is = sym (refused_all cs e) ∙ h in cc

-- announcements leave the names that they don't have
pub names_after : (ps d x : List Payload) (q : Payload) →
    after_all (map announcement ps) (Ok d) ≡ Ok x → has_name ps q ≡ false →
    has_name x q ≡ has_name d q
names_after [] d x q h n = ap (λ l. has_name l q) (sym (is_ok d x h))
names_after (p ∷ ps) d x q h n =
    by_first (λ e m. names_after ps e x q m both.1) (after (announcement p) d) refl h
  where
    both : (is_eq (name_cmp q p) ≡ false) × (has_name ps q ≡ false)
    both = or_parts (is_eq (name_cmp q p)) (has_name ps q) n

    by_first : ((e : List Payload) → after_all (map announcement ps) (Ok e) ≡ Ok x →
        has_name x q ≡ has_name e q) → (r : Result (List Payload) ChangeError) →
        after (announcement p) d ≡ r →
        after_all (map announcement ps) r ≡ Ok x → has_name x q ≡ has_name d q
    by_first ih (Ok e) is h =
        ih e h
        ∙ ap (λ l. has_name l q) (sym (announced_is p d e is)) ∙ replaced_name p q both.0 d
    by_first ih (Err e) is h = absurd (not_refused (map announcement ps) e x h)

-- what isn't there can't be withdrawn
pub unknown : (x qs d : List Payload) (q : Payload) → has_name x q ≡ false →
    after_all (map withdrawal (q ∷ qs)) (Ok x) ≡ Ok d → ⊥
unknown x qs d q n h =
    not_refused (map withdrawal qs) Unknown d
    (sym (ap (λ b. after_all (map withdrawal qs)
    (cond b (Ok (remove_key (is_at (name_cmp (name_of q))) x)) (Err Unknown)))
    (named_there q x ∙ n)) ∙ h)

-- ---- changes above a first payload

announced_above : (h : Payload) (ps : List Payload) → IsBelow h ps →
    AllAbove h (map announcement ps)
announced_above h [] a = tt
announced_above h (p ∷ ps) (g, a) = (above h p g, announced_above h ps a)

withdrawn_above : (h : Payload) (qs : List Payload) → IsBelow h qs →
    AllAbove h (map withdrawal qs)
withdrawn_above h [] a = tt
withdrawn_above h (q ∷ qs) (g, a) = (name_alike q h ∙ above h q g, withdrawn_above h qs a)

both_above : (h : Payload) (cs ds : List Change) → AllAbove h cs → AllAbove h ds →
    AllAbove h (cs ++ ds)
both_above h [] ds a b = b
both_above h (c ∷ cs) ds (g, a) b = (g, both_above h cs ds a b)

abbrev pub both : (ps qs : List Payload) → List Change
both ps qs = map announcement ps ++ map withdrawal qs

pub after_first : (p : Payload) (ps qs : List Payload) → IsBelow p ps → IsBelow p qs →
    (d : List Payload) → after_all (both ps qs) (Ok (p ∷ d)) ≡
    behind p (after_all (both ps qs) (Ok d))
after_first p ps qs a b d =
    all_behind p (both ps qs)
    (both_above p (map announcement ps) (map withdrawal qs) (announced_above p ps a)
    (withdrawn_above p qs b)) (Ok d)

-- what else is made
pub record Follows (p : Payload) (d ps qs d' : List Payload) : Type 0 where
  pub others : List Payload
  pub makes : MakesNew d ps qs others
  pub first : d' ≡ p ∷ others

follows : (p : Payload) (d ps qs d' : List Payload) (r : Result (List Payload) ChangeError) →
    after_all (both ps qs) (Ok d) ≡ r → behind p r ≡ Ok d' → Follows p d ps qs d'
follows p d ps qs d' (Ok x) e h = record { others = x; makes = e; first = sym (is_ok (p ∷ x) d' h) }
follows p d ps qs d' (Err e) is h = absurd (let no = h in cc)

-- ---- withdrawals, the first of them

-- the two parts, one after the other
pub in_turn : (d ps qs : List Payload) → after_all (both ps qs) (Ok d) ≡
    after_all (map withdrawal qs) (after_all (map announcement ps) (Ok d))
in_turn d ps qs = after_append (map announcement ps) (map withdrawal qs) (Ok d)

-- what is below all data and announcements can't be withdrawn
no_lower : (q : Payload) (d ps qs d' : List Payload) → IsBelow q d → IsBelow q ps →
    MakesNew d ps (q ∷ qs) d' → ⊥
no_lower q d ps qs d' a b m =
    by_result (after_all (map announcement ps) (Ok d)) refl (sym (in_turn d ps (q ∷ qs)) ∙ m)
  where
    by_result : (r : Result (List Payload) ChangeError) →
        after_all (map announcement ps) (Ok d) ≡ r →
        after_all (map withdrawal (q ∷ qs)) r ≡ Ok d' → ⊥
    by_result (Ok x) is h =
        unknown x qs d' q (names_after ps d x q is (absent q ps b) ∙ absent q d a) h
    by_result (Err e) is h = let no = h in cc

-- the first withdrawal isn't of this name
abbrev pub StartsElsewhere : Payload → List Payload → Type 0
StartsElsewhere p [] = ⊤
StartsElsewhere p (q ∷ qs) = name_cmp p q ≢ Equal

-- withdrawals that are allowed are above the least of data and announcements
above_least : (p : Payload) (d ps qs d' : List Payload) → IsData qs → StartsElsewhere p qs →
    ((q : Payload) → name_cmp q p ≡ Less → IsBelow q d × IsBelow q ps) → MakesNew d ps qs d' →
    IsBelow p qs
unfolding IsStrictlySortedBy
above_least p d ps [] d' s other low m = tt
above_least p d ps (q ∷ qs) d' s other low m = by_order (name_cmp p q) refl
  where
    by_order : (o : Ordering) → name_cmp p q ≡ o → IsBelow p (q ∷ qs)
    by_order Less e = (e, below_all p q e qs s.0)
    by_order Equal e = absurd (other e)
    by_order Greater e =
        let (a, b) = low q (below p q e) in absurd (no_lower q d ps qs d' a b m)

-- ---- steps

-- a payload of the data is withdrawn
pub step_gone : (p q : Payload) (d ps qs d' : List Payload) → IsBelow p ps →
    name_cmp p q ≡ Equal → MakesNew (p ∷ d) ps (q ∷ qs) d' → MakesNew d ps qs d'
step_gone p q d ps qs d' a e m =
    in_turn d ps qs ∙ sym (gone (after_all (map announcement ps) (Ok d)))
    ∙ sym (ap (after_all (map withdrawal (q ∷ qs)))
    (all_behind p (map announcement ps) (announced_above p ps a) (Ok d)))
    ∙ sym (in_turn (p ∷ d) ps (q ∷ qs)) ∙ m
  where
    named : name_cmp (name_of q) p ≡ Equal
    named = name_alike q p ∙ tied_back name_total p q e

    taken : (x : List Payload) → after (withdrawal q) (p ∷ x) ≡ Ok x
    taken x =
        ap (λ o. cond (is_eq o || has_name x (name_of q))
        (Ok (cond (is_eq o) x (p ∷ remove_key (is_at (name_cmp (name_of q))) x))) (Err Unknown))
        named

    gone : (r : Result (List Payload) ChangeError) →
        after_all (map withdrawal (q ∷ qs)) (behind p r) ≡ after_all (map withdrawal qs) r
    gone (Ok x) = ap (after_all (map withdrawal qs)) (taken x)
    gone (Err x) = sym (refused_all (map withdrawal qs) x)

-- a payload of the data stays
pub step_kept : (p : Payload) (d ps qs d' : List Payload) → IsData (p ∷ d) → IsBelow p ps →
    IsData qs → StartsElsewhere p qs → MakesNew (p ∷ d) ps qs d' → Follows p d ps qs d'
unfolding IsStrictlySortedBy
step_kept p d ps qs d' s a t other m =
    let b = above_least p (p ∷ d) ps qs d' t other
    (λ q l. ((l, below_all q p l d s.0), below_all q p l ps a)) m in
    follows p d ps qs d' (after_all (both ps qs) (Ok d)) refl
    (sym (after_first p ps qs a b d) ∙ m)

-- what an announcement is over: nothing, or a payload of its name
abbrev pub IsOver : Payload → (d d' : List Payload) → Type 0
IsOver p d d' = ((d ≡ d') × IsBelow p d) ⊎ ((q : Payload) × (d ≡ q ∷ d') × (name_cmp q p ≡ Equal))

below_over : (p : Payload) (d d' : List Payload) → IsData d → IsOver p d d' → (q : Payload) →
    name_cmp q p ≡ Less → IsBelow q d
unfolding IsStrictlySortedBy
below_over p d d' s (inl (is, a)) q l = below_all q p l d a
below_over p d d' s (inr (x, is, e)) q l =
    let first : name_cmp q x ≡ Less = ap (λ o. o) (lower x e) in
    let t = subst (λ y. IsData y) is s in
    subst (λ y. IsBelow q y) (sym is) (first, below_all q x first d' t.0)
  where
    lower : (x : Payload) → name_cmp x p ≡ Equal → name_cmp q x ≡ Less
    lower x e =
        below x q (name_total.congr x p q e ∙ above q p l)

announce_first : (p : Payload) (d : List Payload) → IsBelow p d →
    after (announcement p) d ≡ Ok (p ∷ d)
announce_first p [] a = refl
announce_first p (x ∷ d) a = announce_before p x d a.0 (absent p (x ∷ d) a)

announced_over : (p : Payload) (d d' : List Payload) (e : List Payload) (cs : List Change) →
    IsOver p d d' → after_all cs (after (announcement p) d) ≡ Ok e →
    after (announcement p) d ≡ Ok (p ∷ d')
announced_over p d d' e cs (inl (is, a)) m =
    announce_first p d a ∙ ap (λ l. Ok (p ∷ l)) is
announced_over p d d' e cs (inr (q, is, tied)) m =
    ap (after (announcement p)) is ∙ by_kind (takes_place p) refl
  where
    back : name_cmp p q ≡ Equal
    back = tied_back name_total q p tied

    by_kind : (b : Bool) → takes_place p ≡ b → after (announcement p) (q ∷ d') ≡ Ok (p ∷ d')
    by_kind true t = announce_over p q d' back t
    by_kind false t =
        absurd (not_refused cs Duplicate e
        (sym (ap (after_all cs)
        (ap (after (announcement p)) is
        ∙ (λ i. cond ((is_eq (back i) || has_name d' p) && not (t i)) (Err Duplicate)
        (Ok (replace_key name_cmp (q ∷ d') p))))) ∙ m))

-- a payload is announced
pub step_added : (p : Payload) (d d1 ps qs d' : List Payload) → IsData d → IsOver p d d1 →
    IsData (p ∷ ps) → IsData qs → AllByRecursion (λ q. has_name (p ∷ ps) q ≡ false) qs →
    MakesNew d (p ∷ ps) qs d' → Follows p d1 ps qs d'
unfolding IsStrictlySortedBy
step_added p d d1 ps qs d' s over t u apart m =
    let b = above_least p d (p ∷ ps) qs d' u (elsewhere qs apart)
    (λ q l. (below_over p d d1 s over q l, (l, below_all q p l ps t.0))) m in
    follows p d1 ps qs d' (after_all (both ps qs) (Ok d1)) refl
    (sym (after_first p ps qs t.0 b d1)
    ∙ sym (ap (after_all (both ps qs)) (announced_over p d d1 d' (both ps qs) over m)) ∙ m)
  where
    elsewhere : (qs : List Payload) → AllByRecursion (λ q. has_name (p ∷ ps) q ≡ false) qs →
        StartsElsewhere p qs
    elsewhere [] h = tt
    elsewhere (q ∷ qs) (n, h) = λ e.
        true≢false (sym (ap is_eq (tied_back name_total p q e))
        ∙ (or_parts (is_eq (name_cmp q p)) (has_name ps q) n).0)

-- nothing is left
pub step_end : (qs d' : List Payload) → MakesNew [] [] qs d' → d' ≡ []
step_end [] d' m = sym (is_ok [] d' m)
step_end (q ∷ qs) d' m = absurd (no_lower q [] [] qs d' tt tt m)
