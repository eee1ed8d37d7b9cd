-- The changes between two lists of data lead from the one to the other.
use Rattle.std.proofs.Common.{◌≡◌, Bool, true, false, not, ◌&&◌, ◌||◌, cond, List, [], ◌∷◌, ◌++◌}
use Rattle.std.proofs.Common.{map, Result, Ok, Err, refl, sym, ap, ◌∙◌, subst}
use Rattle.std.specs.BTreeMap.{is_at}
use Rattle.std.specs.BTreeSet.{replace_key}
use Rattle.std.specs.List.{filter, AllByRecursion}
use Rattle.std.specs.List.Sorted.{IsStrictlySortedBy}
use Rattle.std.specs.Ordering.{is_eq, match_ordering}
use Rattle.std.specs.Set.{remove_key}
use Rattle.std.specs.Cmp.{tied_back, tied_itself}
use Rattle.std.specs.declared.cmp.Ordering.{Ordering}
use Rattle.std.specs.declared.cmp.Ordering.TheVariants.{Less, Equal, Greater}
use Rattle.std.proofs.lemmas.Bool.{true≢false, false≢true, or_right}
use Rattle.std.proofs.lemmas.List.Kept.{IsStrictlySortedBy-filter}
use Rattle.rtr_base.specs.declared.action.Action.{Action}
use Rattle.rtr_base.specs.declared.action.Action.TheVariants.{Announce, Withdraw}
use Rattle.data_memory.specs.declared.change_error.ChangeError.{ChangeError}
use Rattle.data_memory.specs.declared.change_error.ChangeError.TheVariants.{Duplicate, Unknown}
use Rattle.rtr_payload.proofs.Orders.{payload_same}
use Rattle.rtr_payload.specs.Orders.{payload_cmp}
use Rattle.rtr_payload.specs.Payloads.{Payload}
use Rattle.data_memory.specs.Data.{name_cmp, name_of, takes_place, has, has_name, IsData, Change}
use Rattle.data_memory.specs.Data.{changed, after, announcement, withdrawal}
use Rattle.data_memory.specs.Changes.{after_all, withdrawals, announcements, changes}
use Rattle.data_memory.proofs.Merge.{Merged, all_filter, merge, same_names}
use Rattle.data_memory.proofs.Names.{name_total, name_alike, one_of_name, above, below}
use Rattle.data_memory.proofs.Names.{below_all, as_first, absent, not_very, absent_very}

-- data behind a first payload
abbrev pub behind : Payload → Result (List Payload) ChangeError → Result (List Payload) ChangeError
behind h (Ok d) = Ok (h ∷ d)
behind h (Err e) = Err e

behind_if : (h : Payload) (b : Bool) (e : ChangeError) (d : List Payload) →
    cond b (Err e) (Ok (h ∷ d)) ≡ behind h (cond b (Err e) (Ok d))
behind_if h true e d = refl
behind_if h false e d = refl

behind_unless : (h : Payload) (b : Bool) (e : ChangeError) (d : List Payload) →
    cond b (Ok (h ∷ d)) (Err e) ≡ behind h (cond b (Ok d) (Err e))
behind_unless h true e d = refl
behind_unless h false e d = refl

-- a change of what is above the first leaves the first
step_behind : (h : Payload) (action : Action) (p : Payload) (d : List Payload) →
    name_cmp p h ≡ Greater → changed action p (h ∷ d) ≡ behind h (changed action p d)
step_behind h Announce p d g =
    ap (λ o. cond ((is_eq o || has_name d p) && not (takes_place p)) (Err Duplicate)
    (Ok (match_ordering o (p ∷ h ∷ d) (p ∷ d) (h ∷ replace_key name_cmp d p)))) g
    ∙ behind_if h (has_name d p && not (takes_place p)) Duplicate (replace_key name_cmp d p)
step_behind h Withdraw p d g =
    ap (λ o. cond (is_eq o || has_name d p)
    (Ok (cond (is_eq o) d (h ∷ remove_key (is_at (name_cmp p)) d))) (Err Unknown)) g
    ∙ behind_unless h (has_name d p) Unknown (remove_key (is_at (name_cmp p)) d)

abbrev pub AllAbove : Payload → List Change → Type 0
AllAbove h cs = AllByRecursion (λ c. name_cmp c.payload h ≡ Greater) cs

pub all_behind : (h : Payload) (cs : List Change) → AllAbove h cs →
    (r : Result (List Payload) ChangeError) → after_all cs (behind h r) ≡ behind h (after_all cs r)
all_behind h [] a r = refl
all_behind h (c ∷ cs) a (Err e) = refl
all_behind h (c ∷ cs) (g, a) (Ok d) =
    ap (after_all cs) (step_behind h c.action c.payload d g) ∙ all_behind h cs a (after c d)

-- what is kept of a list above h is above h
withdrawn_above : (h : Payload) (keep : Payload → Bool) (xs : List Payload) →
    AllByRecursion (λ q. name_cmp h q ≡ Less) xs → AllAbove h (map withdrawal (filter keep xs))
withdrawn_above h keep [] a = tt
withdrawn_above h keep (x ∷ xs) (g, a) =
    let rest = withdrawn_above h keep xs a in
    elim (keep x) as (λ b. AllAbove h
    (map withdrawal (cond b (x ∷ filter keep xs) (filter keep xs)))) [
      | true ↦ (name_alike x h ∙ above h x g, rest)
      | false ↦ rest
    ]

announced_above : (h : Payload) (keep : Payload → Bool) (xs : List Payload) →
    AllByRecursion (λ q. name_cmp h q ≡ Less) xs → AllAbove h (map announcement (filter keep xs))
announced_above h keep [] a = tt
announced_above h keep (x ∷ xs) (g, a) =
    let rest = announced_above h keep xs a in
    elim (keep x) as (λ b. AllAbove h
    (map announcement (cond b (x ∷ filter keep xs) (filter keep xs)))) [
      | true ↦ (above h x g, rest)
      | false ↦ rest
    ]

-- the first is withdrawn
pub withdraw_first : (x : Payload) (xs : List Payload) → after (withdrawal x) (x ∷ xs) ≡ Ok xs
withdraw_first x xs =
    let e : name_cmp (name_of x) x ≡ Equal = name_alike x x ∙ tied_itself name_total x in
    ap (λ o. cond (is_eq o || has_name xs (name_of x))
    (Ok (cond (is_eq o) xs (x ∷ remove_key (is_at (name_cmp (name_of x))) xs))) (Err Unknown)) e

withdrawn : (gone : Payload → Bool) (xs : List Payload) → IsData xs →
    after_all (map withdrawal (filter gone xs)) (Ok xs) ≡ Ok (filter (λ p. not (gone p)) xs)
unfolding IsStrictlySortedBy
withdrawn gone [] s = refl
withdrawn gone (x ∷ xs) (a, s) =
    elim (gone x) as (λ b.
    after_all (map withdrawal (cond b (x ∷ filter gone xs) (filter gone xs))) (Ok (x ∷ xs)) ≡
    Ok (cond (not b) (x ∷ filter (λ p. not (gone p)) xs) (filter (λ p. not (gone p)) xs))) [
      | true ↦ ap (after_all (map withdrawal (filter gone xs))) (withdraw_first x xs)
          ∙ withdrawn gone xs s
      | false ↦ all_behind x (map withdrawal (filter gone xs)) (withdrawn_above x gone xs a) (Ok xs)
          ∙ ap (behind x) (withdrawn gone xs s)
    ]

-- ---- announcements

abbrev Kept : List Payload → List Payload → Type 0
Kept ys k = AllByRecursion (λ x. has_name ys x ≡ true) k

abbrev Fresh : (Payload → Bool) → List Payload → List Payload → Type 0
Fresh fresh k ys = AllByRecursion (λ y. fresh y ≡ not (has k y)) ys

-- names above the first are names of the rest
rest_names : (y : Payload) (ys k : List Payload) → AllByRecursion (λ x. name_cmp y x ≡ Less) k →
    Kept (y ∷ ys) k → Kept ys k
rest_names y ys [] a h = tt
rest_names y ys (x ∷ k) (g, a) (n, h) =
    (sym (ap (λ o. is_eq o || has_name ys x) (above y x g)) ∙ n, rest_names y ys k a h)

-- what is fresh beside x and k is so beside k, above x
rest_fresh : (fresh : Payload → Bool) (x : Payload) (k ys : List Payload) →
    AllByRecursion (λ y. name_cmp x y ≡ Less) ys → Fresh fresh (x ∷ k) ys → Fresh fresh k ys
rest_fresh fresh x k [] a f = tt
rest_fresh fresh x k (y ∷ ys) (g, a) (f, fs) = (
  f ∙ ap (λ b. not (b || has k y)) (not_very y x (ap is_eq (above x y g))),
  rest_fresh fresh x k ys a fs,
)

abbrev Goal : (Payload → Bool) → List Payload → List Payload → Type 0
Goal fresh ys k = after_all (map announcement (filter fresh ys)) (Ok k) ≡ Ok ys

-- the first of new is announced, and stands before the rest
first_fresh : (fresh : Payload → Bool) (y : Payload) (ys k rest : List Payload) →
    AllByRecursion (λ q. name_cmp y q ≡ Less) ys → fresh y ≡ true →
    after (announcement y) k ≡ Ok (y ∷ rest) → Goal fresh ys rest → Goal fresh (y ∷ ys) k
first_fresh fresh y ys k rest a f step ih =
    let cs = map announcement (filter fresh ys) in
    ap (λ b. after_all (map announcement (cond b (y ∷ filter fresh ys) (filter fresh ys))) (Ok k)) f
    ∙ ap (after_all (map announcement (filter fresh ys))) step
    ∙ all_behind y (map announcement (filter fresh ys)) (announced_above y fresh ys a) (Ok rest)
    ∙ ap (behind y) ih

first_kept : (fresh : Payload → Bool) (y : Payload) (ys rest : List Payload) →
    AllByRecursion (λ q. name_cmp y q ≡ Less) ys → fresh y ≡ false →
    Goal fresh ys rest → Goal fresh (y ∷ ys) (y ∷ rest)
first_kept fresh y ys rest a f ih =
    ap (λ b. after_all (map announcement (cond b (y ∷ filter fresh ys) (filter fresh ys)))
    (Ok (y ∷ rest))) f
    ∙ all_behind y (map announcement (filter fresh ys)) (announced_above y fresh ys a) (Ok rest)
    ∙ ap (behind y) ih

pub announce_before : (y x : Payload) (k : List Payload) → name_cmp y x ≡ Less →
    has_name (x ∷ k) y ≡ false → after (announcement y) (x ∷ k) ≡ Ok (y ∷ x ∷ k)
announce_before y x k e h =
    ap (λ b. cond (b && not (takes_place y)) (Err Duplicate)
    (Ok (replace_key name_cmp (x ∷ k) y))) h
    ∙ ap (λ o. Ok (match_ordering o (y ∷ x ∷ k) (y ∷ k) (x ∷ replace_key name_cmp k y))) e

no_and : (b : Bool) → (b && false) ≡ false
no_and true = refl
no_and false = refl

pub announce_over : (y x : Payload) (k : List Payload) → name_cmp y x ≡ Equal →
    takes_place y ≡ true → after (announcement y) (x ∷ k) ≡ Ok (y ∷ k)
announce_over y x k e t =
    ap (λ b. cond (has_name (x ∷ k) y && not b) (Err Duplicate)
    (Ok (replace_key name_cmp (x ∷ k) y))) t
    ∙ ap (λ b. cond b (Err Duplicate) (Ok (replace_key name_cmp (x ∷ k) y)))
    (no_and (has_name (x ∷ k) y))
    ∙ ap (λ o. Ok (match_ordering o (y ∷ x ∷ k) (y ∷ k) (x ∷ replace_key name_cmp k y))) e

-- another payload of one name takes its place
must_take : (p q : Payload) (b : Bool) → takes_place p ≡ b → name_cmp p q ≡ Equal →
    is_eq (payload_cmp p q) ≡ false → b ≡ true
must_take p q true t e n = refl
must_take p q false t e n =
    absurd (true≢false (sym (ap is_eq ((payload_same p q).1 (one_of_name p q e t))) ∙ n))

very_is : (p q : Payload) (o : Ordering) → payload_cmp p q ≡ o → is_eq o ≡ true → p ≡ q
very_is p q Less e h = absurd (false≢true h)
very_is p q Equal e h = (payload_same p q).0 e
very_is p q Greater e h = absurd (false≢true h)

at_less : (fresh : Payload → Bool) (y x : Payload) (ys k : List Payload) → IsData (y ∷ ys) →
    IsData (x ∷ k) → Kept (y ∷ ys) (x ∷ k) → Fresh fresh (x ∷ k) (y ∷ ys) →
    ((l : List Payload) → IsData l → Kept ys l → Fresh fresh l ys → Goal fresh ys l) →
    name_cmp y x ≡ Less → Goal fresh (y ∷ ys) (x ∷ k)
unfolding IsStrictlySortedBy
at_less fresh y x ys k (a, s) (b, t) kept (f, fs) ih e =
    let all : AllByRecursion (λ q. name_cmp y q ≡ Less) (x ∷ k) = (e, below_all y x e k b) in
    first_fresh fresh y ys (x ∷ k) (x ∷ k) a (f ∙ ap not (absent_very y (x ∷ k) all))
    (announce_before y x k e (absent y (x ∷ k) all))
    (ih (x ∷ k) (b, t) (rest_names y ys (x ∷ k) all kept) fs)

by_very : (fresh : Payload → Bool) (y x : Payload) (ys k : List Payload) →
    AllByRecursion (λ q. name_cmp y q ≡ Less) ys → AllByRecursion (λ q. name_cmp y q ≡ Less) k →
    name_cmp y x ≡ Equal → fresh y ≡ not (has (x ∷ k) y) → Goal fresh ys k →
    (b : Bool) → is_eq (payload_cmp y x) ≡ b → Goal fresh (y ∷ ys) (x ∷ k)
by_very fresh y x ys k a all e f next true v =
    subst (λ p. Goal fresh (y ∷ ys) (p ∷ k)) (very_is y x (payload_cmp y x) refl v)
    (first_kept fresh y ys k a (f ∙ ap (λ b. not (b || has k y)) v) next)
by_very fresh y x ys k a all e f next false v =
    first_fresh fresh y ys (x ∷ k) k a
    (f ∙ ap (λ b. not (b || has k y)) v ∙ ap not (absent_very y k all))
    (announce_over y x k e (must_take y x (takes_place y) refl e v)) next

at_equal : (fresh : Payload → Bool) (y x : Payload) (ys k : List Payload) → IsData (y ∷ ys) →
    IsData (x ∷ k) → Kept (y ∷ ys) (x ∷ k) → Fresh fresh (x ∷ k) (y ∷ ys) →
    ((l : List Payload) → IsData l → Kept ys l → Fresh fresh l ys → Goal fresh ys l) →
    name_cmp y x ≡ Equal → Goal fresh (y ∷ ys) (x ∷ k)
unfolding IsStrictlySortedBy
at_equal fresh y x ys k (a, s) (b, t) (n, kept) (f, fs) ih e =
    let all : AllByRecursion (λ q. name_cmp y q ≡ Less) k = as_first y x e k b in
    let under : AllByRecursion (λ q. name_cmp x q ≡ Less) ys =
    as_first x y (tied_back name_total y x e) ys a in
    let next : Goal fresh ys k =
    ih k t (rest_names y ys k all kept) (rest_fresh fresh x k ys under fs) in
    by_very fresh y x ys k a all e f next (is_eq (payload_cmp y x)) refl

-- what is below the first of new is not of new's names
at_greater : (y x : Payload) (ys : List Payload) → AllByRecursion (λ q. name_cmp y q ≡ Less) ys →
    has_name (y ∷ ys) x ≡ true → name_cmp y x ≡ Greater → ⊥
at_greater y x ys a n e =
    let l : name_cmp x y ≡ Less = below y x e in
    false≢true (sym (absent x (y ∷ ys) (l, below_all x y l ys a)) ∙ n)

by_order : (fresh : Payload → Bool) (y x : Payload) (ys k : List Payload) → IsData (y ∷ ys) →
    IsData (x ∷ k) → Kept (y ∷ ys) (x ∷ k) → Fresh fresh (x ∷ k) (y ∷ ys) →
    ((l : List Payload) → IsData l → Kept ys l → Fresh fresh l ys → Goal fresh ys l) →
    (o : Ordering) → name_cmp y x ≡ o → Goal fresh (y ∷ ys) (x ∷ k)
unfolding IsStrictlySortedBy
by_order fresh y x ys k sy sx kept f ih Less e = at_less fresh y x ys k sy sx kept f ih e
by_order fresh y x ys k sy sx kept f ih Equal e = at_equal fresh y x ys k sy sx kept f ih e
by_order fresh y x ys k sy sx kept f ih Greater e = absurd (at_greater y x ys sy.0 kept.0 e)

announced : (fresh : Payload → Bool) (ys k : List Payload) → IsData ys → IsData k → Kept ys k →
    Fresh fresh k ys → Goal fresh ys k
unfolding IsStrictlySortedBy
announced fresh [] [] s t kept f = refl
announced fresh [] (x ∷ k) s t kept f = absurd (false≢true kept.0)
announced fresh (y ∷ ys) [] s t kept f =
    first_fresh fresh y ys [] [] s.0 f.0 refl (announced fresh ys [] s.1 tt tt f.1)
announced fresh (y ∷ ys) (x ∷ k) s t kept f =
    by_order fresh y x ys k s t kept f (λ l d m g. announced fresh ys l s.1 d m g)
    (name_cmp y x) refl

-- ---- both

pub after_append : (cs ds : List Change) (r : Result (List Payload) ChangeError) →
    after_all (cs ++ ds) r ≡ after_all ds (after_all cs r)
after_append [] ds r = refl
after_append (c ∷ cs) [] (Err e) = refl
after_append (c ∷ cs) (d ∷ ds) (Err e) = refl
after_append (c ∷ cs) ds (Ok d) = after_append cs ds (after c d)

not_not : (b : Bool) → not (not b) ≡ b
not_not true = refl
not_not false = refl

filter_alike : (p q : Payload → Bool) → ((x : Payload) → p x ≡ q x) → (xs : List Payload) →
    filter p xs ≡ filter q xs
filter_alike p q e [] = refl
filter_alike p q e (x ∷ xs) =
    ap (λ b. cond b (x ∷ filter p xs) (filter p xs)) (e x)
    ∙ ap (λ ks. cond (q x) (x ∷ ks) ks) (filter_alike p q e xs)

kept_first : (new : List Payload) (x : Payload) (xs : List Payload) →
    Kept new (filter (has_name new) xs) → (b : Bool) → has_name new x ≡ b →
    Kept new (cond b (x ∷ filter (has_name new) xs) (filter (has_name new) xs))
kept_first new x xs h true e = (e, h)
kept_first new x xs h false e = h

kept_names : (new xs : List Payload) → Kept new (filter (has_name new) xs)
kept_names new [] = tt
kept_names new (x ∷ xs) = kept_first new x xs (kept_names new xs) (has_name new x) refl

own_more : (z : Payload) (zs ys : List Payload) → Kept zs ys → Kept (z ∷ zs) ys
own_more z zs [] h = tt
own_more z zs (y ∷ ys) (n, h) =
    (or_right (is_eq (name_cmp y z)) (has_name zs y) n, own_more z zs ys h)

own_names : (ys : List Payload) → Kept ys ys
own_names [] = tt
own_names (y ∷ ys) = (
  ap (λ o. is_eq o || has_name ys y) (tied_itself name_total y),
  own_more y ys ys (own_names ys),
)

abbrev pub AllThere : List Payload → List Payload → Type 0
AllThere zs ys = AllByRecursion (λ y. has zs y ≡ true) ys

there_more : (z : Payload) (zs ys : List Payload) → AllThere zs ys → AllThere (z ∷ zs) ys
there_more z zs [] h = tt
there_more z zs (y ∷ ys) (n, h) =
    (or_right (is_eq (payload_cmp y z)) (has zs y) n, there_more z zs ys h)

pub all_there : (ys : List Payload) → AllThere ys ys
all_there [] = tt
all_there (y ∷ ys) = (
  ap (λ o. is_eq o || has ys y) ((payload_same y y).1 refl),
  there_more y ys ys (all_there ys),
)

not_there : (new : List Payload) (y x : Payload) → has_name new y ≡ true →
    has_name new x ≡ false → (b : Bool) → is_eq (payload_cmp y x) ≡ b → b ≡ false
not_there new y x n e true v =
    absurd (true≢false
    (sym n ∙ ap (has_name new) (very_is y x (payload_cmp y x) refl v) ∙ e))
not_there new y x n e false v = refl

kept_has_first : (new : List Payload) (y x : Payload) (xs : List Payload) →
    has_name new y ≡ true → has (filter (has_name new) xs) y ≡ has xs y →
    (b : Bool) → has_name new x ≡ b →
    has (cond b (x ∷ filter (has_name new) xs) (filter (has_name new) xs)) y ≡ has (x ∷ xs) y
kept_has_first new y x xs n ih true e = ap (λ b. is_eq (payload_cmp y x) || b) ih
kept_has_first new y x xs n ih false e =
    ih ∙ sym (ap (λ b. b || has xs y) (not_there new y x n e (is_eq (payload_cmp y x)) refl))

-- what is kept of xs has y, of new's names, where xs has it
kept_has : (new : List Payload) (y : Payload) → has_name new y ≡ true → (xs : List Payload) →
    has (filter (has_name new) xs) y ≡ has xs y
kept_has new y n [] = refl
kept_has new y n (x ∷ xs) =
    kept_has_first new y x xs n (kept_has new y n xs) (has_name new x) refl

all_fresh : (old new ys : List Payload) → Kept new ys →
    Fresh (λ p. not (has old p)) (filter (has_name new) old) ys
all_fresh old new [] h = tt
all_fresh old new (y ∷ ys) (n, h) =
    (ap not (sym (kept_has new y n old)), all_fresh old new ys h)

-- the changes from old to new make new of old
pub leads_to_new : (old new : List Payload) → IsData old → IsData new →
    after_all (changes old new) (Ok old) ≡ Ok new
leads_to_new old new s t =
    let keep = has_name new in
    let kept = filter keep old in
    let fresh : Payload → Bool = λ p. not (has old p) in
    let gone : Payload → Bool = λ p. not (keep p) in
    let m : Merged keep (filter fresh new) old new =
    merge keep (same_names new) (filter fresh new) old new
    (all_filter (λ y. keep y ≡ true) fresh new (own_names new)) s
    (announced fresh new kept t (IsStrictlySortedBy-filter name_cmp keep old s)
    (kept_names new old) (all_fresh old new new (own_names new))) in
    after_append (announcements old new) (withdrawals old new) (Ok old)
    ∙ ap (after_all (withdrawals old new)) m.made
    ∙ ap (λ l. after_all (map withdrawal l) (Ok m.merged)) (sym m.left)
    ∙ withdrawn gone m.merged m.ordered
    ∙ ap (λ l. Ok l) (filter_alike (λ p. not (gone p)) keep (λ p. not_not (keep p)) m.merged
    ∙ m.kept)

nothing : (p : Payload → Bool) (xs : List Payload) → AllByRecursion (λ x. p x ≡ true) xs →
    filter (λ x. not (p x)) xs ≡ []
nothing p [] h = refl
nothing p (x ∷ xs) (e, h) =
    ap (λ b. cond (not b) (x ∷ filter (λ y. not (p y)) xs) (filter (λ y. not (p y)) xs)) e
    ∙ nothing p xs h

-- there are no changes between data and itself
pub no_changes : (d : List Payload) → changes d d ≡ []
no_changes d =
    ap (λ xs. map announcement xs ++ withdrawals d d) (nothing (has d) d (all_there d))
    ∙ ap (map withdrawal) (nothing (has_name d) d (own_names d))
