-- What changes make of data that are in order.
use Rattle.std.proofs.Common.{◌≡◌, Bool, true, false, cond, List, [], ◌∷◌, ◌++◌, refl, sym, ap, ◌∙◌}
use Rattle.std.proofs.lemmas.Bool.{true≢false, false≢true}
use Rattle.std.specs.BTreeMap.{is_at}
use Rattle.std.specs.BTreeSet.{replace_key}
use Rattle.std.specs.List.{AllByRecursion}
use Rattle.std.specs.List.Sorted.{IsStrictlySortedBy}
use Rattle.std.specs.Ordering.{is_eq, is_lt, match_ordering}
use Rattle.std.specs.Set.{remove_key}
use Rattle.std.specs.declared.cmp.Ordering.{Ordering}
use Rattle.std.specs.declared.cmp.Ordering.TheVariants.{Less, Equal, Greater}
use Rattle.rtr_base.specs.declared.action.Action.{Action}
use Rattle.rtr_base.specs.declared.action.Action.TheVariants.{Announce, Withdraw}
use Rattle.rtr_payload.specs.Payloads.{Payload}
use Rattle.data_memory.specs.Data.{Change, IsData, name_cmp}
use Rattle.data_memory.proofs.Membership.{removed_data, replaced_data}
use Rattle.data_memory.proofs.Merge.{laws}
use Rattle.data_memory.proofs.Names.{above, below, below_all, name_total}
use Rattle.data_slices.specs.PrivateMade.{UpToName, put, put_all, put_at, starts_same}
use Rattle.data_slices.specs.PrivateInOrder.{InRow}
use Rattle.data_slices.specs.PrivateOffsets.{same_name}
use Rattle.data_slices.proofs.NetOrdered.{Below, all_over, rises}
use Rattle.data_slices.proofs.There.{removed, replaced, same_data, there}

-- ---- below the name

put_over : (a : Action) (p x : Payload) (d : List Payload) → name_cmp x p ≡ Less →
    put_at a p (x ∷ d) ≡ x ∷ put_at a p d
put_over Announce p x d l =
    ap (λ o. match_ordering o (p ∷ x ∷ d) (p ∷ d) (x ∷ replace_key name_cmp d p)) (above x p l)
put_over Withdraw p x d l =
    ap (λ o. cond (is_eq o) d (x ∷ remove_key (is_at (name_cmp p)) d)) (above x p l)

pub put_after : (a : Action) (p : Payload) (xs d : List Payload) →
    AllByRecursion (λ x. name_cmp x p ≡ Less) xs → put_at a p (xs ++ d) ≡ xs ++ put_at a p d
put_after a p [] d h = refl
put_after a p (x ∷ xs) d (l, h) =
    put_over a p x (xs ++ d) l ∙ ap (λ t. x ∷ t) (put_after a p xs d h)

up_below : (p q : Payload) (zs : List Payload) → UpToName p zs → name_cmp p q ≡ Less →
    AllByRecursion (λ z. name_cmp z q ≡ Less) zs
up_below p q [] u l = tt
up_below p q (z ∷ zs) (g, u) l = (by_order (name_cmp p z) refl, up_below p q zs u l)
  where
    by_order : (o : Ordering) → name_cmp p z ≡ o → name_cmp z q ≡ Less
    by_order Less e = absurd (true≢false (sym (ap is_lt e) ∙ g))
    by_order Equal e = sym (name_total.congr p z q e) ∙ l
    by_order Greater e = name_total.trans z p q (below p z e) l

pub put_all_after : (p : Payload) (cs : List Change) (zs d : List Payload) → UpToName p zs →
    Below p cs → put_all cs (zs ++ d) ≡ zs ++ put_all cs d
put_all_after p [] zs d u b = refl
put_all_after p (c ∷ cs) zs d u (l, b) =
    ap (put_all cs) (put_after c.action c.payload zs d (up_below p c.payload zs u l))
    ∙ put_all_after p cs zs (put c d) u b

-- ---- twice of one name

abbrev pub news : Action → Payload → List Payload
news Announce p = p ∷ []
news Withdraw p = []

pub put_data : (a : Action) (p : Payload) (d : List Payload) → IsData d → IsData (put_at a p d)
put_data Announce p d s = replaced_data p d s
put_data Withdraw p d s = removed_data (is_at (name_cmp p)) d s

pub put_there : (a : Action) (p q : Payload) (d : List Payload) → IsData d →
    there q (put_at a p d) ≡ cond (is_eq (name_cmp q p)) (news a p) (there q d)
put_there Announce p q d s = replaced q p d s
put_there Withdraw p q d s = removed q p d s

pub put_again : (c c' : Change) (d : List Payload) → IsData d → same_name c c' ≡ true →
    put c' (put c d) ≡ put c' d
put_again c c' d s n =
    same_data (put c' (put c d)) (put c' d)
    (put_data c'.action c'.payload (put c d) (put_data c.action c.payload d s))
    (put_data c'.action c'.payload d s)
    (λ q. put_there c'.action c'.payload q (put c d) (put_data c.action c.payload d s)
    ∙ by_name q (is_eq (name_cmp q c'.payload)) refl
    ∙ sym (put_there c'.action c'.payload q d s))
  where
    by_name : (q : Payload) (b : Bool) → is_eq (name_cmp q c'.payload) ≡ b →
        cond b (news c'.action c'.payload) (there q (put c d)) ≡
        cond b (news c'.action c'.payload) (there q d)
    by_name q true e = refl
    by_name q false e =
        put_there c.action c.payload q d s
        ∙ ap (λ b. cond b (news c.action c.payload) (there q d))
        (laws.symm q c.payload ∙ laws.congr c.payload c'.payload q n
        ∙ laws.symm c'.payload q ∙ e)

pub put_all_again : (c : Change) (cs : List Change) (d : List Payload) → IsData d →
    starts_same c cs ≡ true → put_all cs (put c d) ≡ put_all cs d
put_all_again c [] d s n = absurd (false≢true n)
put_all_again c (c' ∷ cs) d s n = ap (put_all cs) (put_again c c' d s n)

-- no other of the name follows
pub all_above : (c : Change) (cs : List Change) → InRow (c ∷ cs) → starts_same c cs ≡ false →
    Below c.payload cs
all_above c [] row n = tt
all_above c (c' ∷ cs) row n =
    let less = rises c c' row.0.0 n in
    (less, all_over c.payload c'.payload cs less row.1.0)

-- ---- at the name

abbrev pub dropped : Payload → List Payload → List Payload
dropped p [] = []
dropped p (y ∷ ys) = cond (is_eq (name_cmp p y)) ys (y ∷ ys)

abbrev pub StartsAt : Payload → List Payload → Type 0
StartsAt p [] = Unit {0}
StartsAt p (y ∷ ys) = name_cmp y p ≡ Less → ⊥

absent : (p : Payload) (ys : List Payload) → AllByRecursion (λ y. name_cmp p y ≡ Less) ys →
    remove_key (is_at (name_cmp p)) ys ≡ ys
absent p [] a = refl
absent p (y ∷ ys) (l, a) =
    ap (λ o. cond (is_eq o) ys (y ∷ remove_key (is_at (name_cmp p)) ys)) l
    ∙ ap (λ t. y ∷ t) (absent p ys a)

put_at_head : (a : Action) (p y : Payload) (ys : List Payload) →
    AllByRecursion (λ x. name_cmp y x ≡ Less) ys → (name_cmp y p ≡ Less → ⊥) → (o : Ordering) →
    name_cmp p y ≡ o → put_at a p (y ∷ ys) ≡ news a p ++ cond (is_eq o) ys (y ∷ ys)
put_at_head Announce p y ys over not Less e =
    ap (λ o. match_ordering o (p ∷ y ∷ ys) (p ∷ ys) (y ∷ replace_key name_cmp ys p)) e
put_at_head Announce p y ys over not Equal e =
    ap (λ o. match_ordering o (p ∷ y ∷ ys) (p ∷ ys) (y ∷ replace_key name_cmp ys p)) e
put_at_head Announce p y ys over not Greater e = absurd (not (below p y e))
put_at_head Withdraw p y ys over not Less e =
    ap (λ o. cond (is_eq o) ys (y ∷ remove_key (is_at (name_cmp p)) ys)) e
    ∙ ap (λ t. y ∷ t) (absent p ys (below_all p y e ys over))
put_at_head Withdraw p y ys over not Equal e =
    ap (λ o. cond (is_eq o) ys (y ∷ remove_key (is_at (name_cmp p)) ys)) e
put_at_head Withdraw p y ys over not Greater e = absurd (not (below p y e))

none_put : (a : Action) (p : Payload) → put_at a p [] ≡ news a p ++ []
none_put Announce p = refl
none_put Withdraw p = refl

pub put_head : (a : Action) (p : Payload) (ys : List Payload) → IsData ys → StartsAt p ys →
    put_at a p ys ≡ news a p ++ dropped p ys
unfolding IsStrictlySortedBy
put_head a p [] s h = none_put a p
put_head a p (y ∷ ys) (over, s) h = put_at_head a p y ys over h (name_cmp p y) refl
