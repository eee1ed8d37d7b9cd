-- No fewer changes lead from old data to new.
use Rattle.std.proofs.Common.{◌≡◌, ◌≤◌, ◌+◌, Bool, true, false, ◌||◌, cond, List, [], ◌∷◌}
use Rattle.std.proofs.Common.{Result, Ok, Err, length, refl, sym, ap, ◌∙◌, subst, arith}
use Rattle.std.proofs.lemmas.Bool.{false≢true}
use Rattle.std.specs.List.{AllByRecursion}
use Rattle.std.specs.Ordering.{is_eq}
use Rattle.std.specs.Set.{remove_key}
use Rattle.rtr_payload.specs.Payloads.{Payload}
use Rattle.data_memory.specs.declared.change_error.ChangeError.{ChangeError}
use Rattle.data_memory.specs.Data.{Change, IsData, after, name_cmp}
use Rattle.data_memory.specs.Changes.{AreApart, after_all, changes, touches}
use Rattle.data_memory.proofs.Changes.{after_data}
use Rattle.data_memory.proofs.Merge.{refused_all}
use Rattle.data_memory.proofs.Needed.{all_named, other_step}
use Rattle.data_memory.proofs.Once.{changes_apart}

-- the changes without the first of a name
abbrev without : Payload → List Change → List Change
without p cs = remove_key (λ c. is_eq (name_cmp p c.payload)) cs

fewer_at : (b rest : Bool) (c : Change) (cs ds : List Change) →
    (rest ≡ true → length cs ≡ length ds + 1) → (b || rest) ≡ true →
    length (c ∷ cs) ≡ length (cond b cs (c ∷ ds)) + 1
fewer_at true rest c cs ds ih h = omega arith
fewer_at false rest c cs ds ih h = omega (arith, ih h)

one_fewer : (p : Payload) (cs : List Change) → touches cs p ≡ true →
    length cs ≡ length (without p cs) + 1
one_fewer p [] h = absurd (false≢true h)
one_fewer p (c ∷ cs) h =
    fewer_at (is_eq (name_cmp p c.payload)) (touches cs p) c cs (without p cs)
    (one_fewer p cs) h

or_more : (a x y : Bool) → (x ≡ true → y ≡ true) → (a || x) ≡ true → (a || y) ≡ true
or_more true x y f h = refl
or_more false x y f h = f h

stays_at : (b : Bool) (c : Change) (cs ds : List Change) (q : Payload) →
    (b ≡ true → is_eq (name_cmp q c.payload) ≡ false) →
    (touches cs q ≡ true → touches ds q ≡ true) → touches (c ∷ cs) q ≡ true →
    touches (cond b cs (c ∷ ds)) q ≡ true
stays_at true c cs ds q n ih h = sym (ap (λ t. t || touches cs q) (n refl)) ∙ h
stays_at false c cs ds q n ih h =
    or_more (is_eq (name_cmp q c.payload)) (touches cs q) (touches ds q) ih h

-- another name is still among them
stays : (p q : Payload) (cs : List Change) → is_eq (name_cmp p q) ≡ false →
    touches cs q ≡ true → touches (without p cs) q ≡ true
stays p q [] n h = h
stays p q (c ∷ cs) n h =
    stays_at (is_eq (name_cmp p c.payload)) c cs (without p cs) q
    (λ e. other_step p c.payload q e n) (stays p q cs n) h

all_stay : (p : Payload) (cs ds : List Change) →
    AllByRecursion (λ e. is_eq (name_cmp p e.payload) ≡ false) ds →
    AllByRecursion (λ e. touches cs e.payload ≡ true) ds →
    AllByRecursion (λ e. touches (without p cs) e.payload ≡ true) ds
all_stay p cs [] n h = tt
all_stay p cs (d ∷ ds) (n, ns) (h, hs) = (stays p d.payload cs n h, all_stay p cs ds ns hs)

no_fewer : (ds cs : List Change) → AreApart ds →
    AllByRecursion (λ e. touches cs e.payload ≡ true) ds → length ds ≤ length cs
no_fewer [] cs a t = omega arith
no_fewer (d ∷ ds) cs (o, a) (t, ts) =
    omega (
      arith,
      one_fewer d.payload cs t,
      no_fewer ds (without d.payload cs) a (all_stay d.payload cs ds o ts),
    )

step_data : (cs : List Change) (r : Result (List Payload) ChangeError) (e : List Payload) →
    ((d : List Payload) → r ≡ Ok d → IsData d) →
    ((d : List Payload) → IsData d → after_all cs (Ok d) ≡ Ok e → IsData e) →
    after_all cs r ≡ Ok e → IsData e
step_data cs (Ok d) e f ih h = ih d (f d refl) h
step_data cs (Err x) e f ih h = absurd (let is = sym (refused_all cs x) ∙ h in cc)

-- changes make data of data
pub after_all_data : (cs : List Change) (d e : List Payload) → IsData d →
    after_all cs (Ok d) ≡ Ok e → IsData e
after_all_data [] d e s h =
    let is : d ≡ e = cc in subst (λ l. IsData l) is s
after_all_data (c ∷ cs) d e s h =
    step_data cs (after c d) e (λ f k. after_data c d f s k)
    (λ f t k. after_all_data cs f e t k) h

pub fewest : (cs : List Change) (old new : List Payload) → IsData old →
    after_all cs (Ok old) ≡ Ok new → length (changes old new) ≤ length cs
fewest cs old new s h =
    no_fewer (changes old new) cs (changes_apart old new s (after_all_data cs old new s h))
    (all_named cs old new s h)
