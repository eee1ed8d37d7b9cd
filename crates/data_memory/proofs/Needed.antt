-- Whatever changes lead from old data to new, each name of these changes is among theirs.
use Rattle.std.proofs.Common.{◌≡◌, Bool, true, false, not, ◌||◌, cond, List, [], ◌∷◌, map}
use Rattle.std.proofs.Common.{Result, Ok, Err, refl, sym, ap, ◌∙◌}
use Rattle.std.proofs.lemmas.Bool.{or_parts, true≢false, false≢true}
use Rattle.std.specs.Cmp.{tied_itself}
use Rattle.std.specs.List.{filter, AllByRecursion}
use Rattle.std.specs.Ordering.{is_eq}
use Rattle.rtr_base.specs.declared.action.Action.{Action}
use Rattle.rtr_base.specs.declared.action.Action.TheVariants.{Announce, Withdraw}
use Rattle.rtr_payload.specs.Orders.{payload_cmp}
use Rattle.rtr_payload.specs.Payloads.{Payload}
use Rattle.data_memory.specs.declared.change_error.ChangeError.{ChangeError}
use Rattle.data_memory.specs.Data.{name_cmp, name_of, has, has_name, changed, after, IsData, Change}
use Rattle.data_memory.specs.Data.{announcement, withdrawal}
use Rattle.data_memory.specs.Changes.{after_all, changes, touches}
use Rattle.data_memory.proofs.Names.{name_alike, name_total, not_very}
use Rattle.data_memory.proofs.Changes.{after_data, announced_has, withdrawn_is}
use Rattle.data_memory.proofs.Membership.{removed_has}
use Rattle.data_memory.proofs.Merge.{laws, refused_all}
use Rattle.data_memory.proofs.Delta.{AllThere, all_there}
use Rattle.data_memory.proofs.Once.{all_changes}

-- a change of another name
step_has : (action : Action) (p q : Payload) (d e : List Payload) → IsData d →
    is_eq (name_cmp p q) ≡ false → changed action p d ≡ Ok e → has e q ≡ has d q
step_has Announce p q d e s n h =
    announced_has p q d e s h ∙ ap (λ b. cond b (is_eq (payload_cmp q p)) (has d q)) n
step_has Withdraw p q d e s n h =
    ap (λ l. has l q) (sym (withdrawn_is p d e h)) ∙ removed_has p q d s
    ∙ ap (λ b. cond b false (has d q)) n

pub other_step : (p q x : Payload) → is_eq (name_cmp p q) ≡ true → is_eq (name_cmp p x) ≡ false →
    is_eq (name_cmp x q) ≡ false
other_step p q x n m = laws.symm x q ∙ sym (laws.congr p q x n) ∙ m

untouched_at : (c : Change) (cs : List Change) (p q : Payload) (d e : List Payload) → IsData d →
    is_eq (name_cmp p q) ≡ true → is_eq (name_cmp p c.payload) ≡ false →
    ((f : List Payload) → IsData f → after_all cs (Ok f) ≡ Ok e → has e q ≡ has f q) →
    (r : Result (List Payload) ChangeError) → after c d ≡ r → after_all cs r ≡ Ok e →
    has e q ≡ has d q
untouched_at c cs p q d e s n m ih (Ok f) is h =
    ih f (after_data c d f s is) h
    ∙ step_has c.action c.payload q d f s (other_step p q c.payload n m) is
untouched_at c cs p q d e s n m ih (Err x) is h =
    absurd (let no_data = sym (refused_all cs x) ∙ h in cc)

untouched : (cs : List Change) (p q : Payload) (d e : List Payload) → IsData d →
    is_eq (name_cmp p q) ≡ true → touches cs p ≡ false → after_all cs (Ok d) ≡ Ok e →
    has e q ≡ has d q
untouched [] p q d e s n m h = let same : d ≡ e = cc in ap (λ l. has l q) (sym same)
untouched (c ∷ cs) p q d e s n m h =
    let parts = or_parts (is_eq (name_cmp p c.payload)) (touches cs p) m in
    untouched_at c cs p q d e s n parts.0
    (λ f t g. untouched cs p q f e t n parts.1 g) (after c d) refl h

no_name : (new : List Payload) (x : Payload) → has_name new x ≡ false → has new x ≡ false
no_name [] x n = refl
no_name (z ∷ zs) x n =
    let parts = or_parts (is_eq (name_cmp x z)) (has_name zs x) n in
    ap (λ b. b || has zs x) (not_very x z parts.0) ∙ no_name zs x parts.1

module _ (cs : List Change) (old new : List Payload) (s : IsData old)
    (leads : after_all cs (Ok old) ≡ Ok new) where
  named : (p q : Payload) → is_eq (name_cmp p q) ≡ true → (v w : Bool) → has new q ≡ v →
      has old q ≡ w → (v ≡ w → ⊥) → (b : Bool) → touches cs p ≡ b → b ≡ true
  named p q n v w g h other true e = refl
  named p q n v w g h other false e =
      absurd (other (sym g ∙ untouched cs p q old new s n e leads ∙ h))

  fresh_first : (y : Payload) (tail : List Payload) → has new y ≡ true →
      AllByRecursion (λ c. touches cs c.payload ≡ true) (map announcement tail) →
      (b : Bool) → has old y ≡ b →
      AllByRecursion (λ c. touches cs c.payload ≡ true)
      (map announcement (cond (not b) (y ∷ tail) tail))
  fresh_first y tail g ih true e = ih
  fresh_first y tail g ih false e = (
    named y y (ap is_eq (tied_itself name_total y)) true false g e true≢false (touches cs y) refl,
    ih,
  )

  fresh_named : (ys : List Payload) → AllThere new ys →
      AllByRecursion (λ c. touches cs c.payload ≡ true)
      (map announcement (filter (λ p. not (has old p)) ys))
  fresh_named [] h = tt
  fresh_named (y ∷ ys) (g, h) =
      fresh_first y (filter (λ p. not (has old p)) ys) g (fresh_named ys h) (has old y) refl

  gone_first : (x : Payload) (tail : List Payload) → has old x ≡ true →
      AllByRecursion (λ c. touches cs c.payload ≡ true) (map withdrawal tail) →
      (b : Bool) → has_name new x ≡ b →
      AllByRecursion (λ c. touches cs c.payload ≡ true)
      (map withdrawal (cond (not b) (x ∷ tail) tail))
  gone_first x tail g ih true e = ih
  gone_first x tail g ih false e = (
    named (name_of x) x (ap is_eq (name_alike x x ∙ tied_itself name_total x)) false true
        (no_name new x e) g false≢true (touches cs (name_of x)) refl,
    ih,
  )

  gone_named : (xs : List Payload) → AllThere old xs →
      AllByRecursion (λ c. touches cs c.payload ≡ true)
      (map withdrawal (filter (λ p. not (has_name new p)) xs))
  gone_named [] h = tt
  gone_named (x ∷ xs) (g, h) =
      gone_first x (filter (λ p. not (has_name new p)) xs) g (gone_named xs h)
      (has_name new x) refl

  pub all_named : AllByRecursion (λ c. touches cs c.payload ≡ true) (changes old new)
  all_named =
      all_changes (λ c. touches cs c.payload ≡ true)
      (map announcement (filter (λ p. not (has old p)) new))
      (map withdrawal (filter (λ p. not (has_name new p)) old))
      (fresh_named new (all_there new)) (gone_named old (all_there old))
