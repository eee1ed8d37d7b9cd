-- The order of names, and lists that ascend by it.
use Rattle.std.proofs.Common.{◌≡◌, false, List, [], ◌∷◌, refl, sym, ap, ◌∙◌}
use Rattle.std.proofs.lemmas.Bool.{true≢false}
use Rattle.std.specs.Cmp.{IsTotalOrder, on_total, tied_itself}
use Rattle.std.specs.List.{AllByRecursion}
use Rattle.std.specs.Ordering.{is_eq, ordering_reverse}
use Rattle.std.specs.declared.cmp.Ordering.{Ordering}
use Rattle.std.specs.declared.cmp.Ordering.TheVariants.{Less, Equal, Greater}
use Rattle.rtr_payload.specs.OrderLaws.{payload_total}
use Rattle.rtr_payload.proofs.Orders.{payload_same}
use Rattle.rtr_payload.specs.Orders.{payload_cmp}
use Rattle.rtr_payload.specs.Payloads.{Payload, origin, key, aspa}
use Rattle.data_memory.specs.Data.{name_cmp, name_of, takes_place, has, has_name}

pub name_total : IsTotalOrder name_cmp
unfolding name_cmp
name_total = on_total name_of payload_total

-- a name has itself for its name
pub name_alike : (p q : Payload) → name_cmp (name_of p) q ≡ name_cmp p q
unfolding name_cmp
name_alike (origin o) q = refl
name_alike (key k) q = refl
name_alike (aspa a) q = refl

-- of one name there is one payload, but for ASPAs
pub one_of_name : (p q : Payload) → name_cmp p q ≡ Equal → takes_place p ≡ false → p ≡ q
unfolding name_cmp takes_place
one_of_name (origin o) (origin p) e h = (payload_same (origin o) (origin p)).0 e
one_of_name (origin o) (key k) e h = absurd cc
one_of_name (origin o) (aspa a) e h = absurd cc
one_of_name (key k) (origin o) e h = absurd cc
one_of_name (key k) (key j) e h = (payload_same (key k) (key j)).0 e
one_of_name (key k) (aspa a) e h = absurd cc
one_of_name (aspa a) q e h = absurd cc

-- a payload is of its own name
pub very_name : (p q : Payload) → payload_cmp p q ≡ Equal → name_cmp p q ≡ Equal
very_name p q e =
    ap (λ x. name_cmp x q) ((payload_same p q).0 e) ∙ tied_itself name_total q

turned : (p q : Payload) (o : Ordering) → name_cmp p q ≡ o → name_cmp q p ≡ ordering_reverse o
turned p q o e = name_total.antisymm q p ∙ ap ordering_reverse e

pub above : (p q : Payload) → name_cmp p q ≡ Less → name_cmp q p ≡ Greater
above p q e = turned p q Less e

pub below : (p q : Payload) → name_cmp p q ≡ Greater → name_cmp q p ≡ Less
below p q e = turned p q Greater e

-- what is below the first is below all
pub below_all : (p x : Payload) → name_cmp p x ≡ Less → (xs : List Payload) →
    AllByRecursion (λ q. name_cmp x q ≡ Less) xs → AllByRecursion (λ q. name_cmp p q ≡ Less) xs
below_all p x e [] h = tt
below_all p x e (q ∷ qs) (g, h) = (name_total.trans p x q e g, below_all p x e qs h)

pub as_first : (p x : Payload) → name_cmp p x ≡ Equal → (xs : List Payload) →
    AllByRecursion (λ q. name_cmp x q ≡ Less) xs → AllByRecursion (λ q. name_cmp p q ≡ Less) xs
as_first p x e [] h = tt
as_first p x e (q ∷ qs) (g, h) = (name_total.congr p x q e ∙ g, as_first p x e qs h)

-- what is below all is not there
pub absent : (p : Payload) (xs : List Payload) → AllByRecursion (λ q. name_cmp p q ≡ Less) xs →
    has_name xs p ≡ false
absent p [] h = refl
absent p (x ∷ xs) (g, h) = cc (absent p xs h, ap is_eq g)

-- ---- the very payload

not_very_at : (p q : Payload) (o : Ordering) → payload_cmp p q ≡ o →
    is_eq (name_cmp p q) ≡ false → is_eq o ≡ false
not_very_at p q Less e h = refl
not_very_at p q Equal e h =
    absurd (true≢false (sym (ap is_eq (very_name p q e)) ∙ h))
not_very_at p q Greater e h = refl

pub not_very : (p q : Payload) → is_eq (name_cmp p q) ≡ false → is_eq (payload_cmp p q) ≡ false
not_very p q h = not_very_at p q (payload_cmp p q) refl h

pub absent_very : (p : Payload) (xs : List Payload) →
    AllByRecursion (λ q. name_cmp p q ≡ Less) xs → has xs p ≡ false
absent_very p [] h = refl
absent_very p (x ∷ xs) (g, h) = cc (absent_very p xs h, not_very p x (ap is_eq g))
