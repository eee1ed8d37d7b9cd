-- What one list in order lacks of another, found out by going over both at once.
use Rattle.std.proofs.Common.{◌≡◌, Bool, true, false, not, ◌||◌, cond, List, [], ◌∷◌}
use Rattle.std.proofs.Common.{refl, ap, ◌∙◌}
use Rattle.std.specs.List.{AllByRecursion}
use Rattle.std.specs.List.Sorted.{IsStrictlySortedBy}
use Rattle.std.specs.Cmp.{tied_back}
use Rattle.std.specs.Ordering.{is_eq}
use Rattle.std.specs.declared.cmp.Ordering.TheVariants.{Less, Equal, Greater}
use Rattle.rtr_base.specs.declared.action.Action.{Action}
use Rattle.rtr_base.specs.declared.action.Action.TheVariants.{Announce, Withdraw}
use Rattle.rtr_payload.specs.Payloads.{Payload}
use Rattle.data_memory.specs.Data.{name_cmp, IsData}
use Rattle.data_memory.proofs.Names.{name_total, above, below, below_all, as_first, absent}
use Rattle.data_memory.proofs.Names.{absent_very}
use Rattle.data_memory.proofs.Names.{not_very}
use Rattle.data_slices.specs.Canonical.{holds, missing}
use Rattle.data_slices.specs.PrivateOrder.{is_same_for}

one_more : (a : Action) (p q : Payload) (qs : List Payload) →
    holds a (q ∷ qs) p ≡ (is_same_for a p q || holds a qs p)
one_more Announce p q qs = refl
one_more Withdraw p q qs = refl

-- what is below all is lacking
lacking : (a : Action) (p : Payload) (qs : List Payload) →
    AllByRecursion (λ q. name_cmp p q ≡ Less) qs → holds a qs p ≡ false
lacking Announce p qs h = absent_very p qs h
lacking Withdraw p qs h = absent p qs h

other_name : (a : Action) (p q : Payload) → is_eq (name_cmp p q) ≡ false → is_same_for a p q ≡ false
other_name Announce p q h = not_very p q h
other_name Withdraw p q h = h

passed_first : (a : Action) (p q : Payload) (qs : List Payload) → name_cmp q p ≡ Less →
    holds a (q ∷ qs) p ≡ holds a qs p
passed_first a p q qs h =
    one_more a p q qs
    ∙ ap (λ b. b || holds a qs p) (other_name a p q (ap is_eq (above q p h)))

-- what is below all of them doesn't count
pub passed : (a : Action) (q : Payload) (qs ps : List Payload) →
    AllByRecursion (λ p. name_cmp q p ≡ Less) ps → missing a ps (q ∷ qs) ≡ missing a ps qs
passed a q qs [] h = refl
passed a q qs (p ∷ ps) (g, h) =
    ap (λ b. cond (not b) (p ∷ missing a ps (q ∷ qs)) (missing a ps (q ∷ qs)))
    (passed_first a p q qs g)
    ∙ ap (λ l. cond (not (holds a qs p)) (p ∷ l) l) (passed a q qs ps h)

pub at_less : (a : Action) (p : Payload) (ps qs : List Payload) →
    AllByRecursion (λ q. name_cmp p q ≡ Less) qs → missing a (p ∷ ps) qs ≡ p ∷ missing a ps qs
at_less a p ps qs h =
    ap (λ b. cond (not b) (p ∷ missing a ps qs) (missing a ps qs)) (lacking a p qs h)

pub at_equal : (a : Action) (p q : Payload) (ps qs : List Payload) → IsData (p ∷ ps) →
    IsData (q ∷ qs) → name_cmp p q ≡ Equal → missing a (p ∷ ps) (q ∷ qs) ≡
    cond (not (is_same_for a p q)) (p ∷ missing a ps qs) (missing a ps qs)
unfolding IsStrictlySortedBy
at_equal a p q ps qs (h, s) (j, t) e =
    ap (λ b. cond (not b) (p ∷ missing a ps (q ∷ qs)) (missing a ps (q ∷ qs)))
    (one_more a p q qs ∙ ap (λ b. is_same_for a p q || b) (lacking a p qs (as_first p q e qs j))
    ∙ or_false (is_same_for a p q))
    ∙ ap (λ l. cond (not (is_same_for a p q)) (p ∷ l) l)
    (passed a q qs ps (as_first q p (tied_back name_total p q e) ps h))
  where
    or_false : (b : Bool) → (b || false) ≡ b
    or_false true = refl
    or_false false = refl

pub at_greater : (a : Action) (p q : Payload) (ps qs : List Payload) → IsData (p ∷ ps) →
    name_cmp p q ≡ Greater → missing a (p ∷ ps) (q ∷ qs) ≡ missing a (p ∷ ps) qs
unfolding IsStrictlySortedBy
at_greater a p q ps qs (h, s) e =
    let l = below p q e in passed a q qs (p ∷ ps) (l, below_all q p l ps h)
