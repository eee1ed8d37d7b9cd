-- The payloads of a recording, taken one after the other.
use Rattle.std.proofs.Common.{◌≡◌, ℕ, List, [], ◌∷◌, ◌++◌, map, refl, sym, ap, ◌∙◌, subst}
use Rattle.std.proofs.Common.{MatchResult, Result, Ok, Err}
use Rattle.std.proofs.lemmas.List.{map-append}
use Rattle.rtr_payload.specs.Payloads.{Payload}
use Rattle.rtr_payload.specs.Meanings.{key_of, origin_of}
use Rattle.rtr_payload.specs.declared.payload.RouteOrigin.{RouteOrigin}
use Rattle.rtr_payload.specs.declared.payload.RouterKey.{RouterKey}
use Rattle.data_memory.specs.Contents.{entry_of, joined}
use Rattle.data_memory.proofs.Fronts.{pushed}
use Rattle.make_work.specs.Gathering.{item_payload}
use Rattle.make_work.specs.Taking.{TakesItems}
use Rattle.make_work.specs.declared.gathering.Gathering.{Gathering}
use Rattle.make_work.specs.declared.item.Item.{Item}
use Rattle.make_work.specs.declared.item.Reason.{Reason}
use Rattle.make_work.specs.declared.item.Reason.TheVariants.{Memory}
use Rattle.make_work.proofs.Takings.{takes_both, takes_none}
use Rattle.validate_work.specs.PrivateFiles.{TakesPayloads}

pub payloads_none : (g : Gathering) → TakesPayloads [] g g
payloads_none g = record { items = []; are = refl; taken = takes_none g }

pub payloads_one : (x : Item) (p : Payload) (old new : Gathering) → item_payload x ≡ p →
    TakesItems (x ∷ []) old new → TakesPayloads (p ∷ []) old new
payloads_one x p old new is t = record { items = x ∷ []; are = ap (λ q. q ∷ []) is; taken = t }

pub payloads_both : (ps qs : List Payload) (old mid new : Gathering) → TakesPayloads ps old mid →
    TakesPayloads qs mid new → TakesPayloads (ps ++ qs) old new
payloads_both ps qs old mid new a b = record {
  items = a.items ++ b.items;
  are = map-append item_payload a.items b.items
      ∙ ap (λ l. l ++ map item_payload b.items) a.are ∙ ap (λ l. ps ++ l) b.are;
  taken = takes_both a.items b.items old mid new a.taken b.taken;
}

-- one more, after those so far
pub payloads_more : {A B : Type 0} (f : A → B) (g : B → Payload) (xs : List A) (x : A)
    (old mid new : Gathering) → TakesPayloads (map g (map f xs)) old mid →
    TakesPayloads (g (f x) ∷ []) mid new → TakesPayloads (map g (map f (xs ++ x ∷ []))) old new
payloads_more f g xs x old mid new a b =
    subst (λ l. TakesPayloads l old new) (sym (pushed f g xs x))
    (payloads_both (map g (map f xs)) (g (f x) ∷ []) old mid new a b)

-- or memory ran out
pub took_payload : {T : Type 0} (r : Result T Reason) (x : Item) (p : Payload)
    (old new : Gathering) → item_payload x ≡ p →
    MatchResult r (λ _. TakesItems (x ∷ []) old new) (λ why. why ≡ Memory) →
    MatchResult r (λ _. TakesPayloads (p ∷ []) old new) (λ why. why ≡ Memory)
took_payload (Ok u) x p old new is t = payloads_one x p old new is t
took_payload (Err why) x p old new is e = e

-- origins, then keys, then ASPAs
pub taken_all : {T : Type 0} (r : Result T Reason) (ps : List Payload) (os : List RouteOrigin)
    (ks : List RouterKey) (es : List (ℕ × List ℕ)) (first second third last : Gathering) →
    ps ≡ joined os ks es → TakesPayloads (map origin_of os) first second →
    TakesPayloads (map key_of ks) second third →
    MatchResult r (λ _. TakesPayloads (map entry_of es) third last) (λ why. why ≡ Memory) →
    MatchResult r (λ _. TakesPayloads ps first last) (λ why. why ≡ Memory)
taken_all (Ok u) ps os ks es first second third last is a b c =
    subst (λ l. TakesPayloads l first last) (sym is)
    (payloads_both (map origin_of os) (map key_of ks ++ map entry_of es) first second last a
    (payloads_both (map key_of ks) (map entry_of es) second third last b c))
taken_all (Err why) ps os ks es first second third last is a b e = e
