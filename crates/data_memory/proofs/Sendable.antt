-- The payloads of data are ones that units announce.
use Rattle.std.proofs.Common.{◌≡◌, ℕ, List, [], ◌∷◌, ◌++◌, map, subst, sym}
use Rattle.std.specs.List.{AllByRecursion}
use Rattle.rtr_payload.specs.Meanings.{key_of, origin_of}
use Rattle.rtr_payload.specs.Payloads.{Payload}
use Rattle.rtr_payload.specs.declared.payload.RouteOrigin.{RouteOrigin}
use Rattle.rtr_payload.specs.declared.payload.RouterKey.{RouterKey}
use Rattle.data_memory.specs.Contents.{AreFit, entry_of, joined}
use Rattle.data_memory.specs.Sequences.{IsInRange, IsSendable}
use Rattle.data_memory.proofs.Fronts.{pushed}
use Rattle.data_memory.proofs.Segments.{all_append}

-- one more, where all so far are in their ranges
pub range_more : {A B : Type 0} (f : A → B) (g : B → Payload) (xs : List A) (x : A) →
    AllByRecursion (λ p. IsInRange p) (map g (map f xs)) → IsInRange (g (f x)) →
    AllByRecursion (λ p. IsInRange p) (map g (map f (xs ++ x ∷ [])))
range_more f g xs x h one =
    subst (λ l. AllByRecursion (λ p. IsInRange p) l) (sym (pushed f g xs x))
    (all_append (λ p. IsInRange p) (map g (map f xs)) (g (f x) ∷ []) h (one, tt))

pub sendable : (d : List Payload) → AllByRecursion (λ p. IsInRange p) d → AreFit d →
    AllByRecursion (λ p. IsSendable p) d
sendable [] h k = tt
sendable (p ∷ d) (g, h) (f, k) =
    (record { range = g.0; fit = f; bytes = g.1 }, sendable d h k)

pub parts_sendable : (os : List RouteOrigin) (ks : List RouterKey) (es : List (ℕ × List ℕ))
    (d : List Payload) → joined os ks es ≡ d → AreFit d →
    AllByRecursion (λ p. IsInRange p) (map origin_of os) →
    AllByRecursion (λ p. IsInRange p) (map key_of ks) →
    AllByRecursion (λ p. IsInRange p) (map entry_of es) → AllByRecursion (λ p. IsSendable p) d
parts_sendable os ks es d is fit a b c =
    sendable d
    (subst (λ l. AllByRecursion (λ p. IsInRange p) l) is
    (all_append (λ p. IsInRange p) (map origin_of os) (map key_of ks ++ map entry_of es) a
    (all_append (λ p. IsInRange p) (map key_of ks) (map entry_of es) b c))) fit
