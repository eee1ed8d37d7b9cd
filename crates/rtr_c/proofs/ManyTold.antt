-- Routes that are validated one after the other.
use Rattle.std.proofs.Common.{◌≡◌, ℕ, ◌+◌, ◌<◌, ◌≤◌, List, [], ◌∷◌, ◌++◌, length, take, drop, Bool}
use Rattle.std.proofs.Common.{set, get_or, sym, ap, subst, ◌∙◌, arith}
use Rattle.std.proofs.Common.{append_assoc, append-nil, min, inl, inr}
use Rattle.std.proofs.lemmas.Bool.{cases_lt}
use Rattle.std.proofs.lemmas.List.{drop-set-lt, drop_more, take-append-drop, take_more_set}
use Rattle.std.proofs.lemmas.List.{take_all, drop_all}
use Rattle.data_validation.specs.declared.tables.Tables.{Tables}
use Rattle.rtr_c.specs.ManyValidated.{TellsMany, no_route_left, no_validity_left, route_validated}
use Rattle.rtr_c.specs.Routes.{TellsValidity, route_prefix}
use Rattle.rtr_c.specs.declared.validation.RtrRoute.{RtrRoute}

module _ (s : Bool) (input : List ℕ) (t : Tables) (routes : List RtrRoute) (places : List ℕ) where
  -- How the call ends from a route on is how it ends from the first, with the validities before.
  abbrev pub SoFar : (now : List ℕ) (i : ℕ) → Type 0
  SoFar now i =
      (after : List ℕ) (count : ℕ)
      → TellsMany s input t (drop i routes) (drop i now) after count
      → TellsMany s input t routes places (take i now ++ after) (i + count)

  -- the same, with a list and a number said otherwise
  equal : {now now' : List ℕ} {n n' : ℕ} → TellsMany s input t routes places now n → now ≡ now' →
      n ≡ n' → TellsMany s input t routes places now' n'
  equal {now} {now'} {n} {n'} h a b =
      subst (λ x. TellsMany s input t routes places x n') a
      (subst (λ x. TellsMany s input t routes places now x) b h)

  module _ (now : List ℕ) (i : ℕ) (so_far : SoFar now i) where
    no_more_routes : length routes ≤ i → TellsMany s input t routes places now i
    no_more_routes l = equal (
        so_far (drop i now) 0
        (subst (λ x. TellsMany s input t x (drop i now) (drop i now) 0) (sym (drop_all i routes l))
        (no_route_left s input t (drop i now)))
        ) (take-append-drop i now) (omega arith)

    no_more_places : length now ≤ i → TellsMany s input t routes places now i
    no_more_places l = equal (
        so_far [] 0
        (subst (λ x. TellsMany s input t (drop i routes) x [] 0) (sym (drop_all i now l))
        (no_validity_left s input t (drop i routes)))
        ) (append-nil (take i now) ∙ take_all i now l) (omega arith)

    -- all routes are validated, or all places are filled
    pub ended : i ≡ min (length routes) (length now) → TellsMany s input t routes places now i
    ended e = elim (cases_lt i (length routes)) [
      | inl more ↦ no_more_places (omega (arith, e, more))
      | inr none ↦ no_more_routes none
    ]

    pub one_more : (b : List ℕ) (u : Tables) (r : RtrRoute) (code : ℕ) → b ≡ input → u ≡ t →
        i < length routes → i < length now →
        TellsValidity s (route_prefix (get_or routes i r)) b u (get_or routes i r).asn code →
        SoFar (set now i code) (i + 1)
    one_more b u r code bytes tables inside within told after count h =
        let route = get_or routes i r in
        let said : TellsValidity s (route_prefix route) input t route.asn code =
        subst (λ (x : List ℕ). TellsValidity s (route_prefix route) x t route.asn code) bytes
        (subst (λ (x : Tables). TellsValidity s (route_prefix route) b x route.asn code) tables
        told) in
        let left : TellsMany s input t (drop (i + 1) routes) (drop (i + 1) now) after count =
        subst (λ x. TellsMany s input t (drop (i + 1) routes) x after count)
        (drop-set-lt (i + 1) now i code (omega arith)) h in
        let all : TellsMany s input t (route ∷ drop (i + 1) routes)
        (get_or now i code ∷ drop (i + 1) now) (code ∷ after) (1 + count) =
        route_validated s input t route (drop (i + 1) routes) (get_or now i code) code
        (drop (i + 1) now) after count said left in
        equal (
        so_far (code ∷ after) (1 + count)
        (subst (λ x. TellsMany s input t x (drop i now) (code ∷ after) (1 + count))
        (sym (drop_more routes i r inside))
        (subst (λ x. TellsMany s input t (route ∷ drop (i + 1) routes) x (code ∷ after)
        (1 + count)) (sym (drop_more now i code within)) all))
        ) (
        sym (append_assoc (take i now) (code ∷ []) after)
        ∙ sym (ap (λ x. x ++ after) (take_more_set now i code within))
        ) (omega arith)
