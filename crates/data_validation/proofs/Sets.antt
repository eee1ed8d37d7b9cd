-- The origins of a set.
use Rattle.std.proofs.Common.{◌≡◌, ℕ, inl, inr, refl, sym, ap, arith, subst, suc}
use Rattle.std.proofs.Common.{zero}
use Rattle.std.proofs.Common.{List, [], ◌∷◌, ◌++◌, map, Bool, true, false}
use Rattle.std.proofs.lemmas.Bool.{true≢false}
use Rattle.std.proofs.lemmas.List.{map-append}
use Rattle.std.proofs.lemmas.List.Elements.{Contains-push, Contains-push_cases}
use Rattle.std.proofs.lemmas.List.Elements.{Contains-append_left, Contains-append_cases}
use Rattle.std.specs.List.{Contains}
use Rattle.rtr_base.specs.Addresses.{PrefixParts}
use Rattle.rtr_units.specs.PrefixUnits.{OriginParts}
use Rattle.rtr_payload.specs.Meanings.{key_of, origin_of}
use Rattle.rtr_payload.specs.Payloads.{origin}
use Rattle.rtr_payload.specs.declared.payload.RouteOrigin.{RouteOrigin}
use Rattle.rtr_payload.specs.declared.payload.RouterKey.{RouterKey}
use Rattle.data_memory.specs.Contents.{entry_of, joined}
use Rattle.data_validation.specs.Covering.{vrp}
use Rattle.data_validation.specs.PrivateSets.{OriginsPassed}
use Rattle.data_validation.specs.PrivateTable.{answer_of}
use Rattle.data_validation.specs.Validity.{Covers, IsValidity, Matches}
use Rattle.data_validation.specs.declared.validity.Validity.TheVariants.{Valid}
use Rattle.data_validation.proofs.Among.{IsAmong, among, contained}

-- ---- which origins are among the payloads of a set

-- an origin among these is that of one of them
pub record IsOne (os : List RouteOrigin) (v : OriginParts) : Type 0 where
  pub one : RouteOrigin
  pub here : Contains os one
  pub same : vrp one ≡ v

in_origins : (os : List RouteOrigin) (v : OriginParts) → IsAmong (origin v) (map origin_of os) →
    IsOne os v
in_origins [] v h = absurd h
in_origins (o ∷ os) v (inl e) = record { one = o; here = (0, omega arith, refl); same = cc }
in_origins (o ∷ os) v (inr h) =
    let w = in_origins os v h in
    record {
      one = w.one;
      here = (suc w.here.0, omega (arith, w.here.1), w.here.2);
      same = w.same;
    }

not_in_keys : (ks : List RouterKey) (v : OriginParts) → IsAmong (origin v) (map key_of ks) → ⊥
not_in_keys [] v h = h
not_in_keys (k ∷ ks) v (inl e) = absurd cc
not_in_keys (k ∷ ks) v (inr h) = not_in_keys ks v h

not_in_aspas : (aps : List (ℕ × List ℕ)) (v : OriginParts) →
    IsAmong (origin v) (map entry_of aps) → ⊥
not_in_aspas [] v h = h
not_in_aspas (x ∷ aps) v (inl e) = absurd cc
not_in_aspas (x ∷ aps) v (inr h) = not_in_aspas aps v h

found : (os : List RouteOrigin) (ks : List RouterKey) (aps : List (ℕ × List ℕ)) (v : OriginParts) →
    Contains (joined os ks aps) (origin v) → IsOne os v
found os ks aps v h =
    elim (Contains-append_cases (map origin_of os) (map key_of ks ++ map entry_of aps) (origin v)
    h) [
      | inl l ↦ in_origins os v (among (origin v) (map origin_of os) l)
      | inr r ↦ elim (Contains-append_cases (map key_of ks) (map entry_of aps) (origin v) r) [
        | inl k ↦ absurd (not_in_keys ks v (among (origin v) (map key_of ks) k))
        | inr a ↦ absurd (not_in_aspas aps v (among (origin v) (map entry_of aps) a))
      ]
    ]

mapped : (os : List RouteOrigin) (o : RouteOrigin) → Contains os o →
    IsAmong (origin_of o) (map origin_of os)
mapped [] o (k, h, e) = absurd (omega arith)
mapped (x ∷ os) o (zero, h, e) = inl (ap origin_of e)
mapped (x ∷ os) o (suc k, h, e) = inr (mapped os o (k, omega arith, e))

here : (os : List RouteOrigin) (ks : List RouterKey) (aps : List (ℕ × List ℕ)) (o : RouteOrigin) →
    Contains os o → Contains (joined os ks aps) (origin (vrp o))
here os ks aps o h =
    Contains-append_left (map origin_of os) (map key_of ks ++ map entry_of aps) (origin_of o)
    (contained (origin_of o) (map origin_of os) (mapped os o h))

-- ---- the walk

-- what a walk has come to is among all
pub turned_to : {A B : Type 0} (g : A → B) (xs : List A) (x : A) (all rest : List B) →
    all ≡ map g (xs ++ x ∷ []) ++ rest → Contains all (g x)
turned_to {A} {B} g xs x all rest e =
    subst (λ (l : List B). Contains l (g x)) (sym e)
    (Contains-append_left (map g (xs ++ x ∷ [])) rest (g x)
    (subst (λ (l : List B). Contains l (g x)) (sym (map-append g xs (x ∷ [])))
    (Contains-push (map g xs) (g x))))

pub none_passed : (p : PrefixParts) (a : ℕ) → OriginsPassed [] p a false
none_passed p a = record {
  some = λ e. absurd (true≢false (sym e));
  passed = λ o h c. absurd (omega (arith, h.1));
}

-- one more, which doesn't cover
pub more_apart : (os : List RouteOrigin) (x : RouteOrigin) (p : PrefixParts) (a : ℕ)
    (covered : Bool) → OriginsPassed os p a covered → (Covers (vrp x) p → ⊥) →
    OriginsPassed (os ++ x ∷ []) p a covered
more_apart os x p a covered h apart = record {
  some = λ e.
      let w = h.some e in
      (w.0, Contains-append_left os (x ∷ []) w.0 w.1, w.2);
  passed = λ o k c. elim (Contains-push_cases os x o k) [
    | inl old ↦ h.passed o old c
    | inr new ↦ absurd (apart (subst (λ (y : RouteOrigin). Covers (vrp y) p) (sym new) c))
  ];
}

-- one more, which covers and doesn't match
pub more_covers : (os : List RouteOrigin) (x : RouteOrigin) (p : PrefixParts) (a : ℕ)
    (covered : Bool) → OriginsPassed os p a covered → Covers (vrp x) p →
    (Matches (vrp x) p a → ⊥) → OriginsPassed (os ++ x ∷ []) p a true
more_covers os x p a covered h covers apart = record {
  some = λ e. (x, Contains-push os x, covers);
  passed = λ o k c. (
    refl,
    elim (Contains-push_cases os x o k) [
      | inl old ↦ (h.passed o old c).1
      | inr new ↦ λ m. apart (subst (λ (y : RouteOrigin). Matches (vrp y) p a) (sym new) m)
    ],
  );
}

-- one that matches
pub one_matches : (os : List RouteOrigin) (ks : List RouterKey) (aps : List (ℕ × List ℕ))
    (o : RouteOrigin) (p : PrefixParts) (a : ℕ) → Contains os o → Matches (vrp o) p a →
    IsValidity (joined os ks aps) p a Valid
one_matches os ks aps o p a h m = (vrp o, here os ks aps o h, m)

-- all were passed
pub all_passed : (os : List RouteOrigin) (ks : List RouterKey) (aps : List (ℕ × List ℕ))
    (p : PrefixParts) (a : ℕ) (covered : Bool) → OriginsPassed os p a covered →
    IsValidity (joined os ks aps) p a (answer_of covered)
all_passed os ks aps p a true h =
    let w = h.some refl in (
      (vrp w.0, here os ks aps w.0 w.1, w.2),
      λ v k m.
          let o = found os ks aps v k in
          let m' = subst (λ (x : OriginParts). Matches x p a) (sym o.same) m in
          (h.passed o.one o.here m'.covers).1 m',
    )
all_passed os ks aps p a false h = λ v k c.
    let o = found os ks aps v k in
    let c' = subst (λ (x : OriginParts). Covers x p) (sym o.same) c in
    absurd (true≢false (sym ((h.passed o.one o.here c').0)))
