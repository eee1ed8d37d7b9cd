-- The order of data, as the tables know it.
use Rattle.std.proofs.Common.{◌≡◌, ℕ, ◌≤◌, ◌<◌, ◌⊎◌, inl, inr, refl, ap, arith}
use Rattle.std.proofs.Common.{List, [], ◌∷◌, subst}
use Rattle.std.proofs.lemmas.Cmp.{ranked}
use Rattle.std.specs.List.{AllByRecursion}
use Rattle.std.specs.Ordering.{MatchOrdering, nat_cmp, ordering_then}
use Rattle.std.specs.declared.cmp.Ordering.{Ordering}
use Rattle.std.specs.declared.cmp.Ordering.TheVariants.{Less, Equal, Greater}
use Rattle.rtr_base.specs.Addresses.{Family, v4, v6, ip_version}
use Rattle.rtr_units.specs.PrefixUnits.{OriginParts}
use Rattle.rtr_payload.specs.Payloads.{Payload, origin, key, aspa}
use Rattle.data_memory.specs.Data.{name_cmp}
use Rattle.data_validation.specs.Tables.{order_key}
use Rattle.data_validation.proofs.Among.{IsAmong}

-- IPv4 origins, IPv6 origins, and all else
abbrev pub class_of : Family → ℕ
class_of v4 = 0
class_of v6 = 1

abbrev pub class : Payload → ℕ
class (origin o) = class_of o.family
class (key k) = 2
class (aspa a) = 2

pub class_few : (f : Family) → class_of f ≤ 1
class_few v4 = omega arith
class_few v6 = omega arith

-- of two numbers that are compared before all else
first_less : (x y : ℕ) (o rest : Ordering) → MatchOrdering o (x < y) (x ≡ y) (y < x) →
    ordering_then (ordering_then o Equal) rest ≡ Less → (x < y) ⊎ ((x ≡ y) × (rest ≡ Less))
first_less x y Less rest m e = inl m
first_less x y Equal rest m e = inr (m, e)
first_less x y Greater rest m e = absurd cc

less : (x y : ℕ) (rest : Ordering) →
    ordering_then (ordering_then (nat_cmp x y) Equal) rest ≡ Less →
    (x < y) ⊎ ((x ≡ y) × (rest ≡ Less))
less x y rest e = first_less x y (nat_cmp x y) rest (ranked x y (nat_cmp x y) refl) e

version_class : (f g : Family) → ip_version f ≤ ip_version g → class_of f ≤ class_of g
version_class v4 v4 h = omega arith
version_class v4 v6 h = omega arith
version_class v6 v4 h = absurd (omega arith)
version_class v6 v6 h = omega arith

pub class_mono : (p q : Payload) → name_cmp p q ≡ Less → class p ≤ class q
unfolding name_cmp
class_mono (origin o) (origin p) e =
    elim (less (ip_version o.family) (ip_version p.family) _ e) [
      | inl l ↦ version_class o.family p.family (omega arith)
      | inr s ↦ version_class o.family p.family (omega (arith, s.0))
    ]
class_mono (origin o) (key k) e = let h = class_few o.family in omega arith
class_mono (origin o) (aspa a) e = let h = class_few o.family in omega arith
class_mono (key k) (origin o) e = absurd cc
class_mono (key k) (key j) e = omega arith
class_mono (key k) (aspa a) e = omega arith
class_mono (aspa a) (origin o) e = absurd cc
class_mono (aspa a) (key k) e = absurd cc
class_mono (aspa a) (aspa b) e = omega arith

pub key_mono : (o p : OriginParts) → name_cmp (origin o) (origin p) ≡ Less →
    o.family ≡ p.family → o.prefix_len < 256 → order_key o ≤ order_key p
unfolding name_cmp order_key
key_mono o p e f short =
    elim (less (ip_version o.family) (ip_version p.family) _ e) [
      | inl l ↦ absurd (omega (arith, ap ip_version f))
      | inr s ↦ elim (less o.address p.address _ s.1) [
        | inl l ↦ omega arith
        | inr t ↦ elim (less o.prefix_len p.prefix_len _ t.1) [
          | inl l ↦ omega (arith, t.0)
          | inr w ↦ omega (arith, t.0, w.0)
        ]
      ]
    ]

pub among_all : (P : Payload → Type 0) (qs : List Payload) → AllByRecursion P qs → (q : Payload) →
    IsAmong q qs → P q
among_all P [] h q m = absurd m
among_all P (x ∷ qs) (g, h) q (inl e) = subst P e g
among_all P (x ∷ qs) (g, h) q (inr m) = among_all P qs h q m
