-- How many payloads a version lacks, and how many it has, by their kinds.
use Rattle.std.proofs.Common.{◌≡◌, ℕ, ◌+◌, Bool, true, false, cond, nat_lt, nat_le}
use Rattle.std.proofs.Common.{List, [], ◌∷◌, ◌++◌, map, filter, length, refl, ap, ◌∙◌, arith}
use Rattle.std.proofs.lemmas.Bool.Decides.{nat_tests}
use Rattle.std.proofs.lemmas.List.{length-append}
use Rattle.rtr_payload.specs.Meanings.{key_of, origin_of}
use Rattle.rtr_payload.specs.Payloads.{Payload, smallest_version}
use Rattle.rtr_payload.specs.declared.payload.RouteOrigin.{RouteOrigin}
use Rattle.rtr_payload.specs.declared.payload.RouterKey.{RouterKey}
use Rattle.data_memory.specs.Contents.{entry_of, joined}
use Rattle.data_memory.specs.Deltas.{data_for}
use Rattle.make_work.specs.Gathering.{is_lacking, lacked}

append_tail : (b : Bool) (x : Payload) (xs ys : List Payload) →
    cond b (x ∷ (xs ++ ys)) (xs ++ ys) ≡ cond b (x ∷ xs) xs ++ ys
append_tail true x xs ys = refl
append_tail false x xs ys = refl

filter_append : (test : Payload → Bool) (xs ys : List Payload) →
    filter test (xs ++ ys) ≡ filter test xs ++ filter test ys
filter_append test [] ys = refl
filter_append test (x ∷ xs) ys =
    ap (λ l. cond (test x) (x ∷ l) l) (filter_append test xs ys)
    ∙ append_tail (test x) x (filter test xs) (filter test ys)

one_more : (b : Bool) (x : Payload) (xs : List Payload) (n : ℕ) → length xs ≡ cond b n 0 →
    length (cond b (x ∷ xs) xs) ≡ cond b (n + 1) 0
one_more true x xs n e = omega (arith, e)
one_more false x xs n e = e

-- all of one kind pass, or none
of_kind : {X : Type 0} (test : Payload → Bool) (f : X → Payload) (b : Bool) →
    ((x : X) → test (f x) ≡ b) → (xs : List X) →
    length (filter test (map f xs)) ≡ cond b (length xs) 0
of_kind test f true h [] = refl
of_kind test f false h [] = refl
of_kind test f b h (x ∷ xs) =
    ap (λ k. length (cond k (f x ∷ filter test (map f xs)) (filter test (map f xs)))) (h x)
    ∙ one_more b (f x) (filter test (map f xs)) (length xs) (of_kind test f b h xs)
    ∙ ap (λ n. cond b n 0) (omega arith)

by_kinds : (test : Payload → Bool) (a b c : Bool) →
    ((o : RouteOrigin) → test (origin_of o) ≡ a) → ((k : RouterKey) → test (key_of k) ≡ b) →
    ((e : ℕ × List ℕ) → test (entry_of e) ≡ c) →
    (os : List RouteOrigin) (ks : List RouterKey) (es : List (ℕ × List ℕ)) →
    length (filter test (joined os ks es))
    ≡ cond a (length os) 0 + (cond b (length ks) 0 + cond c (length es) 0)
by_kinds test a b c ho hk he os ks es =
    let first = filter_append test (map origin_of os) (map key_of ks ++ map entry_of es) in
    let second = filter_append test (map key_of ks) (map entry_of es) in
    ap length first ∙ length-append (filter test (map origin_of os)) _
    ∙ ap (λ n. n + length (filter test (map key_of ks ++ map entry_of es)))
    (of_kind test origin_of a ho os)
    ∙ ap (λ n. cond a (length os) 0 + n) (
    ap length second ∙ length-append (filter test (map key_of ks)) _
    ∙ ap (λ n. n + length (filter test (map entry_of es))) (of_kind test key_of b hk ks)
    ∙ ap (λ n. cond b (length ks) 0 + n) (of_kind test entry_of c he es))

zero_plus : (n : ℕ) → 0 + n ≡ n
zero_plus n = omega arith

all_from_0 : (v : ℕ) → nat_le 0 v ≡ true
all_from_0 v = grind (arith, nat_tests)

none_below_0 : (v : ℕ) → nat_lt v 0 ≡ false
none_below_0 v = grind (arith, nat_tests)

pub lacking_count : (v : ℕ) (os : List RouteOrigin) (ks : List RouterKey)
    (es : List (ℕ × List ℕ)) →
    length (lacked v (joined os ks es))
    ≡ cond (nat_lt v 1) (length ks) 0 + cond (nat_lt v 2) (length es) 0
lacking_count v os ks es =
    by_kinds (is_lacking v) false (nat_lt v 1) (nat_lt v 2)
    (λ o. none_below_0 v) (λ k. refl) (λ e. refl) os ks es
    ∙ zero_plus _

pub had_count : (v : ℕ) (os : List RouteOrigin) (ks : List RouterKey)
    (es : List (ℕ × List ℕ)) →
    length (data_for v (joined os ks es))
    ≡ length os + (cond (nat_le 1 v) (length ks) 0 + cond (nat_le 2 v) (length es) 0)
had_count v os ks es =
    by_kinds (λ p. nat_le (smallest_version p) v) true (nat_le 1 v) (nat_le 2 v)
    (λ o. all_from_0 v) (λ k. refl) (λ e. refl) os ks es
