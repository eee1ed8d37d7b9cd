-- For what was made there is a caller that makes the same, and nothing else.
use native.Mathlib.Omega.{arith}
use Rattle.std.proofs.Common.{◌≡◌, ◌⊎◌, ℕ, Bool, true, false, List, [], ◌∷◌, ◌++◌, take, drop}
use Rattle.std.proofs.Common.{length, Option, Some, None, Ok, refl, sym, ap, subst, ◌∙◌, inl, inr}
use Rattle.std.proofs.Common.{if◌then◌else◌, ◌+◌, ◌≤◌, length-append}
use Rattle.std.specs.Prelude.{◌&&◌, ◌==◌, Result, Err, unwrap_or}
use Rattle.data_memory.specs.declared.change_error.ChangeError.{ChangeError}
use Rattle.std.proofs.lemmas.Bool.Decides.{nat_tests}
use Rattle.std.specs.List.{concat}
use Rattle.rtr_payload.specs.Payloads.{Payload}
use Rattle.data_memory.specs.Changes.{after_all}
use Rattle.data_slices.specs.Apply.{data_form}
use Rattle.data_slices.specs.InOrder.{AppliesInOrder}
use Rattle.data_slices.proofs.OneData.{one_data}
use Rattle.data_slices.proofs.Ordering.{one_sequence}
use Rattle.session_router.specs.declared.settings.Settings.{Settings}
use Rattle.session_router.specs.Histories.{Caller}
use Rattle.session_bytes.specs.ShownData.{AppliesAnswers, base_of}
use Rattle.session_bytes.proofs.Whole.{front_is}
use Rattle.session_client.specs.Holding.{SameShown, due_size}
use Rattle.session_client.specs.Makings.{Octets, MakesThis, MakesAll, MadeAnswer, WasMade, WereMade}
use Rattle.session_client.specs.Makings.{ShowsMade, onto}
use Rattle.session_client.specs.declared.client.Holding.{Holding}
use Rattle.session_client.specs.declared.client.Holding.TheVariants as holdings

-- ---- one and the same result

abbrev of_ok : Result (List Payload) ChangeError → List Payload
of_ok (Ok d) = d
of_ok (Err e) = []

pub same_made : (base answer : Octets) (p q n m : ℕ) (b b' a a' : Octets) →
    AppliesInOrder (Ok n) base answer p b a → AppliesInOrder (Ok m) base answer q b' a' →
    take n a ≡ take m a'
same_made base answer p q n m b b' a a'
    (d, e, cs, f, h, s, (v, t, (few, (new, made, (long, within, is)))))
    (d₁, e₁, cs₁, f₁, h₁, s₁, (v₁, t₁, (few₁, (new₁, made₁, (long₁, within₁, is₁))))) =
    let x = one_data base d d₁ e e₁ h h₁ in
    let y = one_sequence answer cs cs₁ f f₁ s s₁ in
    let both : Ok new ≡ Ok new₁ =
    sym made ∙ (λ i. after_all (y.0 i) (Ok (x.0 i))) ∙ made₁ in
    let new_is : new ≡ new₁ = ap of_ok both in
    front_is n (data_form new f) (drop n b) a long is
    ∙ (λ i. data_form (new_is i) (y.1 i))
    ∙ sym (front_is m (data_form new₁ f₁) (drop m b') a' long₁ is₁)

pub same_size : (base answer : Octets) (p q n m : ℕ) (b b' a a' : Octets) →
    AppliesInOrder (Ok n) base answer p b a → AppliesInOrder (Ok m) base answer q b' a' → n ≡ m
same_size base answer p q n m b b' a a'
    (d, e, cs, f, h, s, (v, t, (few, (new, made, (long, within, is)))))
    (d₁, e₁, cs₁, f₁, h₁, s₁, (v₁, t₁, (few₁, (new₁, made₁, (long₁, within₁, is₁))))) =
    let x = one_data base d d₁ e e₁ h h₁ in
    let y = one_sequence answer cs cs₁ f f₁ s s₁ in
    let both : Ok new ≡ Ok new₁ =
    sym made ∙ (λ i. after_all (y.0 i) (Ok (x.0 i))) ∙ made₁ in
    let new_is : new ≡ new₁ = ap of_ok both in
    long ∙ (λ i. length (data_form (new_is i) (y.1 i))) ∙ sym long₁

fits_after : (n : ℕ) (piece before after : List ℕ) → n ≡ length piece →
    after ≡ piece ++ drop n before → n ≤ length after
fits_after n piece before after size is =
    let long = ap length is ∙ length-append piece (drop n before) in
    omega (arith, size, long)

made_fits : (base answer : Octets) (p n : ℕ) (b a : Octets) →
    AppliesInOrder (Ok n) base answer p b a → n ≤ length a
made_fits base answer p n b a
    (d, e, cs, f, h, s, (v, t, (few, (new, made, (long, within, is))))) =
    fits_after n (data_form new f) b a long is

-- ---- what is shown then

abbrev since_of : Holding → Bool
since_of (holdings.Answer size since) = since
since_of m = false

pub shows_once : (m : Holding) (kept p q : ℕ) (shown s t : Option ℕ)
    (input held b b' a a' : Octets) →
    ShowsMade m kept shown input held p b a s → ShowsMade m kept shown input held q b' a' t →
    (s ≡ t) × SameShown s a a'
shows_once m kept p q shown s t input held b b' a a' x y =
    let one = sym x.answer ∙ y.answer in
    let end : x.end ≡ y.end = ap due_size one in
    let since : x.since ≡ y.since = ap since_of one in
    let base = onto y.since shown held (take y.end (drop kept input)) in
    let answer = take (kept + y.end) input in
    let there : AppliesInOrder (Ok x.size) base answer p b a =
    subst (λ w. AppliesInOrder (Ok x.size) (onto w shown held (take y.end (drop kept input)))
    answer p b a) since
    (subst (λ n. AppliesInOrder (Ok x.size) (onto x.since shown held (take n (drop kept input)))
    (take (kept + n) input) p b a) end x.applies) in
    let size : x.size ≡ y.size =
    same_size base answer p q x.size y.size b b' a a' there y.applies in (
      x.shown_is ∙ ap (λ n. Some n) size ∙ sym y.shown_is,
      subst (λ o. SameShown o a a') (sym x.shown_is)
          (same_made base answer p q x.size y.size b b' a a' there y.applies
          ∙ ap (λ n. take n a') (sym size)),
    )

pub shows_within : (m : Holding) (kept p : ℕ) (shown s : Option ℕ) (input held b a : Octets) →
    ShowsMade m kept shown input held p b a s → (n : ℕ) × (s ≡ Some n) × (n ≤ length a)
shows_within m kept p shown s input held b a x = (
  x.size,
  x.shown_is,
  made_fits (onto x.since shown held (take x.end (drop kept input))) (take (kept + x.end) input) p
      x.size b a x.applies,
)

-- ---- what was made, looked up

same : List ℕ → List ℕ → Bool
same [] [] = true
same [] (y ∷ ys) = false
same (x ∷ xs) [] = false
same (x ∷ xs) (y ∷ ys) = (x == y) && same xs ys

both_true : (p q : Bool) → (p && q) ≡ true → (p ≡ true) × (q ≡ true)
both_true true q is = (refl, is)
both_true false q is = absurd (let e = is in cc)

is_number : (x y : ℕ) → (x == y) ≡ true → x ≡ y
is_number x y is = grind (arith, nat_tests)

number_is : (x : ℕ) → (x == x) ≡ true
number_is x = grind (arith, nat_tests)

same_is : (xs ys : List ℕ) → same xs ys ≡ true → xs ≡ ys
unfolding same
same_is [] [] is = refl
same_is [] (y ∷ ys) is = absurd (let e = is in cc)
same_is (x ∷ xs) [] is = absurd (let e = is in cc)
same_is (x ∷ xs) (y ∷ ys) is =
    let both = both_true (x == y) (same xs ys) is in
    let head = is_number x y both.0 in
    let tail = same_is xs ys both.1 in
    (λ i. head i ∷ tail i)

is_same : (xs : List ℕ) → same xs xs ≡ true
unfolding same
is_same [] = refl
is_same (x ∷ xs) = (λ i. number_is x i && is_same xs i)

lookup : List MadeAnswer → Octets → Octets → Option Octets
lookup [] base answer = None
lookup (m ∷ ms) base answer =
    if same m.base base && same m.answer answer then Some m.new else lookup ms base answer

record Found (base answer new : Octets) : Type 0 where
  pub made : WasMade (record { base = base; answer = answer; new = new })

found : (ms : List MadeAnswer) (base answer new : Octets) → WereMade ms →
    lookup ms base answer ≡ Some new → Found base answer new
unfolding lookup
found [] base answer new were is = absurd (let e = is in cc)
found (m ∷ ms) base answer new were is =
    go (same m.base base && same m.answer answer) refl is
    (λ later. found ms base answer new were.1 later)
  where
    go : (t : Bool) → (same m.base base && same m.answer answer) ≡ t →
        (if t then Some m.new else lookup ms base answer) ≡ Some new →
        (lookup ms base answer ≡ Some new → Found base answer new) → Found base answer new
    go false test is later = later is
    go true test is later =
        let both = both_true (same m.base base) (same m.answer answer) test in
        let b = same_is m.base base both.0 in
        let a = same_is m.answer answer both.1 in
        let n : m.new ≡ new = ap (λ o. unwrap_or o new) is in
        record {
          made = subst WasMade (λ i. record { base = b i; answer = a i; new = n i }) were.0;
        }

abbrev In : MadeAnswer → List MadeAnswer → Type 0
In m [] = ⊥
In m (x ∷ xs) = (m ≡ x) ⊎ In m xs

one_new : (m x : MadeAnswer) → m.base ≡ x.base → m.answer ≡ x.answer → WasMade m → WasMade x →
    x.new ≡ m.new
one_new m x b a w v =
    v.new_is
    ∙ same_made x.base x.answer v.places w.places v.size w.size v.before w.before v.after w.after
    v.applies
    (subst (λ base. AppliesInOrder (Ok w.size) base x.answer w.places w.before w.after) b
    (subst (λ answer. AppliesInOrder (Ok w.size) m.base answer w.places w.before w.after) a
    w.applies))
    ∙ sym w.new_is

finds : (ms : List MadeAnswer) (m : MadeAnswer) → WereMade ms → WasMade m → In m ms →
    lookup ms m.base m.answer ≡ Some m.new
unfolding lookup
finds [] m were was there = absurd there
finds (x ∷ xs) m were was there =
    go (same x.base m.base && same x.answer m.answer) refl there
    (λ later. finds xs m were.1 was later)
  where
    go : (t : Bool) → (same x.base m.base && same x.answer m.answer) ≡ t → In m (x ∷ xs) →
        (In m xs → lookup xs m.base m.answer ≡ Some m.new) →
        (if t then Some x.new else lookup xs m.base m.answer) ≡ Some m.new
    go true test there later =
        let both = both_true (same x.base m.base) (same x.answer m.answer) test in
        ap (λ new. Some new) (one_new m x (sym (same_is x.base m.base both.0))
        (sym (same_is x.answer m.answer both.1)) was were.0)
    go false test (inr there) later = later there
    go false test (inl is) later =
        let it : (same x.base m.base && same x.answer m.answer) ≡ true =
        (λ i. same x.base ((is i).base) && same x.answer ((is i).answer))
        ∙ (λ i. is_same x.base i && is_same x.answer i) in
        absurd (let e = sym it ∙ test in cc)

-- ---- the caller

pub caller_of : Settings → List MadeAnswer → Caller Octets Octets
caller_of s ms = record {
  settings = s;
  make = λ old units end. lookup ms (base_of old end) (concat units ++ end);
}

pub caller_settings : (s : Settings) (ms : List MadeAnswer) → (caller_of s ms).settings ≡ s
unfolding caller_of
caller_settings s ms = refl

pub caller_applies : (s : Settings) (ms : List MadeAnswer) → WereMade ms →
    AppliesAnswers (caller_of s ms)
unfolding caller_of
caller_applies s ms were old units end new is =
    let made = (found ms (base_of old end) (concat units ++ end) new were is).made in
    record {
      size = made.size;
      places = made.places;
      before = made.before;
      after = made.after;
      applies = made.applies;
      new_is = made.new_is;
    }

pub caller_makes : (s : Settings) (ms : List MadeAnswer) → WereMade ms → MakesAll (caller_of s ms)
    ms
unfolding caller_of
caller_makes s ms were = go ms were (λ m there. there)
  where
    one : (m : MadeAnswer) → WasMade m → In m ms → MakesThis (caller_of s ms) m
    one m was there old units end base answer =
        (λ i. lookup ms (base i) (answer i)) ∙ finds ms m were was there

    go : (xs : List MadeAnswer) → WereMade xs → ((m : MadeAnswer) → In m xs → In m ms) →
        MakesAll (caller_of s ms) xs
    go [] none all = tt
    go (x ∷ xs) (was, more) all =
        (one x was (all x (inl refl)), go xs more (λ m there. all m (inr there)))
