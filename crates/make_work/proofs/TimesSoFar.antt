-- What holds of items that are looked at one after the other for their times.
use Rattle.std.proofs.Common.{◌≡◌, ◌⊎◌, ℕ, ◌+◌, ◌<◌, ◌≤◌, List, [], ◌∷◌, ◌++◌}
use Rattle.std.proofs.Common.{Option, Some, None, Result, Ok, Err, inl, inr, refl}
use Rattle.std.proofs.Common.{sym, ap, subst, ◌∙◌, arith}
use Rattle.std.proofs.lemmas.List.{append-nil, length-append}
use Rattle.std.proofs.lemmas.List.Elements.{filter-append}
use Rattle.std.proofs.lemmas.Bool.{cases_lt, eqb-true}
use Rattle.std.specs.Option.{is_some}
use Rattle.std.specs.Prelude.{filter, min}
use Rattle.std.specs.List.{AllByRecursion}
use Rattle.make_work.specs.JsonValues.{SomeIs}
use Rattle.make_work.specs.Expiries.{IsNextExpiry, LeavesAsked, earlier_fault, expiry_fault}
use Rattle.make_work.specs.Expiries.{first_expiry_fault, lasts, stays, times_of, with_time}
use Rattle.make_work.specs.MakeStatus.{lacking_line, line_end}
use Rattle.std.specs.Fmt.{decimal}
use Rattle.std.specs.Prelude.{codes, ◌==◌}
use Rattle.std.proofs.Common.{Bool, true, false, cond}
use Rattle.make_work.specs.PrivateExpiring.{LeavesAfter, LooksAtTime, left_after, sooner}
use Rattle.make_work.specs.Taking.{answer_by, times_answer, expired_at}
use Rattle.make_work.specs.declared.expiring.Expired.{Expired}
use Rattle.make_work.specs.declared.expiring.Times.{Times}
use Rattle.make_work.specs.declared.item.Expiry.{Expiry}
use Rattle.make_work.specs.declared.item.Expiry.TheVariants.{Never, At, Invalid, Twice}
use Rattle.make_work.specs.declared.item.Item.{Item}
use Rattle.make_work.specs.declared.item.Reason.{Reason}
use Rattle.make_work.specs.declared.item.Refusal.{Refusal}

-- ---- faults

-- the first fault of items with one more, by that of those before
fault_later : (o p later : Option Reason) → earlier_fault o (earlier_fault p later)
    ≡ earlier_fault (earlier_fault o p) later
fault_later (Some r) p later = refl
fault_later None p later = refl

no_later : (o : Option Reason) → earlier_fault o None ≡ o
no_later (Some r) = refl
no_later None = refl

fault_more : (items : List Item) (x : Item) → first_expiry_fault (items ++ x ∷ [])
    ≡ earlier_fault (first_expiry_fault items) (expiry_fault x.expiry)
fault_more [] x = no_later (expiry_fault x.expiry)
fault_more (i ∷ items) x =
    ap (earlier_fault (expiry_fault i.expiry)) (fault_more items x)
    ∙ fault_later (expiry_fault i.expiry) (first_expiry_fault items) (expiry_fault x.expiry)

-- ---- times

by_expiry : (e : Expiry) (times more all : List ℕ) → all ≡ times ++ more →
    with_time e all ≡ with_time e times ++ more
by_expiry (At t) times more all h = ap (λ l. t ∷ l) h
by_expiry Never times more all h = h
by_expiry Invalid times more all h = h
by_expiry Twice times more all h = h

-- the times of one item more
times_more : (items : List Item) (x : Item) →
    times_of (items ++ x ∷ []) ≡ times_of items ++ with_time x.expiry []
times_more [] x = refl
times_more (i ∷ items) x = by_expiry i.expiry _ _ _ (times_more items x)

later_all : (t : ℕ) (times : List ℕ) (u : ℕ) → AllByRecursion (λ v. t ≤ v) times → t ≤ u →
    AllByRecursion (λ v. t ≤ v) (times ++ u ∷ [])
later_all t [] u h k = (k, tt)
later_all t (v ∷ times) u h k = (h.0, later_all t times u h.1 k)

all_lower : (s t : ℕ) (times : List ℕ) → s ≤ t → AllByRecursion (λ v. t ≤ v) times →
    AllByRecursion (λ v. s ≤ v) times
all_lower s t [] h k = tt
all_lower s t (v ∷ times) h k = (omega (arith, h, k.0), all_lower s t times h k.1)

still_there : (t : ℕ) (times : List ℕ) (u : ℕ) → SomeIs (λ v. v ≡ t) times →
    SomeIs (λ v. v ≡ t) (times ++ u ∷ [])
still_there t [] u h = absurd h
still_there t (v ∷ times) u (inl e) = inl e
still_there t (v ∷ times) u (inr h) = inr (still_there t times u h)

last_there : (times : List ℕ) (u : ℕ) → SomeIs (λ v. v ≡ u) (times ++ u ∷ [])
last_there [] u = inl refl
last_there (v ∷ times) u = inr (last_there times u)

earlier_next : (s t : ℕ) (times : List ℕ) → IsNextExpiry (Some s) times → (s < t) ⊎ (t ≤ s) →
    IsNextExpiry (Some (min s t)) (times ++ t ∷ [])
earlier_next s t times h (inl small) =
    let e : min s t ≡ s = omega (arith, small) in
    subst (λ r. IsNextExpiry (Some r) (times ++ t ∷ [])) (sym e)
    (still_there s times t h.0, later_all s times t h.1 (omega (arith, small)))
earlier_next s t times h (inr large) =
    let e : min s t ≡ t = omega (arith, large) in
    subst (λ r. IsNextExpiry (Some r) (times ++ t ∷ [])) (sym e)
    (last_there times t, later_all t times t (all_lower t s times large h.1) (omega arith))

-- the earlier_fault of the two is next
pub sooner_next : (o : Option ℕ) (e : Expiry) (times : List ℕ) → IsNextExpiry o times →
    IsNextExpiry (sooner o e) (times ++ with_time e [])
sooner_next None (At t) times h =
    subst (λ l. IsNextExpiry (Some t) (l ++ t ∷ [])) (sym h) (inl refl, (omega arith, tt))
sooner_next (Some u) (At t) times h = earlier_next u t times h (cases_lt u t)
sooner_next None Never times h = subst (IsNextExpiry None) (sym (append-nil times)) h
sooner_next None Invalid times h = subst (IsNextExpiry None) (sym (append-nil times)) h
sooner_next None Twice times h = subst (IsNextExpiry None) (sym (append-nil times)) h
sooner_next (Some u) Never times h = subst (IsNextExpiry (Some u)) (sym (append-nil times)) h
sooner_next (Some u) Invalid times h = subst (IsNextExpiry (Some u)) (sym (append-nil times)) h
sooner_next (Some u) Twice times h = subst (IsNextExpiry (Some u)) (sym (append-nil times)) h

-- ---- one item more

-- where no time is asked for all stay
pub unasked : (x : Item) (a : Option ℕ) (items left : List Item)
    (r : Result (Option Expired) Refusal) → a ≡ None → LeavesAsked a items left r →
    LeavesAfter true x items left a r
unasked x None items left (Ok None) e h = ap (λ l. l ++ x ∷ []) h
unasked x None items left (Ok (Some f)) e h = absurd h
unasked x None items left (Err r) e h = absurd h
unasked x (Some now) items left r e h = absurd cc

-- an item was refused before
pub refused_before : (x : Item) (stays : Bool) (a : Option ℕ) (items left : List Item)
    (r : Refusal) → LeavesAsked a items left (Err r) → LeavesAfter stays x items left a (Err r)
refused_before x stays None items left r h = absurd h
refused_before x stays (Some now) items left r h = (
  fault_more items x ∙ ap (λ o. earlier_fault o (expiry_fault x.expiry)) h.0,
  refl,
)

-- this one is the first
pub refused_here : (x : Item) (stays : Bool) (now : ℕ) (items left : List Item) (e : Expired)
    (r : Refusal) → expiry_fault x.expiry ≡ Some r.reason →
    LeavesAsked (Some now) items left (Ok (Some e)) →
    LeavesAfter stays x items left (Some now) (Err r)
refused_here x stays now items left e r f h = (
  fault_more items x ∙ ap (λ o. earlier_fault o (expiry_fault x.expiry)) h.clear ∙ f,
  refl,
)

filtered : (now : ℕ) (items left : List Item) (x : Item) (b : Bool) → stays now x ≡ b →
    left ≡ filter (stays now) items →
    left_after b x left ≡ filter (stays now) items ++ cond b (x ∷ []) []
filtered now items left x true e h = ap (λ l. l ++ x ∷ []) h
filtered now items left x false e h = h ∙ sym (append-nil (filter (stays now) items))

-- those that stay of items and one more
stay_more : (now : ℕ) (items left : List Item) (x : Item) (b : Bool) → stays now x ≡ b →
    left ≡ filter (stays now) items → left_after b x left ≡ filter (stays now) (items ++ x ∷ [])
stay_more now items left x b e h =
    filtered now items left x b e h
    ∙ ap (λ c. filter (stays now) items ++ cond c (x ∷ []) []) (sym e)
    ∙ sym (filter-append (stays now) items (x ∷ []))

-- it stays
pub stays_here : (x : Item) (now : ℕ) (items left : List Item) (n : ℕ) (o new : Option ℕ) →
    expiry_fault x.expiry ≡ None → lasts now x.expiry ≡ true → new ≡ sooner o x.expiry →
    LeavesAsked (Some now) items left (Ok (Some (record { left_out = n; next = o }))) →
    LeavesAfter true x items left (Some now) (Ok (Some (record { left_out = n; next = new })))
stays_here x now items left n o new fine stay e h = record {
  clear = fault_more items x ∙ ap (λ p. earlier_fault p (expiry_fault x.expiry)) h.clear ∙ fine;
  left = stay_more now items left x true stay h.left;
  gone = omega (arith, h.gone, length-append left (x ∷ []), length-append items (x ∷ []));
  next = subst (λ p. IsNextExpiry p (times_of (left ++ x ∷ []))) (sym e)
      (subst (IsNextExpiry (sooner o x.expiry)) (sym (times_more left x))
      (sooner_next o x.expiry (times_of left) h.next));
}

-- it has expired
pub gone_here : (x : Item) (now : ℕ) (items left : List Item) (n m : ℕ) (o : Option ℕ) →
    expiry_fault x.expiry ≡ None → lasts now x.expiry ≡ false → m ≡ n + 1 →
    LeavesAsked (Some now) items left (Ok (Some (record { left_out = n; next = o }))) →
    LeavesAfter false x items left (Some now) (Ok (Some (record { left_out = m; next = o })))
gone_here x now items left n m o fine gone e h = record {
  clear = fault_more items x ∙ ap (λ p. earlier_fault p (expiry_fault x.expiry)) h.clear ∙ fine;
  left = stay_more now items left x false gone h.left;
  gone = omega (arith, h.gone, e, length-append items (x ∷ []));
  next = h.next;
}

-- ---- what a look at one more item leaves

pub looks_unasked : (x : Item) (t : Times) → t.asked ≡ None → LooksAtTime x true t t
looks_unasked x t e = record {
  asked = refl;
  first = λ f. f;
  after = λ items left h. unasked x t.asked items left (times_answer t) e h;
}

after_refused : (x : Item) (b : Bool) (a : Option ℕ) (items left : List Item)
    (f : Option Refusal) (e : Option Expired) → is_some f ≡ true →
    LeavesAsked a items left (answer_by f e) → LeavesAfter b x items left a (answer_by f e)
after_refused x b a items left None e some h = absurd cc
after_refused x b a items left (Some r) e some h = refused_before x b a items left r h

pub looks_refused : (x : Item) (b : Bool) (t : Times) → is_some t.refused ≡ true →
    LooksAtTime x b t t
looks_refused x b t some = record {
  asked = refl;
  first = λ f. f;
  after = λ items left h. after_refused x b t.asked items left t.refused _ some h;
}

after_fault : (x : Item) (b : Bool) (a : Option ℕ) (n : ℕ) (o : Option ℕ) (f : Option Refusal)
    (now : ℕ) (r : Refusal) (items left : List Item) → a ≡ Some now → is_some f ≡ false →
    expiry_fault x.expiry ≡ Some r.reason →
    LeavesAsked a items left (answer_by f (expired_at a n o)) →
    LeavesAfter b x items left a (Err r)
after_fault x b None n o f now r items left e none fault h = absurd cc
after_fault x b (Some m) n o (Some s) now r items left e none fault h = absurd cc
after_fault x b (Some m) n o None now r items left e none fault h =
    refused_here x b m items left _ r fault h

after_stay : (x : Item) (a : Option ℕ) (n : ℕ) (o new : Option ℕ) (f : Option Refusal)
    (now : ℕ) (items left : List Item) → a ≡ Some now → is_some f ≡ false →
    expiry_fault x.expiry ≡ None → lasts now x.expiry ≡ true → new ≡ sooner o x.expiry →
    LeavesAsked a items left (answer_by f (expired_at a n o)) →
    LeavesAfter true x items left a (answer_by f (expired_at a n new))
after_stay x None n o new f now items left e none fine stay k h = absurd cc
after_stay x (Some m) n o new (Some s) now items left e none fine stay k h = absurd cc
after_stay x (Some m) n o new None now items left e none fine stay k h =
    let same : m ≡ now = cc e in
    stays_here x m items left n o new fine (ap (λ l. lasts l x.expiry) same ∙ stay) k h

after_gone : (x : Item) (a : Option ℕ) (n m : ℕ) (o : Option ℕ) (f : Option Refusal)
    (now : ℕ) (items left : List Item) → a ≡ Some now → is_some f ≡ false →
    expiry_fault x.expiry ≡ None → lasts now x.expiry ≡ false → m ≡ n + 1 →
    LeavesAsked a items left (answer_by f (expired_at a n o)) →
    LeavesAfter false x items left a (answer_by f (expired_at a m o))
after_gone x None n m o f now items left e none fine gone k h = absurd cc
after_gone x (Some l) n m o (Some s) now items left e none fine gone k h = absurd cc
after_gone x (Some l) n m o None now items left e none fine gone k h =
    let same : l ≡ now = cc e in
    gone_here x l items left n m o fine (ap (λ t. lasts t x.expiry) same ∙ gone) k h

not_some : (f : Option Refusal) → is_some f ≡ false → f ≡ None
not_some None e = refl
not_some (Some r) e = absurd cc

module _ (x : Item) (t : Times) (now : ℕ) (is : t.asked ≡ Some now)
    (none : is_some t.refused ≡ false) where
  none_before : t.refused ≡ None
  none_before = not_some t.refused none

  -- this item is refused
  pub looks_at_fault : (b : Bool) (r : Refusal) → expiry_fault x.expiry ≡ Some r.reason →
      LooksAtTime x b t (record {
        asked = t.asked;
        left_out = t.left_out;
        next = t.next;
        refused = Some r;
      })
  looks_at_fault b r fault = record {
    asked = refl;
    first = λ e. none_before;
    after = λ items left h. after_fault x b t.asked t.left_out t.next t.refused now r items left
        is none fault h;
  }

  -- it stays
  pub looks_at_left : (new : Option ℕ) → expiry_fault x.expiry ≡ None →
      lasts now x.expiry ≡ true → new ≡ sooner t.next x.expiry →
      LooksAtTime x true t (record {
        asked = t.asked;
        left_out = t.left_out;
        next = new;
        refused = t.refused;
      })
  looks_at_left new fine stay e = record {
    asked = refl;
    first = λ f. none_before;
    after = λ items left h. after_stay x t.asked t.left_out t.next new t.refused now items left
        is none fine stay e h;
  }

  -- it has expired
  pub looks_at_gone : (m : ℕ) → expiry_fault x.expiry ≡ None → lasts now x.expiry ≡ false →
      m ≡ t.left_out + 1 →
      LooksAtTime x false t (record {
        asked = t.asked;
        left_out = m;
        next = t.next;
        refused = t.refused;
      })
  looks_at_gone m fine gone e = record {
    asked = refl;
    first = λ f. none_before;
    after = λ items left h. after_gone x t.asked t.left_out m t.next t.refused now items left
        is none fine gone e h;
  }

-- ---- lines

-- the line on payloads that a version lacks, where there are some
by_count : (b : Bool) (l : List ℕ) → (b ≡ true → ⊥) → cond b [] l ≡ l
by_count true l h = absurd (h refl)
by_count false l h = refl

pub some_lack : (v n : ℕ) → (n ≡ 0 → ⊥) → lacking_line v n ≡
    codes "rtr_make: left out " ++ (decimal n ++ (codes " that version " ++ (decimal v
    ++ (codes " lacks" ++ line_end))))
some_lack v n h = by_count (n == 0) _ (λ e. h (eqb-true n 0 e))
