-- What changes in the order of names come to.
use Rattle.std.proofs.Common.{◌≡◌, Bool, true, false, ◌||◌, cond, List, [], ◌∷◌, ◌++◌, map, filter}
use Rattle.std.proofs.Common.{refl, sym, ap, subst, ◌∙◌, append-nil}
use Rattle.std.proofs.lemmas.Bool.{true≢false, false≢true}
use Rattle.std.proofs.lemmas.List.Elements.{filter-append}
use Rattle.std.specs.List.{AllByRecursion}
use Rattle.std.specs.List.Sorted.{IsStrictlySortedBy}
use Rattle.std.specs.Ordering.{is_eq, is_lt}
use Rattle.std.specs.declared.cmp.Ordering.{Ordering}
use Rattle.std.specs.declared.cmp.Ordering.TheVariants.{Less, Equal, Greater}
use Rattle.rtr_base.specs.declared.action.Action.{Action}
use Rattle.rtr_base.specs.declared.action.Action.TheVariants.{Announce, Withdraw}
use Rattle.rtr_payload.specs.Payloads.{Payload}
use Rattle.data_memory.specs.Data.{Change, IsData, announcement, has_name, name_cmp, name_of}
use Rattle.data_memory.specs.Data.{withdrawal}
use Rattle.data_memory.proofs.Merge.{laws}
use Rattle.data_memory.proofs.Names.{above, absent, below, name_total}
use Rattle.data_slices.specs.CanonicalChanges.{AreOrdered}
use Rattle.data_slices.specs.Net.{Nets, last_of, net, of_name, settles}
use Rattle.data_slices.specs.PrivateOffsets.{ended, first_after, is_action, nets, nets_from}
use Rattle.data_slices.specs.PrivateOffsets.{ordered}
use Rattle.data_slices.specs.PrivateOffsets.{same_name, settled, with_action}
use Rattle.data_slices.proofs.SortedOffsets.{Ascending}

-- ---- names that don't fall

-- the names of two changes, of which the later isn't below
pub rises : (c d : Change) → is_lt (name_cmp d.payload c.payload) ≡ false →
    same_name c d ≡ false → name_cmp c.payload d.payload ≡ Less
rises c d h n = by_order (name_cmp c.payload d.payload) refl
  where
    by_order : (o : Ordering) → name_cmp c.payload d.payload ≡ o → o ≡ Less
    by_order Less e = refl
    by_order Equal e = absurd (true≢false (sym (ap is_eq e) ∙ n))
    by_order Greater e =
        absurd (true≢false (sym (ap is_lt (below c.payload d.payload e)) ∙ h))

-- q is below c, and x not below c
pub over : (q c x : Payload) → name_cmp q c ≡ Less → is_lt (name_cmp x c) ≡ false →
    name_cmp q x ≡ Less
over q c x l h = by_order (name_cmp x c) refl
  where
    by_order : (o : Ordering) → name_cmp x c ≡ o → name_cmp q x ≡ Less
    by_order Less e = absurd (true≢false (sym (ap is_lt e) ∙ h))
    by_order Equal e = below x q (name_total.congr x c q e ∙ above q c l)
    by_order Greater e = name_total.trans q c x l (below x c e)

abbrev pub Below : Payload → List Change → Type 0
Below q cs = AllByRecursion (λ c. name_cmp q c.payload ≡ Less) cs

pub all_over : (q c : Payload) (ds : List Change) → name_cmp q c ≡ Less →
    AllByRecursion (λ d. is_lt (name_cmp d.payload c) ≡ false) ds → Below q ds
all_over q c [] l h = tt
all_over q c (d ∷ ds) l (g, h) = (over q c d.payload l g, all_over q c ds l h)

-- of a name below all there is none
pub none_of : (p q : Payload) (cs : List Change) → is_eq (name_cmp p q) ≡ true → Below q cs →
    of_name p cs ≡ []
none_of p q [] n b = refl
none_of p q (c ∷ cs) n (g, b) =
    ap (λ x. cond x (c ∷ of_name p cs) (of_name p cs))
    (laws.congr p q c.payload n ∙ ap is_eq g)
    ∙ none_of p q cs n b

-- ---- what they come to, of one name

abbrev net_from : Action → Change → List Change → List Change
net_from f c gs =
    cond (settles f (last_of c gs).action (last_of c gs).payload) (last_of c gs ∷ []) []

settled_of : (p : Payload) (f : Action) (c : Change) (s b : Bool) →
    is_eq (name_cmp p c.payload) ≡ b →
    of_name p (cond s (c ∷ []) []) ≡ cond b (cond s (c ∷ []) []) []
settled_of p f c true true e = ap (λ x. cond x (c ∷ []) []) e
settled_of p f c true false e = ap (λ x. cond x (c ∷ []) []) e
settled_of p f c false true e = refl
settled_of p f c false false e = refl

module _ (p : Payload) where
  -- a change of the same name follows
  same_at : (f : Action) (c d : Change) (gs : List Change) (b e : Bool) → b ≡ e →
      cond e (net_from f d gs) (net gs) ≡
      cond b (net_from f c (cond e (d ∷ gs) gs)) (net (cond e (d ∷ gs) gs))
  same_at f c d gs true true h = refl
  same_at f c d gs true false h = absurd (true≢false h)
  same_at f c d gs false true h = absurd (false≢true h)
  same_at f c d gs false false h = refl

  -- one of another name
  other_at : (f : Action) (c d : Change) (gs : List Change) (b e : Bool) →
      (b ≡ true → cond e (d ∷ gs) gs ≡ []) →
      cond b (settled f c) [] ++ cond e (net_from d.action d gs) (net gs) ≡
      cond b (net_from f c (cond e (d ∷ gs) gs)) (net (cond e (d ∷ gs) gs))
  other_at f c d gs true true h = let no = h refl in absurd cc
  other_at f c d gs true false h =
      ap (λ l. settled f c ++ net l) (h refl) ∙ append-nil (settled f c)
      ∙ ap (net_from f c) (sym (h refl))
  other_at f c d gs false true h = refl
  other_at f c d gs false false h = refl

  by_same : (f : Action) (c d : Change) (ds : List Change) → Ascending (c ∷ d ∷ ds) →
      ((g : Action) → of_name p (nets_from g d ds) ≡
      cond (is_eq (name_cmp p d.payload)) (net_from g d (of_name p ds)) (net (of_name p ds))) →
      (s : Bool) → same_name c d ≡ s →
      of_name p (ended s f c ++ nets_from (first_after s f d) d ds) ≡
      cond (is_eq (name_cmp p c.payload)) (net_from f c (of_name p (d ∷ ds)))
      (net (of_name p (d ∷ ds)))
  by_same f c d ds a ih true h =
      ih f
      ∙ same_at f c d (of_name p ds) (is_eq (name_cmp p c.payload)) (is_eq (name_cmp p d.payload))
      (alike (is_eq (name_cmp p c.payload)) refl)
    where
      alike : (b : Bool) → is_eq (name_cmp p c.payload) ≡ b →
          is_eq (name_cmp p c.payload) ≡ is_eq (name_cmp p d.payload)
      alike b e =
          laws.symm p c.payload
          ∙ laws.congr c.payload d.payload p h ∙ sym (laws.symm p d.payload)
  by_same f c d ds ((g, more), a) ih false h =
      filter-append (λ (x : Change). is_eq (name_cmp p x.payload)) (settled f c)
      (nets_from d.action d ds)
      ∙ (λ i. settled_of p f c (settles f c.action c.payload) (is_eq (name_cmp p c.payload)) refl i
      ++ ih d.action i)
      ∙ other_at f c d (of_name p ds) (is_eq (name_cmp p c.payload)) (is_eq (name_cmp p d.payload))
      (λ n. let l : name_cmp c.payload d.payload ≡ Less = rises c d g h in
      none_of p c.payload (d ∷ ds) n (l, all_over c.payload d.payload ds l a.0))

  nets_of_from : (f : Action) (c : Change) (ds : List Change) → Ascending (c ∷ ds) →
      of_name p (nets_from f c ds) ≡
      cond (is_eq (name_cmp p c.payload)) (net_from f c (of_name p ds)) (net (of_name p ds))
  nets_of_from f c [] a =
      settled_of p f c (settles f c.action c.payload) (is_eq (name_cmp p c.payload)) refl
      ∙ last_one (is_eq (name_cmp p c.payload))
    where
      last_one : (b : Bool) → cond b (settled f c) [] ≡ cond b (net_from f c []) []
      last_one true = refl
      last_one false = refl
  nets_of_from f c (d ∷ ds) a =
      by_same f c d ds a (λ g. nets_of_from g d ds a.1) (same_name c d) refl

  first_at : (c : Change) (gs : List Change) (b : Bool) →
      cond b (net_from c.action c gs) (net gs) ≡ net (cond b (c ∷ gs) gs)
  first_at c gs true = refl
  first_at c gs false = refl

  pub nets_of : (cs : List Change) → Ascending cs → of_name p (nets cs) ≡ net (of_name p cs)
  nets_of [] a = refl
  nets_of (c ∷ cs) a =
      nets_of_from c.action c cs a
      ∙ first_at c (of_name p cs) (is_eq (name_cmp p c.payload))

-- ---- each name once

abbrev pub Strict : List Change → Type 0
Strict [] = Unit {0}
Strict (c ∷ cs) = Below c.payload cs × Strict cs

all_settled : (P : Change → Type 0) (f : Action) (c : Change) (cs : List Change) → P c →
    AllByRecursion P cs → AllByRecursion P (settled f c ++ cs)
all_settled P f c cs h hs =
    elim (settles f c.action c.payload) as
    (λ b. AllByRecursion P (cond b (c ∷ []) [] ++ cs)) [
      | true ↦ (h, hs)
      | false ↦ hs
    ]

all_ended : (P : Change → Type 0) (s : Bool) (f : Action) (c : Change) (cs : List Change) → P c →
    AllByRecursion P cs → AllByRecursion P (ended s f c ++ cs)
all_ended P true f c cs h hs = hs
all_ended P false f c cs h hs = all_settled P f c cs h hs

all_from : (P : Change → Type 0) (f : Action) (c : Change) (ds : List Change) → P c →
    AllByRecursion P ds → AllByRecursion P (nets_from f c ds)
all_from P f c [] h hs =
    subst (AllByRecursion P) (append-nil (settled f c)) (all_settled P f c [] h tt)
all_from P f c (d ∷ ds) h (g, hs) =
    all_ended P (same_name c d) f c (nets_from (first_after (same_name c d) f d) d ds) h
    (all_from P (first_after (same_name c d) f d) d ds g hs)

pub all_nets : (P : Change → Type 0) (cs : List Change) → AllByRecursion P cs →
    AllByRecursion P (nets cs)
all_nets P [] h = tt
all_nets P (c ∷ cs) (g, h) = all_from P c.action c cs g h

strict_settled : (f : Action) (c : Change) (ns : List Change) → Below c.payload ns → Strict ns →
    Strict (settled f c ++ ns)
strict_settled f c ns b s =
    elim (settles f c.action c.payload) as (λ x. Strict (cond x (c ∷ []) [] ++ ns)) [
      | true ↦ (b, s)
      | false ↦ s
    ]

strict_at : (f : Action) (c d : Change) (ds : List Change) → Ascending (c ∷ d ∷ ds) →
    ((g : Action) → Strict (nets_from g d ds)) → (s : Bool) → same_name c d ≡ s →
    Strict (ended s f c ++ nets_from (first_after s f d) d ds)
strict_at f c d ds a ih true h = ih f
strict_at f c d ds ((g, more), a) ih false h =
    let l : name_cmp c.payload d.payload ≡ Less = rises c d g h in
    strict_settled f c (nets_from d.action d ds)
    (all_from (λ x. name_cmp c.payload x.payload ≡ Less) d.action d ds l
    (all_over c.payload d.payload ds l a.0))
    (ih d.action)

strict_from : (f : Action) (c : Change) (ds : List Change) → Ascending (c ∷ ds) →
    Strict (nets_from f c ds)
strict_from f c [] a =
    subst Strict (append-nil (settled f c)) (strict_settled f c [] tt tt)
strict_from f c (d ∷ ds) a =
    strict_at f c d ds a (λ g. strict_from g d ds a.1) (same_name c d) refl

strict_nets : (cs : List Change) → Ascending cs → Strict (nets cs)
strict_nets [] a = tt
strict_nets (c ∷ cs) a = strict_from c.action c cs a

-- ---- announcements and withdrawals

abbrev payloads : List Change → List Payload
payloads cs = map (λ (c : Change). c.payload) cs

all_with : (P : Change → Type 0) (a : Action) (cs : List Change) → AllByRecursion P cs →
    AllByRecursion P (with_action a cs)
all_with P a [] h = tt
all_with P a (c ∷ cs) (g, h) =
    elim (is_action a c.action) as
    (λ b. AllByRecursion P (cond b (c ∷ with_action a cs) (with_action a cs))) [
      | true ↦ (g, all_with P a cs h)
      | false ↦ all_with P a cs h
    ]

all_payloads : (P : Payload → Type 0) (cs : List Change) →
    AllByRecursion (λ c. P c.payload) cs → AllByRecursion P (payloads cs)
all_payloads P [] h = tt
all_payloads P (c ∷ cs) (g, h) = (g, all_payloads P cs h)

data_with : (a : Action) (cs : List Change) → Strict cs → IsData (payloads (with_action a cs))
unfolding IsStrictlySortedBy
data_with a [] s = tt
data_with a (c ∷ cs) (b, s) =
    elim (is_action a c.action) as
    (λ x. IsData (payloads (cond x (c ∷ with_action a cs) (with_action a cs)))) [
      | true ↦ (
        all_payloads (λ q. name_cmp c.payload q ≡ Less) (with_action a cs)
            (all_with (λ x. name_cmp c.payload x.payload ≡ Less) a cs b),
        data_with a cs s,
      )
      | false ↦ data_with a cs s
    ]

-- a withdrawal carries the name alone
abbrev pub IsPlain : Change → Type 0
IsPlain c = c.action ≡ Withdraw → c.payload ≡ name_of c.payload

announced_first : (c : Change) (cs : List Change) (a : Action) → c.action ≡ a →
    with_action Announce cs ≡ map announcement (payloads (with_action Announce cs)) →
    cond (is_action Announce a) (c ∷ with_action Announce cs) (with_action Announce cs) ≡
    map announcement
    (payloads (cond (is_action Announce a) (c ∷ with_action Announce cs)
    (with_action Announce cs)))
announced_first c cs Announce e ih =
    (λ i. record { action = e i; payload = c.payload } ∷ ih i)
announced_first c cs Withdraw e ih = ih

announced_parts : (cs : List Change) →
    with_action Announce cs ≡ map announcement (payloads (with_action Announce cs))
announced_parts [] = refl
announced_parts (c ∷ cs) = announced_first c cs c.action refl (announced_parts cs)

withdrawn_first : (c : Change) (cs : List Change) (a : Action) → c.action ≡ a → IsPlain c →
    with_action Withdraw cs ≡ map withdrawal (payloads (with_action Withdraw cs)) →
    cond (is_action Withdraw a) (c ∷ with_action Withdraw cs) (with_action Withdraw cs) ≡
    map withdrawal
    (payloads (cond (is_action Withdraw a) (c ∷ with_action Withdraw cs)
    (with_action Withdraw cs)))
withdrawn_first c cs Announce e h ih = ih
withdrawn_first c cs Withdraw e h ih =
    (λ i. record { action = e i; payload = h e i } ∷ ih i)

withdrawn_parts : (cs : List Change) → AllByRecursion IsPlain cs →
    with_action Withdraw cs ≡ map withdrawal (payloads (with_action Withdraw cs))
withdrawn_parts [] h = refl
withdrawn_parts (c ∷ cs) (g, h) = withdrawn_first c cs c.action refl g (withdrawn_parts cs h)

abbrev Apart : List Payload → List Payload → Type 0
Apart ps ws = AllByRecursion (λ p. has_name ps p ≡ false) ws

apart_more : (n : Payload) (ps ws : List Payload) →
    AllByRecursion (λ w. name_cmp n w ≡ Less) ws → Apart ps ws → Apart (n ∷ ps) ws
apart_more n ps [] b h = tt
apart_more n ps (w ∷ ws) (g, b) (k, h) = (
  ap (λ o. is_eq o || has_name ps w) (above n w g) ∙ k,
  apart_more n ps ws b h,
)

apart_first : (c : Change) (cs : List Change) (a : Action) → Below c.payload cs →
    Apart (payloads (with_action Announce cs)) (payloads (with_action Withdraw cs)) →
    Apart
    (payloads (cond (is_action Announce a) (c ∷ with_action Announce cs)
    (with_action Announce cs)))
    (payloads (cond (is_action Withdraw a) (c ∷ with_action Withdraw cs)
    (with_action Withdraw cs)))
apart_first c cs Announce b ih =
    apart_more c.payload (payloads (with_action Announce cs)) (payloads (with_action Withdraw cs))
    (all_payloads (λ q. name_cmp c.payload q ≡ Less) (with_action Withdraw cs)
    (all_with (λ x. name_cmp c.payload x.payload ≡ Less) Withdraw cs b)) ih
apart_first c cs Withdraw b ih = (
  absent c.payload (payloads (with_action Announce cs))
      (all_payloads (λ q. name_cmp c.payload q ≡ Less) (with_action Announce cs)
      (all_with (λ x. name_cmp c.payload x.payload ≡ Less) Announce cs b)),
  ih,
)

apart_all : (cs : List Change) → Strict cs →
    Apart (payloads (with_action Announce cs)) (payloads (with_action Withdraw cs))
apart_all [] s = tt
apart_all (c ∷ cs) (b, s) = apart_first c cs c.action b (apart_all cs s)

pub are_ordered : (cs : List Change) → Ascending cs → AllByRecursion IsPlain cs →
    AreOrdered (ordered cs)
are_ordered cs a plain =
    let ns = nets cs in
    let s = strict_nets cs a in
    record {
      announced = payloads (with_action Announce ns);
      withdrawn = payloads (with_action Withdraw ns);
      parts =
          let ps = announced_parts ns in
          let ws = withdrawn_parts ns (all_nets IsPlain cs plain) in
          (λ i. ps i ++ ws i);
      announced_in_order = data_with Announce ns s;
      withdrawn_in_order = data_with Withdraw ns s;
      apart = apart_all ns s;
    }

-- ---- of each name

swap_at : (t u : Change → Bool) (c : Change) (cs : List Change) (x y : Bool) → t c ≡ x → u c ≡ y →
    filter t (filter u cs) ≡ filter u (filter t cs) →
    filter t (cond y (c ∷ filter u cs) (filter u cs)) ≡
    filter u (cond x (c ∷ filter t cs) (filter t cs))
swap_at t u c cs true true e f ih =
    (λ i. cond (e i) (c ∷ filter t (filter u cs)) (filter t (filter u cs)))
    ∙ ap (λ l. c ∷ l) ih
    ∙ sym (λ i. cond (f i) (c ∷ filter u (filter t cs)) (filter u (filter t cs)))
swap_at t u c cs true false e f ih =
    ih ∙ sym (λ i. cond (f i) (c ∷ filter u (filter t cs)) (filter u (filter t cs)))
swap_at t u c cs false true e f ih =
    (λ i. cond (e i) (c ∷ filter t (filter u cs)) (filter t (filter u cs))) ∙ ih
swap_at t u c cs false false e f ih = ih

filters_swap : (t u : Change → Bool) (cs : List Change) →
    filter t (filter u cs) ≡ filter u (filter t cs)
filters_swap t u [] = refl
filters_swap t u (c ∷ cs) = swap_at t u c cs (t c) (u c) refl refl (filters_swap t u cs)

one_action : (c : Change) (s : Bool) (a : Action) → c.action ≡ a →
    with_action Announce (cond s (c ∷ []) []) ++ with_action Withdraw (cond s (c ∷ []) []) ≡
    cond s (c ∷ []) []
one_action c false a e = refl
one_action c true Announce e =
    ap (λ a. cond (is_action Announce a) (c ∷ []) [] ++ cond (is_action Withdraw a) (c ∷ []) []) e
one_action c true Withdraw e =
    ap (λ a. cond (is_action Announce a) (c ∷ []) [] ++ cond (is_action Withdraw a) (c ∷ []) []) e

both_actions : (gs : List Change) →
    with_action Announce (net gs) ++ with_action Withdraw (net gs) ≡ net gs
both_actions [] = refl
both_actions (c ∷ cs) =
    let l = last_of c cs in
    one_action l (settles c.action l.action l.payload) l.action refl

pub ordered_of : (p : Payload) (cs : List Change) → Ascending cs →
    of_name p (ordered cs) ≡ net (of_name p cs)
ordered_of p cs a =
    let t : Change → Bool = λ c. is_eq (name_cmp p c.payload) in
    let ns = nets cs in
    filter-append t (with_action Announce ns) (with_action Withdraw ns)
    ∙ (λ i. filters_swap t (λ c. is_action Announce c.action) ns i
    ++ filters_swap t (λ c. is_action Withdraw c.action) ns i)
    ∙ ap (λ l. with_action Announce l ++ with_action Withdraw l) (nets_of p cs a)
    ∙ both_actions (of_name p cs)

pub they_net : (cs ds : List Change) → Ascending ds → AllByRecursion IsPlain ds →
    ((p : Payload) → of_name p ds ≡ of_name p cs) → Nets cs (ordered ds)
they_net cs ds a plain same = record {
  in_order = are_ordered ds a plain;
  of_each = λ p. ordered_of p ds a ∙ ap net (same p);
}
