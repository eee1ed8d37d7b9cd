-- What is refused of changes in the order of names.
use Rattle.std.proofs.Common.{◌≡◌, ℕ, Bool, true, false, cond, List, [], ◌∷◌, ◌++◌, length}
use Rattle.std.proofs.Common.{Option, Some, None, refl, sym, ap, subst, ◌∙◌, append-nil}
use Rattle.std.proofs.Common.{append_assoc}
use Rattle.std.proofs.Common.{arith, length-append}
use Rattle.std.proofs.lemmas.Bool.{true≢false}
use Rattle.std.proofs.lemmas.List.Elements.{filter-append}
use Rattle.std.specs.Cmp.{Equal-is, tied_itself}
use Rattle.std.specs.List.{AllByRecursion}
use Rattle.std.specs.Ordering.{is_eq, is_lt}
use Rattle.std.specs.declared.cmp.Ordering.{Ordering}
use Rattle.std.specs.declared.cmp.Ordering.TheVariants.{Less, Equal, Greater}
use Rattle.rtr_base.specs.declared.action.Action.{Action}
use Rattle.rtr_base.specs.declared.action.Action.TheVariants.{Announce, Withdraw}
use Rattle.rtr_payload.specs.Payloads.{Payload}
use Rattle.data_memory.specs.Data.{Change, name_cmp}
use Rattle.data_memory.proofs.Merge.{laws}
use Rattle.data_memory.proofs.Names.{above, below, name_total}
use Rattle.data_slices.specs.Net.{AreLinked, Follow, is_open, last_of, may_follow, of_name}
use Rattle.data_slices.specs.Net.{undecided}
use Rattle.data_slices.specs.Order.{IsAgain, IsOpenEnd, IsRight}
use Rattle.data_slices.specs.PrivateOffsets.{between, first_after, opened, or_else, repeated_at}
use Rattle.data_slices.specs.PrivateOffsets.{same_name, first_wrong, wrong_from}
use Rattle.data_slices.specs.declared.order_fault.OrderFault.{OrderFault}
use Rattle.data_slices.specs.declared.order_fault.OrderFault.TheVariants as faults
use Rattle.data_slices.proofs.NetOrdered.{all_over, none_of, over, rises}
use Rattle.data_slices.proofs.SortedOffsets.{Ascending}

-- none of these is above the name
abbrev UpTo : List Change → Payload → Type 0
UpTo cs p = AllByRecursion (λ c. is_lt (name_cmp p c.payload) ≡ false) cs

-- above all of these: none is of the name
none_up_to : (q p : Payload) (cs : List Change) → name_cmp p q ≡ Less → UpTo cs p →
    of_name q cs ≡ []
none_up_to q p [] l u = refl
none_up_to q p (c ∷ cs) l (g, u) =
    ap (λ b. cond b (c ∷ of_name q cs) (of_name q cs)) (by_order (name_cmp p c.payload) refl)
    ∙ none_up_to q p cs l u
  where
    by_order : (o : Ordering) → name_cmp p c.payload ≡ o → is_eq (name_cmp q c.payload) ≡ false
    by_order Less e = absurd (true≢false (sym (ap is_lt e) ∙ g))
    by_order Equal e =
        sym (laws.symm c.payload q)
        ∙ ap is_eq (sym (name_total.congr p c.payload q e) ∙ l)
    by_order Greater e =
        ap is_eq (above c.payload q (name_total.trans c.payload p q (below p c.payload e) l))

all_push : (P : Change → Type 0) (cs : List Change) (c : Change) → AllByRecursion P cs → P c →
    AllByRecursion P (cs ++ c ∷ [])
all_push P [] c h g = (g, tt)
all_push P (x ∷ cs) c (k, h) g = (k, all_push P cs c h g)

not_less_itself : (p q : Payload) → is_eq (name_cmp p q) ≡ true → is_lt (name_cmp p q) ≡ false
not_less_itself p q n = ap is_lt ((Equal-is (name_cmp p q)).0 n)

up_more : (cs : List Change) (p q : Payload) → is_lt (name_cmp q p) ≡ false → UpTo cs p →
    UpTo cs q
up_more [] p q l u = tt
up_more (c ∷ cs) p q l (g, u) = (by_order (name_cmp q c.payload) refl, up_more cs p q l u)
  where
    by_order : (o : Ordering) → name_cmp q c.payload ≡ o → is_lt o ≡ false
    by_order Less e = absurd (true≢false (sym (ap is_lt (over q c.payload p e g)) ∙ l))
    by_order Equal e = refl
    by_order Greater e = refl

-- ---- of one name

same_of_name : (p q : Payload) (cs : List Change) → is_eq (name_cmp p q) ≡ true →
    of_name p cs ≡ of_name q cs
same_of_name p q [] n = refl
same_of_name p q (c ∷ cs) n =
    (λ i. cond (laws.congr p q c.payload n i) (c ∷ same_of_name p q cs n i)
    (same_of_name p q cs n i))

of_split : (p : Payload) (bs : List Change) (c : Change) (ds : List Change) →
    of_name p (bs ++ c ∷ ds) ≡ of_name p (bs ++ c ∷ []) ++ of_name p ds
of_split p bs c ds =
    ap (of_name p) (sym (append_assoc bs (c ∷ []) ds))
    ∙ filter-append (λ (x : Change). is_eq (name_cmp p x.payload)) (bs ++ c ∷ []) ds

own_last : (p : Payload) (bs : List Change) (c : Change) → is_eq (name_cmp p c.payload) ≡ true →
    of_name p (bs ++ c ∷ []) ≡ of_name p bs ++ c ∷ []
own_last p bs c n =
    filter-append (λ (x : Change). is_eq (name_cmp p x.payload)) bs (c ∷ [])
    ∙ ap (λ b. of_name p bs ++ cond b (c ∷ []) []) n

other_last : (p : Payload) (bs : List Change) (c : Change) →
    is_eq (name_cmp p c.payload) ≡ false → of_name p (bs ++ c ∷ []) ≡ of_name p bs
other_last p bs c n =
    filter-append (λ (x : Change). is_eq (name_cmp p x.payload)) bs (c ∷ [])
    ∙ ap (λ b. of_name p bs ++ cond b (c ∷ []) []) n ∙ append-nil (of_name p bs)

last_push : (h : Change) (gs : List Change) (c : Change) → last_of h (gs ++ c ∷ []) ≡ c
last_push h [] c = refl
last_push h (g ∷ gs) c = last_push g gs c

follow_push : (h : Change) (gs : List Change) (c : Change) → Follow h gs →
    may_follow (last_of h gs).action c.action c.payload ≡ true → Follow h (gs ++ c ∷ [])
follow_push h [] c f m = (m, tt)
follow_push h (g ∷ gs) c (n, f) m = (n, follow_push g gs c f m)

follow_last : (h : Change) (gs : List Change) (c : Change) → Follow h (gs ++ c ∷ []) →
    may_follow (last_of h gs).action c.action c.payload ≡ true
follow_last h [] c (m, f) = m
follow_last h (g ∷ gs) c (n, f) = follow_last g gs c f

right_as : (cs : List Change) (q : Payload) (l : List Change) → of_name q cs ≡ l → AreLinked l →
    undecided l ≡ false → IsRight cs q
right_as cs q l e k u = (subst AreLinked (sym e) k, ap undecided e ∙ u)

-- ---- how far the changes were gone over

-- c is the current one, after these and before those; f is the first action of its name
pub record Walk (all bs : List Change) (f : Action) (c : Change) (ds : List Change) : Type 0 where
  pub whole : all ≡ bs ++ c ∷ ds
  pub up : UpTo bs c.payload
  pub rest : Ascending (c ∷ ds)
  pub below_right : (q : Payload) → name_cmp q c.payload ≡ Less → IsRight all q
  pub h : Change
  pub g : List Change
  pub own : of_name c.payload (bs ++ c ∷ []) ≡ h ∷ g
  pub first : h.action ≡ f
  pub last : last_of h g ≡ c
  pub follow : Follow h g

-- the change at this place is refused, and all is right with the names below its own
pub record Found (all : List Change) (places : List ℕ) (n : ℕ)
    (Is : (before : List Change) (c : Change) (later : List Change) → Type 0) : Type 0 where
  pub before : List Change
  pub c : Change
  pub later : List Change
  pub parts : all ≡ before ++ c ∷ later
  pub xs : List ℕ
  pub ys : List ℕ
  pub split : places ≡ xs ++ n ∷ ys
  pub as_long : length xs ≡ length before
  pub refused : Is before c later
  pub below_right : (q : Payload) → name_cmp q c.payload ≡ Less → IsRight all q

abbrev pub Outcome : Option OrderFault → List Change → List ℕ → Type 0
Outcome None all places = (q : Payload) → IsRight all q
Outcome (Some (faults.Duplicate n)) all places =
    Found all places n (λ before c later. (c.action ≡ Announce) × IsAgain before c)
Outcome (Some (faults.Unknown n)) all places =
    Found all places n (λ before c later. (c.action ≡ Withdraw) × IsAgain before c)
Outcome (Some (faults.Undecided n)) all places = Found all places n IsOpenEnd
Outcome (Some (faults.Flaw x)) all places = ⊥
Outcome (Some faults.NoIndex) all places = ⊥
Outcome (Some faults.NoRoom) all places = ⊥

pub own_name : (p : Payload) → is_eq (name_cmp p p) ≡ true
own_name p = ap is_eq (tied_itself name_total p)

module _ (all bs : List Change) (f : Action) (c : Change) (ds : List Change)
    (w : Walk all bs f c ds) where
  -- where no other of the name follows
  module _ (none : of_name c.payload ds ≡ []) where
    own_all : of_name c.payload all ≡ w.h ∷ w.g
    own_all =
        ap (of_name c.payload) w.whole ∙ of_split c.payload bs c ds
        ∙ (λ i. w.own i ++ none i) ∙ append-nil (w.h ∷ w.g)

    undecided_is : undecided (of_name c.payload all) ≡ is_open f c.action c.payload
    undecided_is =
        ap undecided own_all
        ∙ (λ i. is_open (w.first i) (w.last i).action (w.last i).payload)

    own_right : is_open f c.action c.payload ≡ false → (q : Payload) →
        is_eq (name_cmp q c.payload) ≡ true → IsRight all q
    own_right o q n =
        right_as all q (w.h ∷ w.g) (same_of_name q c.payload all n ∙ own_all) w.follow
        (ap undecided (sym own_all) ∙ undecided_is ∙ o)

    opened_found : (places : List ℕ) (n : ℕ) (xs ys : List ℕ) → places ≡ xs ++ n ∷ ys →
        length xs ≡ length bs → is_open f c.action c.payload ≡ true →
        Found all places n IsOpenEnd
    opened_found places n xs ys split long o = record {
      before = bs;
      c = c;
      later = ds;
      parts = w.whole;
      xs = xs;
      ys = ys;
      split = split;
      as_long = long;
      refused =
          subst (λ l. AreLinked (of_name c.payload l) × (of_name c.payload ds ≡ [])
          × (undecided (of_name c.payload l) ≡ true)) w.whole (
            subst AreLinked (sym own_all) w.follow,
            none,
            undecided_is ∙ o,
          );
      below_right = w.below_right;
    }

    -- above the name, and below those that follow
    between_right : (q : Payload) → name_cmp c.payload q ≡ Less → of_name q ds ≡ [] →
        IsRight all q
    between_right q l none_q =
        right_as all q []
        (ap (of_name q) w.whole ∙ of_split q bs c ds
        ∙ (λ i. (other_last q bs c (ap is_eq (above c.payload q l))
        ∙ none_up_to q c.payload bs l w.up) i ++ none_q i)) tt refl

    all_right : is_open f c.action c.payload ≡ false → (q : Payload) →
        (name_cmp c.payload q ≡ Less → of_name q ds ≡ []) → IsRight all q
    all_right o q none_q = by_order (name_cmp q c.payload) refl
      where
        by_order : (r : Ordering) → name_cmp q c.payload ≡ r → IsRight all q
        by_order Less e = w.below_right q e
        by_order Equal e = own_right o q (ap is_eq e)
        by_order Greater e =
            let l : name_cmp c.payload q ≡ Less = below q c.payload e in
            between_right q l (none_q l)

  module _ (d : Change) (es : List Change) (is : ds ≡ d ∷ es) where
    rises_to : is_lt (name_cmp d.payload c.payload) ≡ false
    rises_to = (subst (λ l. Ascending (c ∷ l)) is w.rest).0.0

    rest_up : Ascending (d ∷ es)
    rest_up = (subst (λ l. Ascending (c ∷ l)) is w.rest).1

    next_whole : all ≡ (bs ++ c ∷ []) ++ d ∷ es
    next_whole =
        w.whole ∙ ap (λ l. bs ++ c ∷ l) is ∙ sym (append_assoc bs (c ∷ []) (d ∷ es))

    next_up : UpTo (bs ++ c ∷ []) d.payload
    next_up =
        all_push (λ x. is_lt (name_cmp d.payload x.payload) ≡ false) bs c
        (up_more bs c.payload d.payload rises_to w.up) rises_to

    -- another of the same name
    module _ (same : same_name c d ≡ true) where
      d_own : is_eq (name_cmp d.payload c.payload) ≡ true
      d_own = sym (laws.symm c.payload d.payload) ∙ same

      before_own : of_name d.payload (bs ++ c ∷ []) ≡ w.h ∷ w.g
      before_own = same_of_name d.payload c.payload (bs ++ c ∷ []) d_own ∙ w.own

      lower : (q : Payload) → name_cmp q d.payload ≡ Less → name_cmp q c.payload ≡ Less
      lower q l = over q d.payload c.payload l (not_less_itself c.payload d.payload same)

      linked_next : may_follow c.action d.action d.payload ≡ true →
          Walk all (bs ++ c ∷ []) f d es
      linked_next m = record {
        whole = next_whole;
        up = next_up;
        rest = rest_up;
        below_right = λ q l. w.below_right q (lower q l);
        h = w.h;
        g = w.g ++ d ∷ [];
        own =
            own_last d.payload (bs ++ c ∷ []) d (own_name d.payload)
            ∙ ap (λ l. l ++ d ∷ []) before_own;
        first = w.first;
        last = last_push w.h w.g d;
        follow =
            follow_push w.h w.g d w.follow
            (ap (λ (x : Change). may_follow x.action d.action d.payload) w.last ∙ m);
      }

      again : may_follow c.action d.action d.payload ≡ false → IsAgain (bs ++ c ∷ []) d
      again m = (
        subst AreLinked (sym before_own) w.follow,
        λ k. true≢false
            (sym (follow_last w.h w.g d (subst (λ l. AreLinked (l ++ d ∷ [])) before_own k))
            ∙ ap (λ (x : Change). may_follow x.action d.action d.payload) w.last ∙ m),
      )

      again_found : (places : List ℕ) (o n : ℕ) (xs ys : List ℕ) →
          places ≡ xs ++ o ∷ n ∷ ys → length xs ≡ length bs →
          may_follow c.action d.action d.payload ≡ false → (a : Action) → d.action ≡ a →
          Outcome (Some (repeated_at n a)) all places
      again_found places o n xs ys split long m Announce e = record {
        before = bs ++ c ∷ [];
        c = d;
        later = es;
        parts = next_whole;
        xs = xs ++ o ∷ [];
        ys = ys;
        split = split ∙ sym (append_assoc xs (o ∷ []) (n ∷ ys));
        as_long = omega (arith, long, length-append xs (o ∷ []), length-append bs (c ∷ []));
        refused = (e, again m);
        below_right = λ q l. w.below_right q (lower q l);
      }
      again_found places o n xs ys split long m Withdraw e = record {
        before = bs ++ c ∷ [];
        c = d;
        later = es;
        parts = next_whole;
        xs = xs ++ o ∷ [];
        ys = ys;
        split = split ∙ sym (append_assoc xs (o ∷ []) (n ∷ ys));
        as_long = omega (arith, long, length-append xs (o ∷ []), length-append bs (c ∷ []));
        refused = (e, again m);
        below_right = λ q l. w.below_right q (lower q l);
      }

    -- one of another name
    module _ (other : same_name c d ≡ false) where
      less : name_cmp c.payload d.payload ≡ Less
      less = rises c d rises_to other

      none_later : of_name c.payload ds ≡ []
      none_later =
          ap (of_name c.payload) is
          ∙ none_of c.payload c.payload (d ∷ es) (own_name c.payload)
          (less, all_over c.payload d.payload es less rest_up.0)

      other_next : is_open f c.action c.payload ≡ false →
          Walk all (bs ++ c ∷ []) d.action d es
      other_next o = record {
        whole = next_whole;
        up = next_up;
        rest = rest_up;
        below_right = λ q l. all_right none_later o q
            (λ k. ap (of_name q) is ∙ none_of q q (d ∷ es) (own_name q)
            (l, all_over q d.payload es l rest_up.0));
        h = d;
        g = [];
        own =
            own_last d.payload (bs ++ c ∷ []) d (own_name d.payload)
            ∙ ap (λ l. l ++ d ∷ [])
            (other_last d.payload bs c (ap is_eq (above c.payload d.payload less))
            ∙ none_up_to d.payload c.payload bs less w.up);
        first = refl;
        last = refl;
        follow = tt;
      }

open_outcome : (all bs : List Change) (f : Action) (c : Change) → Walk all bs f c [] →
    (places : List ℕ) (n : ℕ) (xs : List ℕ) → places ≡ xs ++ n ∷ [] →
    length xs ≡ length bs → (b : Bool) → is_open f c.action c.payload ≡ b →
    Outcome (opened b n) all places
open_outcome all bs f c w places n xs split long true o =
    opened_found all bs f c [] w refl places n xs [] split long o
open_outcome all bs f c w places n xs split long false o =
    λ q. all_right all bs f c [] w refl o q (λ l. refl)

module _ (all : List Change) (places : List ℕ) where
  module _ (bs : List Change) (xs : List ℕ) (f : Action) (o : ℕ) (c : Change) (n : ℕ) (d : Change)
      (os : List ℕ) (es : List Change) (w : Walk all bs f c (d ∷ es))
      (split : places ≡ xs ++ o ∷ n ∷ os) (long : length xs ≡ length bs) where
    next_split : places ≡ (xs ++ o ∷ []) ++ n ∷ os
    next_split = split ∙ sym (append_assoc xs (o ∷ []) (n ∷ os))

    next_long : length (xs ++ o ∷ []) ≡ length (bs ++ c ∷ [])
    next_long = omega (arith, long, length-append xs (o ∷ []), length-append bs (c ∷ []))

    by_follow : ((f : Action) → Walk all (bs ++ c ∷ []) f d es →
        Outcome (wrong_from f n d os es) all places) → same_name c d ≡ true →
        (m : Bool) → may_follow c.action d.action d.payload ≡ m →
        Outcome (or_else (cond m None (Some (repeated_at n d.action))) (wrong_from f n d os es)) all
        places
    by_follow ih same true m =
        ih f (linked_next all bs f c (d ∷ es) w d es refl same m)
    by_follow ih same false m =
        again_found all bs f c (d ∷ es) w d es refl same places o n xs os split long m d.action refl

    by_open : ((f : Action) → Walk all (bs ++ c ∷ []) f d es →
        Outcome (wrong_from f n d os es) all places) → same_name c d ≡ false →
        (b : Bool) → is_open f c.action c.payload ≡ b →
        Outcome (or_else (opened b o) (wrong_from d.action n d os es)) all places
    by_open ih other true h =
        opened_found all bs f c (d ∷ es) w
        (none_later all bs f c (d ∷ es) w d es refl other) places o xs (n ∷ os) split long h
    by_open ih other false h =
        ih d.action (other_next all bs f c (d ∷ es) w d es refl other h)

    by_name : ((f : Action) → Walk all (bs ++ c ∷ []) f d es →
        Outcome (wrong_from f n d os es) all places) → (s : Bool) → same_name c d ≡ s →
        Outcome (or_else (between s f o c n d) (wrong_from (first_after s f d) n d os es)) all
        places
    by_name ih true same =
        by_follow ih same (may_follow c.action d.action d.payload) refl
    by_name ih false other = by_open ih other (is_open f c.action c.payload) refl

  walks : (os : List ℕ) (ds : List Change) → length os ≡ length ds → (bs : List Change)
      (xs : List ℕ) (f : Action) (o : ℕ) (c : Change) → Walk all bs f c ds →
      places ≡ xs ++ o ∷ os → length xs ≡ length bs →
      Outcome (wrong_from f o c os ds) all places
  walks [] [] e bs xs f o c w split long =
      open_outcome all bs f c w places o xs split long (is_open f c.action c.payload) refl
  walks [] (d ∷ es) e bs xs f o c w split long = absurd (omega arith)
  walks (n ∷ os) [] e bs xs f o c w split long = absurd (omega arith)
  walks (n ∷ os) (d ∷ es) e bs xs f o c w split long =
      by_name bs xs f o c n d os es w split long
      (λ g v. walks os es (omega arith) (bs ++ c ∷ []) (xs ++ o ∷ []) g n d v
      (next_split bs xs f o c n d os es w split long)
      (next_long bs xs f o c n d os es w split long))
      (same_name c d) refl

pub outcome : (places : List ℕ) (cs : List Change) → length places ≡ length cs → Ascending cs →
    Outcome (first_wrong places cs) cs places
outcome [] [] e a = λ q. (tt, refl)
outcome [] (c ∷ cs) e a = absurd (omega arith)
outcome (o ∷ os) [] e a = absurd (omega arith)
outcome (o ∷ os) (c ∷ cs) e a =
    walks (c ∷ cs) (o ∷ os) os cs (omega arith) [] [] c.action o c
    (record {
      whole = refl;
      up = tt;
      rest = a;
      below_right = λ q l.
          right_as (c ∷ cs) q []
          (none_of q q (c ∷ cs) (own_name q) (l, all_over q c.payload cs l a.0)) tt refl;
      h = c;
      g = [];
      own = own_last c.payload [] c (own_name c.payload);
      first = refl;
      last = refl;
      follow = tt;
    }) refl refl
