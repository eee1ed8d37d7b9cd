-- Changes that the rules allow, and the first that they refuse.
use Rattle.std.proofs.Common.{◌≡◌, ℕ, ◌+◌, Bool, true, false, not, ◌&&◌, cond, List, [], ◌∷◌, ◌++◌}
use Rattle.std.proofs.Common.{map, Ok, Err, refl, sym, ap, subst, ◌∙◌, append_assoc}
use Rattle.std.proofs.Common.{arith}
use Rattle.std.proofs.lemmas.List.{length-append, map-append}
use Rattle.std.specs.BTreeMap.{is_at}
use Rattle.std.specs.BTreeSet.{replace_key}
use Rattle.std.specs.List.{AllByRecursion}
use Rattle.std.specs.List.Sorted.{IsStrictlySortedBy}
use Rattle.std.specs.Ordering.{is_eq}
use Rattle.std.specs.Set.{remove_key}
use Rattle.std.specs.declared.cmp.Ordering.TheVariants.{Less}
use Rattle.rtr_base.specs.declared.action.Action.TheVariants.{Withdraw}
use Rattle.rtr_units.specs.End.{EndMeaning}
use Rattle.rtr_payload.specs.Payloads.{Payload}
use Rattle.data_memory.specs.Changes.{after_all}
use Rattle.data_memory.specs.Data.{Change, IsData, after, announcement, has_name, name_cmp, name_of}
use Rattle.data_memory.specs.Data.{takes_place, withdrawal}
use Rattle.data_memory.specs.declared.change_error.ChangeError.TheVariants as refusals
use Rattle.data_memory.proofs.Names.{above}
use Rattle.data_slices.specs.Apply.{RefusedAt}
use Rattle.data_slices.specs.PrivateChanges.{Breaks, HoldsParts, IsBelow, IsWithin}
use Rattle.data_slices.specs.declared.refused.Rule.TheVariants.{Duplicate, Unknown}
use Rattle.data_slices.proofs.Applying.{IsApart}
use Rattle.data_slices.proofs.Making.{both, in_turn, named_there, names_after}
use Rattle.data_slices.proofs.Making.{or_parts, removed_name, replaced_name}
use Rattle.data_slices.proofs.Parting.{join}
use Rattle.data_slices.proofs.Units.{front_data, right_name}

not_false : (b : Bool) → not b ≡ false → b ≡ true
not_false true e = refl
not_false false e = sym e

not_true : (b : Bool) → not b ≡ true → b ≡ false
not_true true e = sym e
not_true false e = refl

-- what all of these make
pub record Made (cs : List Change) (d : List Payload) : Type 0 where
  pub made : List Payload
  pub is : after_all cs (Ok d) ≡ Ok made

-- ---- announcements

still_within : (p : Payload) (d ps : List Payload) → IsBelow p ps →
    AllByRecursion (IsWithin Duplicate d) ps →
    AllByRecursion (IsWithin Duplicate (replace_key name_cmp d p)) ps
still_within p d [] a h = tt
still_within p d (x ∷ ps) (l, a) (g, h) = (
  ap (λ b. b && not (takes_place x)) (replaced_name p x (ap is_eq (above p x l)) d) ∙ g,
  still_within p d ps a h,
)

announced : (ps d : List Payload) → IsData ps → AllByRecursion (IsWithin Duplicate d) ps →
    Made (map announcement ps) d
unfolding IsStrictlySortedBy
announced [] d s h = record { made = d; is = refl }
announced (p ∷ ps) d s (g, h) =
    let next = replace_key name_cmp d p in
    let rest = announced ps next s.1 (still_within p d ps s.0 h) in
    record {
      made = rest.made;
      is =
          ap (λ b. after_all (map announcement ps) (cond b (Err refusals.Duplicate) (Ok next))) g
          ∙ rest.is;
    }

-- ---- withdrawals

abbrev AllNamed : (d qs : List Payload) → Type 0
AllNamed d qs = AllByRecursion (λ q. has_name d q ≡ true) qs

abbrev left_of : List Payload → Payload → List Payload
left_of d q = remove_key (is_at (name_cmp (name_of q))) d

other_left : (q x : Payload) (d : List Payload) → is_eq (name_cmp x q) ≡ false →
    has_name (left_of d q) x ≡ has_name d x
other_left q x d n = removed_name (name_of q) x (ap is_eq (right_name Withdraw q x) ∙ n) d

still_named : (q : Payload) (d qs : List Payload) → IsBelow q qs → AllNamed d qs →
    AllNamed (left_of d q) qs
still_named q d [] a h = tt
still_named q d (x ∷ qs) (l, a) (g, h) =
    (other_left q x d (ap is_eq (above q x l)) ∙ g, still_named q d qs a h)

taken : (q : Payload) (d : List Payload) → has_name d q ≡ true →
    after (withdrawal q) d ≡ Ok (left_of d q)
taken q d g =
    ap (λ b. cond b (Ok (left_of d q)) (Err refusals.Unknown)) (named_there q d ∙ g)

withdrawn : (qs d : List Payload) → IsData qs → AllNamed d qs → Made (map withdrawal qs) d
unfolding IsStrictlySortedBy
withdrawn [] d s h = record { made = d; is = refl }
withdrawn (q ∷ qs) d s (g, h) =
    let rest = withdrawn qs (left_of d q) s.1 (still_named q d qs s.0 h) in
    record {
      made = rest.made;
      is = ap (after_all (map withdrawal qs)) (taken q d g) ∙ rest.is;
    }

-- withdrawals leave the names that they don't have
names_left : (qs d x : List Payload) (p : Payload) → IsData qs → AllNamed d qs →
    after_all (map withdrawal qs) (Ok d) ≡ Ok x → has_name qs p ≡ false →
    has_name x p ≡ has_name d p
unfolding IsStrictlySortedBy
names_left [] d x p s h e n = ap (λ l. has_name l p) (sym cc)
names_left (q ∷ qs) d x p s (g, h) e n =
    let (first, rest) = or_parts (is_eq (name_cmp p q)) (has_name qs p) n in
    names_left qs (left_of d q) x p s.1 (still_named q d qs s.0 h)
    (sym (ap (after_all (map withdrawal qs)) (taken q d g)) ∙ e) rest
    ∙ other_left q p d first

-- ---- both

named_after : (d ps x qs : List Payload) → after_all (map announcement ps) (Ok d) ≡ Ok x →
    IsApart ps qs → AllByRecursion (IsWithin Unknown d) qs → AllNamed x qs
named_after d ps x [] e apart h = tt
named_after d ps x (q ∷ qs) e (n, apart) (g, h) = (
  names_after ps d x q e n ∙ not_false (has_name d q) g,
  named_after d ps x qs e apart h,
)

-- changes that break no rule make something
pub allowed : (d ps qs : List Payload) → IsData ps → IsData qs → IsApart ps qs →
    AllByRecursion (IsWithin Duplicate d) ps → AllByRecursion (IsWithin Unknown d) qs →
    Made (both ps qs) d
allowed d ps qs s t apart h j =
    let a = announced ps d s h in
    let w = withdrawn qs a.made t (named_after d ps a.made qs a.is apart j) in
    record {
      made = w.made;
      is = in_turn d ps qs ∙ ap (after_all (map withdrawal qs)) a.is ∙ w.is;
    }

-- ---- the first that is refused

pub at_place : (P : Payload → Type 0) (xs ys : List Payload) (y : Payload) →
    AllByRecursion P (xs ++ y ∷ ys) → P y
at_place P [] ys y (g, h) = g
at_place P (x ∷ xs) ys y (g, h) = at_place P xs ys y h

pub front_all : (P : Payload → Type 0) (xs ys : List Payload) → AllByRecursion P (xs ++ ys) →
    AllByRecursion P xs
front_all P [] ys h = tt
front_all P (x ∷ xs) ys (g, h) = (g, front_all P xs ys h)

-- of names in order the later isn't among the earlier
later_name : (before others : List Payload) (p : Payload) → IsData (before ++ p ∷ others) →
    has_name before p ≡ false
unfolding IsStrictlySortedBy
later_name [] others p s = refl
later_name (x ∷ before) others p (a, s) =
    cc (
      ap is_eq (above x p (at_place (λ q. name_cmp x q ≡ Less) before others p a)),
      later_name before others p s,
    )

module _ (changes : List ℕ) (middle stop : ℕ) (e : EndMeaning)
    (c : HoldsParts changes middle stop e) (d : List Payload) (n : ℕ) where
  module _ (w : Breaks Duplicate e.version c.announced d c.announcing n) where
    ordered : IsData (w.before ++ w.first ∷ w.others)
    ordered = subst IsData w.all c.announced_in_order

    before_it : Made (map announcement w.before) d
    before_it = announced w.before d (front_data w.before (w.first ∷ w.others) ordered) w.within

    duplicate_wrong : after (announcement w.first) before_it.made ≡ Err refusals.Duplicate
    duplicate_wrong =
        ap (λ b. cond b (Err refusals.Duplicate) (Ok (replace_key name_cmp before_it.made w.first)))
        (ap (λ b. b && not (takes_place w.first))
        (names_after w.before d before_it.made w.first before_it.is
        (later_name w.before w.others w.first ordered)) ∙ w.against)

    pub duplicate : RefusedAt n refusals.Duplicate changes d (both c.announced c.withdrawn)
        e.version
    duplicate = record {
      before = map announcement w.before;
      refused = announcement w.first;
      others = both w.others c.withdrawn;
      all =
          ap (λ l. both l c.withdrawn) w.all
          ∙ ap (λ l. l ++ map withdrawal c.withdrawn)
          (map-append announcement w.before (w.first ∷ w.others))
          ∙ append_assoc (map announcement w.before)
          (announcement w.first ∷ map announcement w.others) (map withdrawal c.withdrawn);
      made = before_it.made;
      allowed = before_it.is;
      wrong = duplicate_wrong;
      front = w.front;
      unit = w.unit;
      left = w.left ++ (c.withdrawing ++ (c.last ++ c.rest));
      parts =
          c.parts
          ∙ ap (λ l. l ++ (c.withdrawing ++ (c.last ++ c.rest))) w.parts
          ∙ append_assoc w.front (w.unit ++ w.left) (c.withdrawing ++ (c.last ++ c.rest))
          ∙ ap (λ l. w.front ++ l)
          (append_assoc w.unit w.left (c.withdrawing ++ (c.last ++ c.rest)));
      size = w.size;
      units = w.units;
      is_unit = w.is_unit;
    }

  module _ (within : AllByRecursion (IsWithin Duplicate d) c.announced)
      (w : Breaks Unknown e.version c.withdrawn d c.withdrawing n) where
    in_order : IsData (w.before ++ w.first ∷ w.others)
    in_order = subst IsData w.all c.withdrawn_in_order

    apart : IsApart c.announced (w.before ++ w.first ∷ w.others)
    apart = subst (IsApart c.announced) w.all c.apart

    front_order : IsData w.before
    front_order = front_data w.before (w.first ∷ w.others) in_order

    front_apart : IsApart c.announced w.before
    front_apart =
        front_all (λ q. has_name c.announced q ≡ false) w.before (w.first ∷ w.others) apart

    first_made : Made (map announcement c.announced) d
    first_made = announced c.announced d c.announced_in_order within

    named : AllNamed first_made.made w.before
    named = named_after d c.announced first_made.made w.before first_made.is front_apart w.within

    then_made : Made (map withdrawal w.before) first_made.made
    then_made = withdrawn w.before first_made.made front_order named

    name_gone : has_name then_made.made w.first ≡ false
    name_gone =
        names_left w.before first_made.made then_made.made w.first front_order named then_made.is
        (later_name w.before w.others w.first in_order)
        ∙ names_after c.announced d first_made.made w.first first_made.is
        (at_place (λ q. has_name c.announced q ≡ false) w.before w.others w.first apart)
        ∙ not_true (has_name d w.first) w.against

    pub unknown : RefusedAt (middle + n) refusals.Unknown changes d (both c.announced c.withdrawn)
        e.version
    unknown = record {
      before = both c.announced w.before;
      refused = withdrawal w.first;
      others = map withdrawal w.others;
      all =
          ap (both c.announced) w.all
          ∙ ap (λ l. map announcement c.announced ++ l)
          (map-append withdrawal w.before (w.first ∷ w.others))
          ∙ sym (append_assoc (map announcement c.announced) (map withdrawal w.before)
          (withdrawal w.first ∷ map withdrawal w.others));
      made = then_made.made;
      allowed =
          in_turn d c.announced w.before
          ∙ ap (after_all (map withdrawal w.before)) first_made.is ∙ then_made.is;
      wrong =
          ap (λ b. cond b (Ok (left_of then_made.made w.first)) (Err refusals.Unknown))
          (named_there w.first then_made.made ∙ name_gone);
      front = c.announcing ++ w.front;
      unit = w.unit;
      left = w.left ++ (c.last ++ c.rest);
      parts =
          c.parts
          ∙ ap (λ l. c.announcing ++ l)
          (ap (λ l. l ++ (c.last ++ c.rest)) w.parts
          ∙ append_assoc w.front (w.unit ++ w.left) (c.last ++ c.rest)
          ∙ ap (λ l. w.front ++ l) (append_assoc w.unit w.left (c.last ++ c.rest)))
          ∙ sym (append_assoc c.announcing w.front (w.unit ++ (w.left ++ (c.last ++ c.rest))));
      size = omega (arith, c.middle_is, w.size, length-append c.announcing w.front);
      units = join c.announcing w.front e.version c.announced w.before c.announcements w.units;
      is_unit = w.is_unit;
    }
