-- The first change of an input that data don't allow, from these in the order of names.
use Rattle.data_slices.specs.AtOffsets.{FirstOf, HaveUnits, Over, StoppedAt, Up, made_by, why}
use Rattle.std.proofs.Common.{◌≡◌, ◌≤◌, ◌<◌, ℕ, ◌+◌, Bool, true, false, cond, List, [], ◌∷◌, ◌++◌}
use Rattle.std.proofs.Common.{length, map, filter, Option, Some, None, refl, sym, ap, subst}
use Rattle.std.proofs.Common.{◌∙◌, append_assoc, arith, inl, inr, length-append}
use Rattle.std.proofs.lemmas.Bool.{true≢false, false≢true}
use Rattle.std.specs.List.{AllByRecursion}
use Rattle.std.specs.Ordering.{is_eq, is_lt}
use Rattle.rtr_base.specs.declared.action.Action.{Action}
use Rattle.rtr_base.specs.declared.action.Action.TheVariants.{Announce, Withdraw}
use Rattle.rtr_units.specs.End.{EndMeaning}
use Rattle.rtr_payload.specs.Payloads.{Meaning, Payload}
use Rattle.rtr_payload.specs.Units.{IsUnit}
use Rattle.rtr_wire.specs.Sequences.{AreUnits}
use Rattle.data_memory.specs.Data.{Change, IsData, has_name, name_cmp}
use Rattle.data_memory.specs.Deltas.{unit_of}
use Rattle.data_slices.specs.Apply.{RefusedAt}
use Rattle.data_slices.specs.InOrder.{AreAllowed}
use Rattle.data_slices.specs.Net.{of_name}
use Rattle.data_slices.specs.PrivateInOrder.{InRow, FirstRefused, earliest, pairs}
use Rattle.data_slices.specs.PrivateOffsets.{SendsAt, TellsUnits, UnitsAt}
use Rattle.data_slices.proofs.Earliest.{From, Least, NotAbove, Row, least}
use Rattle.data_slices.proofs.InTurn.{allowed, first_bad, kept_up}
use Rattle.data_slices.proofs.InTurn.{of_pair, stopped}
use Rattle.data_slices.proofs.Refusals.{have_units}
use Rattle.data_slices.proofs.Sequences.{no_unit}
use Rattle.data_slices.proofs.SortedOffsets.{Ascending, InOrder, names}
use Rattle.data_slices.proofs.UnitsAt.{means_same}

pub in_row : (cs : List Change) → Ascending cs → InRow cs
in_row [] a = tt
in_row (c ∷ cs) (g, a) = (g, in_row cs a)

-- ---- pairs of places and changes

pair_at : (o : ℕ) (c : Change) (os : List ℕ) (cs : List Change) (a b : Bool) → a ≡ b →
    pairs (cond a (o ∷ os) os) (cond b (c ∷ cs) cs) ≡ cond b ((o, c) ∷ pairs os cs) (pairs os cs)
pair_at o c os cs true true e = refl
pair_at o c os cs true false e = absurd (true≢false e)
pair_at o c os cs false true e = absurd (false≢true e)
pair_at o c os cs false false e = refl

-- those of a name are the pairs of its places and its changes
of_pairs : (input : List ℕ) (at : ℕ → Option Meaning) → TellsUnits input at → (p : Payload)
    (v : ℕ) (os : List ℕ) (cs : List Change) → HaveUnits input v os cs →
    of_pair p (pairs os cs) ≡ pairs (filter (λ o. names p (at o)) os) (of_name p cs)
of_pairs input at r p v [] [] h = refl
of_pairs input at r p v [] (c ∷ cs) h = absurd h
of_pairs input at r p v (o ∷ os) [] h = absurd h
of_pairs input at r p v (o ∷ os) (c ∷ cs) (h, hs) =
    ap (λ l. cond (is_eq (name_cmp p c.payload)) ((o, c) ∷ l) l) (of_pairs input at r p v os cs hs)
    ∙ sym (pair_at o c (filter (λ o. names p (at o)) os) (of_name p cs) (names p (at o))
    (is_eq (name_cmp p c.payload))
    (ap (names p) (means_same input o (unit_of v c) (at o) h (r o))))

row_from : (p : Payload) (os : List ℕ) (cs : List Change) →
    AllByRecursion (λ d. is_lt (name_cmp d.payload p) ≡ false) cs → From p (pairs os cs)
row_from p [] cs a = tt
row_from p (o ∷ os) [] a = tt
row_from p (o ∷ os) (c ∷ cs) (g, a) = (g, row_from p os cs a)

row_of : (os : List ℕ) (cs : List Change) → Ascending cs → Row (pairs os cs)
row_of [] cs a = tt
row_of (o ∷ os) [] a = tt
row_of (o ∷ os) (c ∷ cs) (g, a) = (row_from c.payload os cs g, row_of os cs a)

made_pairs : (input : List ℕ) (v : ℕ) (os : List ℕ) (cs : List Change) → HaveUnits input v os cs →
    made_by (pairs os cs) ≡ cs
made_pairs input v [] [] h = refl
made_pairs input v [] (c ∷ cs) h = absurd h
made_pairs input v (o ∷ os) [] h = absurd h
made_pairs input v (o ∷ os) (c ∷ cs) (h, hs) = ap (λ l. c ∷ l) (made_pairs input v os cs hs)

-- ---- units lie one after the other

pub some_bytes : (b : List ℕ) (m : Meaning) → IsUnit b m → 0 < length b
some_bytes [] m u = absurd (no_unit m u)
some_bytes (x ∷ b) m u = omega arith

over_more : (x y : ℕ) (xs : List (ℕ × Change)) → x ≤ y → Over y xs → Over x xs
over_more x y [] h a = tt
over_more x y (z ∷ xs) h (g, a) = (omega arith, over_more x y xs h a)

abbrev FromPlace : ℕ → List (ℕ × Change) → Type 0
FromPlace n xs = AllByRecursion (λ y. n ≤ y.0) xs

over_from : (x y : ℕ) (xs : List (ℕ × Change)) → x < y → FromPlace y xs → Over x xs
over_from x y [] h a = tt
over_from x y (z ∷ xs) h (g, a) = (omega arith, over_from x y xs h a)

from_more : (x y : ℕ) (xs : List (ℕ × Change)) → x ≤ y → FromPlace y xs → FromPlace x xs
from_more x y [] h a = tt
from_more x y (z ∷ xs) h (g, a) = (omega arith, from_more x y xs h a)

up_at : (from : ℕ) (b : List ℕ) (v : ℕ) (cs : List Change) (os : List ℕ) →
    UnitsAt from b (map (unit_of v) cs) os →
    FromPlace from (pairs os cs) × Up (pairs os cs)
up_at from b v [] [] u = (tt, tt)
up_at from b v [] (o ∷ os) u = absurd u
up_at from b v (c ∷ cs) [] u = absurd u
up_at from b v (c ∷ cs) (o ∷ os) (first, rest, split, unit, at, more) =
    let ih = up_at (from + length first) rest v cs os more in
    let some = some_bytes first (unit_of v c) unit in (
      (omega arith, from_more from (from + length first) (pairs os cs) (omega arith) ih.0),
      (over_from o (from + length first) (pairs os cs) (omega arith) ih.0, ih.1),
    )

-- a change of units at their places
record Cut (from : ℕ) (b : List ℕ) (v : ℕ) (o : ℕ) (before : List (ℕ × Change)) (c : Change) :
    Type 0 where
  front : List ℕ
  unit : List ℕ
  left : List ℕ
  parts : b ≡ front ++ (unit ++ left)
  size : o ≡ from + length front
  units : AreUnits front (map (unit_of v) (made_by before))
  is_unit : IsUnit unit (unit_of v c)

cut : (from : ℕ) (b : List ℕ) (v : ℕ) (cs : List Change) (os : List ℕ) (o : ℕ)
    (before : List (ℕ × Change)) (c : Change) (later : List (ℕ × Change)) →
    UnitsAt from b (map (unit_of v) cs) os → pairs os cs ≡ before ++ (o, c) ∷ later →
    Cut from b v o before c
cut from b v [] [] o [] c later u e = absurd cc
cut from b v [] [] o (x ∷ before) c later u e = absurd cc
cut from b v [] (n ∷ os) o before c later u e = absurd u
cut from b v (d ∷ cs) [] o before c later u e = absurd u
cut from b v (d ∷ cs) (n ∷ os) o [] c later (first, rest, split, unit, at, more) e =
    let same : ◌≡◌ {A = ℕ × Change} (n, d) (o, c) = cc in
    record {
      front = [];
      unit = first;
      left = rest;
      parts = split;
      size = sym (ap (λ (y : ℕ × Change). y.0) same) ∙ at ∙ omega arith;
      units = refl;
      is_unit = subst (λ (y : ℕ × Change). IsUnit first (unit_of v y.1)) same unit;
    }
cut from b v (d ∷ cs) (n ∷ os) o (x ∷ before) c later (first, rest, split, unit, at, more) e =
    let same : (n, d) ≡ x = cc in
    let others : pairs os cs ≡ before ++ (o, c) ∷ later = cc in
    let k = cut (from + length first) rest v cs os o before c later more others in
    record {
      front = first ++ k.front;
      unit = k.unit;
      left = k.left;
      parts =
          split ∙ ap (λ l. first ++ l) {y = k.front ++ (k.unit ++ k.left)} k.parts
          ∙ sym (append_assoc first k.front (k.unit ++ k.left));
      size = omega (arith, k.size, length-append first k.front);
      units = (
        first,
        k.front,
        refl,
        subst (λ (y : ℕ × Change). IsUnit first (unit_of v y.1)) same unit,
        k.units,
      );
      is_unit = k.is_unit;
    }

-- ---- what is refused

split_changes : (xs before : List (ℕ × Change)) (x : ℕ × Change) (later : List (ℕ × Change)) →
    xs ≡ before ++ x ∷ later → made_by xs ≡ made_by before ++ x.1 ∷ made_by later
split_changes xs before x later e = ap made_by e ∙ joined before
  where
    joined : (ys : List (ℕ × Change)) →
        made_by (ys ++ x ∷ later) ≡ made_by ys ++ x.1 ∷ made_by later
    joined [] = refl
    joined (y ∷ ys) = ap (λ l. y.1 ∷ l) (joined ys)

module _ (input os : List ℕ) (cs : List Change) (v : ℕ) (have : HaveUnits input v os cs)
    (lie : Up (pairs os cs)) (ps : List ℕ) (r : InOrder input os cs v ps) (d : List Payload)
    (is : IsData d) where
  same_pairs : (q : Payload) → of_pair q (pairs ps r.ds) ≡ of_pair q (pairs os cs)
  same_pairs q =
      of_pairs input r.at r.reads_at q v ps r.ds r.units
      ∙ (λ i. pairs (r.same_places q i) (r.same_of q i))
      ∙ sym (of_pairs input r.at r.reads_at q v os cs have)

  found : Least d None None (pairs ps r.ds) (earliest d None None (pairs ps r.ds))
  found =
      least d None None (pairs ps r.ds) tt (row_of ps r.ds r.ordered)
      (λ q. subst Up (sym (same_pairs q)) (kept_up q (pairs os cs) lie))

  -- none
  all_fit : Least d None None (pairs ps r.ds) None → AreAllowed (made_by (pairs os cs)) d
  all_fit l =
      allowed (pairs os cs) d is (λ q.
      none_bad (first_bad (has_name d q) (of_pair q (pairs os cs)))
      (subst (λ x. NotAbove None (first_bad (has_name d q) x)) (same_pairs q) (l.names q)))
    where
      none_bad : (x : Option (ℕ × Action)) → NotAbove None x → x ≡ None
      none_bad None h = refl
      none_bad (Some y) h = absurd h

  -- one
  module _ (t : ℕ × Action) (l : Least d None None (pairs ps r.ds) (Some t)) where
    is_least : (q : Payload) (y : ℕ × Action) →
        first_bad (has_name d q) (of_pair q (pairs os cs)) ≡ Some y → t.0 ≤ y.0
    is_least q y h =
        subst (NotAbove (Some t)) h
        (subst (λ x. NotAbove (Some t) (first_bad (has_name d q) x)) (same_pairs q) (l.names q))

    stops : StoppedAt (pairs os cs) d t
    stops = elim l.from [
      | inl n ↦ absurd (let no = n in cc)
      | inr n ↦
          stopped (pairs os cs) d is lie n.0 t
          (ap (first_bad (has_name d n.0)) (sym (same_pairs n.0)) ∙ sym n.1) is_least
    ]

  by_least : (x : Option (ℕ × Action)) → Least d None None (pairs ps r.ds) x →
      FirstOf x (pairs os cs) d
  by_least None l = all_fit l
  by_least (Some t) l = stops t l

  pub first_of : (x : Option (ℕ × Action)) → x ≡ earliest d None None (pairs ps r.ds) →
      FirstOf x (pairs os cs) d
  first_of x h = by_least x (subst (Least d None None (pairs ps r.ds)) (sym h) found)

module _ (input os : List ℕ) (cs : List Change) (e : EndMeaning) (s : SendsAt input os cs e)
    (ps : List ℕ) (r : InOrder input os cs e.version ps) (d : List Payload) (is : IsData d) where
  have : HaveUnits input e.version os cs
  have = have_units input os cs e s

  module _ (t : ℕ × Action) (stops : StoppedAt (pairs os cs) d t) where
    refused_at : RefusedAt t.0 (why t.1) input d cs e.version
    refused_at =
        let k = cut 0 s.front e.version cs os t.0 stops.before stops.c stops.later s.units
        stops.parts in
        record {
          before = made_by stops.before;
          refused = stops.c;
          others = made_by stops.later;
          all =
              sym (made_pairs input e.version os cs have)
              ∙ split_changes (pairs os cs) stops.before (t.0, stops.c) stops.later stops.parts;
          made = stops.made;
          allowed = stops.allowed;
          wrong = stops.wrong;
          front = k.front;
          unit = k.unit;
          left = k.left ++ (s.last ++ s.rest);
          parts =
              s.parts ∙ ap (λ l. l ++ (s.last ++ s.rest)) k.parts
              ∙ append_assoc k.front (k.unit ++ k.left) (s.last ++ s.rest)
              ∙ ap (λ l. k.front ++ l) (append_assoc k.unit k.left (s.last ++ s.rest));
          size = k.size ∙ omega arith;
          units = k.units;
          is_unit = k.is_unit;
        }

  by_answer : (x : Option (ℕ × Action)) → FirstOf x (pairs os cs) d →
      FirstRefused x input d cs e.version
  by_answer None h = subst (λ x. AreAllowed x d) (made_pairs input e.version os cs have) h
  by_answer (Some (o, Announce)) h = refused_at (o, Announce) h
  by_answer (Some (o, Withdraw)) h = refused_at (o, Withdraw) h

  pub answers : (x : Option (ℕ × Action)) → x ≡ earliest d None None (pairs ps r.ds) →
      FirstRefused x input d cs e.version
  answers x h =
      by_answer x
      (first_of input os cs e.version have (up_at 0 s.front e.version cs os s.units).1 ps r d is x
      h)
