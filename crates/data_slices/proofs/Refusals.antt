-- What is refused of the changes of an input, from what is of these in the order of names.
use Rattle.data_slices.specs.AtOffsets.{HasUnit, HaveUnits}
use Rattle.std.proofs.Common.{◌≡◌, ◌≤◌, ℕ, ◌+◌, Bool, true, false, cond, List, [], ◌∷◌, ◌++◌}
use Rattle.std.proofs.Common.{length, map, filter, Option, Some, None, Err, refl, sym, ap, subst}
use Rattle.std.proofs.Common.{◌∙◌}
use Rattle.std.proofs.Common.{append_assoc, arith, length-append}
use Rattle.std.proofs.lemmas.List.Elements.{filter-append}
use Rattle.std.specs.List.{AllByRecursion}
use Rattle.rtr_base.specs.Actions.{act}
use Rattle.rtr_base.specs.declared.action.Action.{Action}
use Rattle.rtr_base.specs.declared.action.Action.TheVariants.{Announce, Withdraw}
use Rattle.rtr_units.specs.End.{EndMeaning, end_list}
use Rattle.rtr_payload.specs.AspaUnits.{meant_aspa}
use Rattle.rtr_payload.specs.Payloads.{AspaParts, Meaning, Payload, aspa}
use Rattle.rtr_payload.specs.UnitFields.{Fields, aspa_unit, key_unit, meaning, prefix_unit}
use Rattle.rtr_payload.specs.Units.{IsUnit}
use Rattle.rtr_payload.proofs.ByFields.{unit_fields_of}
use Rattle.rtr_wire.specs.Sequences.{AreUnits}
use Rattle.data_memory.specs.Data.{Change, name_of}
use Rattle.data_memory.specs.Deltas.{change_forms, unit_of}
use Rattle.data_memory.specs.Sequences.{change_of}
use Rattle.data_slices.specs.Canonical.{PlacesFront}
use Rattle.data_slices.specs.Net.{AreLinked, of_name, undecided}
use Rattle.data_slices.specs.Order.{IsAgain, IsOpenEnd, IsRight, Orders, RefusesAt, RefusesOrder}
use Rattle.data_slices.specs.Order.{Sends, WritesOrder}
use Rattle.data_slices.specs.PrivateOffsets.{SendsAt, UnitsAt, ordered}
use Rattle.data_slices.specs.PrivateOffsets.{first_wrong}
use Rattle.data_slices.specs.declared.order_fault.OrderFault.{OrderFault}
use Rattle.data_slices.specs.declared.order_fault.OrderFault.TheVariants as faults
use Rattle.data_slices.proofs.NetOrdered.{IsPlain, they_net}
use Rattle.data_slices.proofs.UnitsAt.{means_same, one_unit}
use Rattle.data_slices.proofs.OffsetsRead.{at_units}
use Rattle.data_slices.proofs.SortedOffsets.{InOrder, have_at, name_places, names, same_changes}
use Rattle.data_slices.proofs.Walking.{Found, Outcome, outcome, own_name}

-- ---- withdrawals of units carry the name alone

plain_aspa : (a : Action) (x : AspaParts) → a ≡ Withdraw →
    aspa (meant_aspa a x) ≡ name_of (aspa (meant_aspa a x))
plain_aspa Announce x e = absurd cc
plain_aspa Withdraw x e = refl

plain_fields : (u : Fields) → (meaning u).action ≡ Withdraw →
    (meaning u).payload ≡ name_of (meaning u).payload
plain_fields (prefix_unit u) e = refl
plain_fields (key_unit u) e = refl
plain_fields (aspa_unit u) e = plain_aspa (act u.flags) u.aspa e

plain_unit : (b : List ℕ) (v : ℕ) (c : Change) → IsUnit b (unit_of v c) → IsPlain c
plain_unit b v c u =
    let h = unit_fields_of b (unit_of v c) u in
    subst (λ (m : Meaning). m.action ≡ Withdraw → m.payload ≡ name_of m.payload) (sym h.means)
    (plain_fields h.fields)

pub all_plain : (input : List ℕ) (v : ℕ) (os : List ℕ) (cs : List Change) →
    HaveUnits input v os cs → AllByRecursion IsPlain cs
all_plain input v [] [] h = tt
all_plain input v [] (c ∷ cs) h = absurd h
all_plain input v (o ∷ os) [] h = tt
all_plain input v (o ∷ os) (c ∷ cs) (h, hs) =
    (plain_unit h.bytes v c h.unit, all_plain input v os cs hs)

-- ---- the changes of an input

pub as_sends : (input os : List ℕ) (cs : List Change) (e : EndMeaning) → SendsAt input os cs e →
    Sends input cs e
as_sends input os cs e s = record {
  bytes = s.front ++ s.last;
  accepts = record {
    rest = s.rest;
    parts = s.parts ∙ sym (append_assoc s.front s.last s.rest);
    sequence = record {
      front = s.front;
      last = s.last;
      parts = refl;
      units = at_units 0 s.front (map (unit_of e.version) cs) os s.units;
      end = s.end;
    };
  };
}

pub as_many : (input : List ℕ) (v : ℕ) (os : List ℕ) (cs : List Change) → HaveUnits input v os cs →
    length os ≡ length cs
as_many input v [] [] h = refl
as_many input v [] (c ∷ cs) h = absurd h
as_many input v (o ∷ os) [] h = absurd h
as_many input v (o ∷ os) (c ∷ cs) (h, hs) = omega (arith, as_many input v os cs hs)

pub have_units : (input os : List ℕ) (cs : List Change) (e : EndMeaning) → SendsAt input os cs e →
    HaveUnits input e.version os cs
have_units input os cs e s =
    have_at input [] s.front (s.last ++ s.rest) 0 e.version cs os s.parts refl s.units

-- ---- at one place

-- what is kept of places, at one of them
record KeptAt (t : ℕ → Bool) (os g1 : List ℕ) (n : ℕ) (g2 : List ℕ) : Type 0 where
  before : List ℕ
  later : List ℕ
  parts : os ≡ before ++ n ∷ later
  kept_before : filter t before ≡ g1
  kept_later : filter t later ≡ g2

kept_more : (t : ℕ → Bool) (o : ℕ) (os g1 : List ℕ) (n : ℕ) (g2 : List ℕ) → t o ≡ false →
    KeptAt t os g1 n g2 → KeptAt t (o ∷ os) g1 n g2
kept_more t o os g1 n g2 e k = record {
  before = o ∷ k.before;
  later = k.later;
  parts = ap (λ l. o ∷ l) k.parts;
  kept_before =
      ap (λ b. cond b (o ∷ filter t k.before) (filter t k.before)) e ∙ k.kept_before;
  kept_later = k.kept_later;
}

kept_first : (t : ℕ → Bool) (o : ℕ) (os g1 : List ℕ) (n : ℕ) (g2 : List ℕ) → t o ≡ true →
    o ∷ filter t os ≡ g1 ++ n ∷ g2 →
    ((g : List ℕ) → filter t os ≡ g ++ n ∷ g2 → KeptAt t os g n g2) →
    KeptAt t (o ∷ os) g1 n g2
kept_first t o os [] n g2 e same ih =
    let first : o ≡ n = cc in
    let rest : filter t os ≡ g2 = cc in
    record {
      before = [];
      later = os;
      parts = ap (λ x. x ∷ os) first;
      kept_before = refl;
      kept_later = rest;
    }
kept_first t o os (x ∷ g1) n g2 e same ih =
    let first : o ≡ x = cc in
    let rest : filter t os ≡ g1 ++ n ∷ g2 = cc in
    let k = ih g1 rest in
    record {
      before = o ∷ k.before;
      later = k.later;
      parts = ap (λ l. o ∷ l) k.parts;
      kept_before =
          ap (λ b. cond b (o ∷ filter t k.before) (filter t k.before)) e
          ∙ (λ i. first i ∷ k.kept_before i);
      kept_later = k.kept_later;
    }

kept_at : (t : ℕ → Bool) (os g1 : List ℕ) (n : ℕ) (g2 : List ℕ) →
    filter t os ≡ g1 ++ n ∷ g2 → KeptAt t os g1 n g2
kept_at t [] [] n g2 e = absurd cc
kept_at t [] (x ∷ g1) n g2 e = absurd cc
kept_at t (o ∷ os) g1 n g2 e = by_test (t o) refl e (λ g h. kept_at t os g n g2 h)
  where
    by_test : (b : Bool) → t o ≡ b → cond b (o ∷ filter t os) (filter t os) ≡ g1 ++ n ∷ g2 →
        ((g : List ℕ) → filter t os ≡ g ++ n ∷ g2 → KeptAt t os g n g2) →
        KeptAt t (o ∷ os) g1 n g2
    by_test true h e ih = kept_first t o os g1 n g2 h e ih
    by_test false h e ih = kept_more t o os g1 n g2 h (ih g1 e)

-- units, cut at one place
record UnitAt (from : ℕ) (b : List ℕ) (v : ℕ) (cs : List Change) (os1 : List ℕ) (n : ℕ)
    (os2 : List ℕ) : Type 0 where
  cs1 : List Change
  c : Change
  cs2 : List Change
  parts : cs ≡ cs1 ++ c ∷ cs2
  b1 : List ℕ
  b2 : List ℕ
  split : b ≡ b1 ++ b2
  units : UnitsAt from b1 (map (unit_of v) cs1) os1
  place : n ≡ from + length b1
  more : UnitsAt n b2 (map (unit_of v) (c ∷ cs2)) (n ∷ os2)

unit_at : (from : ℕ) (b : List ℕ) (v : ℕ) (cs : List Change) (os1 : List ℕ) (n : ℕ)
    (os2 : List ℕ) → UnitsAt from b (map (unit_of v) cs) (os1 ++ n ∷ os2) →
    UnitAt from b v cs os1 n os2
unit_at from b v [] [] n os2 u = absurd u
unit_at from b v [] (o ∷ os1) n os2 u = absurd u
unit_at from b v (c ∷ cs) [] n os2 (first, rest, split, unit, at, more) = record {
  cs1 = [];
  c = c;
  cs2 = cs;
  parts = refl;
  b1 = [];
  b2 = b;
  split = refl;
  units = refl;
  place = at ∙ omega arith;
  more = (
    first,
    rest,
    split,
    unit,
    refl,
    subst (λ (k : ℕ). UnitsAt (k + length first) rest (map (unit_of v) cs) os2) (sym at) more,
  );
}
unit_at from b v (c ∷ cs) (o ∷ os1) n os2 (first, rest, split, unit, at, more) =
    let k = unit_at (from + length first) rest v cs os1 n os2 more in
    record {
      cs1 = c ∷ k.cs1;
      c = k.c;
      cs2 = k.cs2;
      parts = ap (λ l. c ∷ l) k.parts;
      b1 = first ++ k.b1;
      b2 = k.b2;
      split = split ∙ ap (λ l. first ++ l) k.split ∙ sym (append_assoc first k.b1 k.b2);
      units = (first, k.b1, refl, unit, at, k.units);
      place = omega (arith, k.place, length-append first k.b1);
      more = k.more;
    }

record HaveAt (input : List ℕ) (v : ℕ) (xs : List ℕ) (n : ℕ) (ys : List ℕ) (bs : List Change)
    (d : Change) (es : List Change) : Type 0 where
  before : HaveUnits input v xs bs
  unit : HasUnit input n (unit_of v d)
  later : HaveUnits input v ys es

have_split : (input : List ℕ) (v : ℕ) (xs : List ℕ) (n : ℕ) (ys : List ℕ) (bs : List Change)
    (d : Change) (es : List Change) → length xs ≡ length bs →
    HaveUnits input v (xs ++ n ∷ ys) (bs ++ d ∷ es) → HaveAt input v xs n ys bs d es
have_split input v [] n ys [] d es e (h, hs) = record { before = tt; unit = h; later = hs }
have_split input v [] n ys (b ∷ bs) d es e h = absurd (omega arith)
have_split input v (x ∷ xs) n ys [] d es e h = absurd (omega arith)
have_split input v (x ∷ xs) n ys (b ∷ bs) d es e (h, hs) =
    let k = have_split input v xs n ys bs d es (omega arith) hs in
    record { before = (h, k.before); unit = k.unit; later = k.later }

-- ---- the refusal of a change

module _ (input os : List ℕ) (cs : List Change) (e : EndMeaning) (s : SendsAt input os cs e)
    (ps : List ℕ) (r : InOrder input os cs e.version ps) (places : ℕ)
    (enough : length os ≤ places) where
  right : (q : Payload) → IsRight r.ds q → IsRight cs q
  right q h =
      subst (λ l. AreLinked l × (undecided l ≡ false)) (r.same_of q) h

  enough_of : length cs ≤ places
  enough_of =
      omega (arith, as_many input e.version os cs (have_units input os cs e s), enough)

  module _ (n : ℕ) (Is : (before : List Change) (c : Change) (later : List Change) → Type 0)
      (f : Found r.ds ps n Is)
      (kept : (before later : List Change) → r.ds ≡ f.before ++ f.c ∷ f.later →
      cs ≡ before ++ f.c ∷ later →
      of_name f.c.payload f.before ≡ of_name f.c.payload before →
      of_name f.c.payload f.later ≡ of_name f.c.payload later →
      Is f.before f.c f.later → Is before f.c later) where
    abbrev t : ℕ → Bool
    t o = names f.c.payload (r.at o)

    there : HaveAt input e.version f.xs n f.ys f.before f.c f.later
    there =
        have_split input e.version f.xs n f.ys f.before f.c f.later f.as_long
        (subst (λ l. HaveUnits input e.version l (f.before ++ f.c ∷ f.later)) f.split
        (subst (λ l. HaveUnits input e.version ps l) f.parts r.units))

    n_named : t n ≡ true
    n_named =
        ap (names f.c.payload)
        (means_same input n (unit_of e.version f.c) (r.at n) there.unit (r.reads_at n))
        ∙ own_name f.c.payload

    kept_places : filter t os ≡ filter t f.xs ++ n ∷ filter t f.ys
    kept_places =
        sym (r.same_places f.c.payload) ∙ ap (filter t) f.split
        ∙ filter-append t f.xs (n ∷ f.ys)
        ∙ ap (λ b. filter t f.xs ++ cond b (n ∷ filter t f.ys) (filter t f.ys)) n_named

    k : KeptAt t os (filter t f.xs) n (filter t f.ys)
    k = kept_at t os (filter t f.xs) n (filter t f.ys) kept_places

    u : UnitAt 0 s.front e.version cs k.before n k.later
    u =
        unit_at 0 s.front e.version cs k.before n k.later
        (subst (UnitsAt 0 s.front (map (unit_of e.version) cs)) k.parts s.units)

    have_before : HaveUnits input e.version k.before u.cs1
    have_before =
        have_at input [] u.b1 (u.b2 ++ (s.last ++ s.rest)) 0 e.version u.cs1 k.before
        (s.parts ∙ ap (λ l. l ++ (s.last ++ s.rest)) u.split
        ∙ append_assoc u.b1 u.b2 (s.last ++ s.rest)) refl u.units

    have_after : HaveUnits input e.version (n ∷ k.later) (u.c ∷ u.cs2)
    have_after =
        have_at input u.b1 u.b2 (s.last ++ s.rest) n e.version (u.c ∷ u.cs2) (n ∷ k.later)
        (s.parts ∙ ap (λ l. l ++ (s.last ++ s.rest)) u.split
        ∙ append_assoc u.b1 u.b2 (s.last ++ s.rest)) (u.place ∙ omega arith) u.more

    same_change : u.c ≡ f.c
    same_change =
        ap change_of (one_unit input n (unit_of e.version u.c) (unit_of e.version f.c)
        have_after.0 there.unit)

    cs_parts : cs ≡ u.cs1 ++ f.c ∷ u.cs2
    cs_parts = u.parts ∙ ap (λ x. u.cs1 ++ x ∷ u.cs2) same_change

    same_part : (xs : List ℕ) (ds : List Change) (ys : List ℕ) (es : List Change) →
        HaveUnits input e.version xs ds → HaveUnits input e.version ys es →
        filter t ys ≡ filter t xs → of_name f.c.payload ds ≡ of_name f.c.payload es
    same_part xs ds ys es h j same =
        same_changes input e.version (filter t xs) (of_name f.c.payload ds)
        (of_name f.c.payload es)
        (name_places input r.at r.reads_at f.c.payload e.version xs ds h)
        (subst (λ l. HaveUnits input e.version l (of_name f.c.payload es)) same
        (name_places input r.at r.reads_at f.c.payload e.version ys es j))

    pub refuses : RefusesAt input places n Is
    refuses = record {
      before = u.cs1;
      c = f.c;
      later = u.cs2;
      e = e;
      sends = subst (λ l. Sends input l e) cs_parts (as_sends input os cs e s);
      enough = subst (λ (l : List Change). length l ≤ places) cs_parts enough_of;
      unit = record {
        front = u.b1;
        left = u.b2 ++ (s.last ++ s.rest);
        parts =
            s.parts ∙ ap (λ l. l ++ (s.last ++ s.rest)) u.split
            ∙ append_assoc u.b1 u.b2 (s.last ++ s.rest);
        size = u.place ∙ omega arith;
        units = at_units 0 u.b1 (map (unit_of e.version) u.cs1) k.before u.units;
        sends = record {
          bytes = u.b2 ++ s.last;
          accepts = record {
            rest = s.rest;
            parts = sym (append_assoc u.b2 s.last s.rest);
            sequence = record {
              front = u.b2;
              last = s.last;
              parts = refl;
              units =
                  subst
                  (λ x. AreUnits u.b2 (map (unit_of e.version) (x ∷ u.cs2))) same_change
                  (at_units n u.b2 (map (unit_of e.version) (u.c ∷ u.cs2)) (n ∷ k.later) u.more);
              end = s.end;
            };
          };
        };
      };
      refused =
          kept u.cs1 u.cs2 f.parts cs_parts
          (same_part f.xs f.before k.before u.cs1 there.before have_before k.kept_before)
          (same_part f.ys f.later k.later u.cs2 there.later have_after.1 k.kept_later)
          f.refused;
      below = λ q l. subst (λ x. IsRight x q) cs_parts (right q (f.below_right q l));
    }

  again_kept : (a : Action) (b : List Change) (c : Change) (x y : List Change) →
      of_name c.payload b ≡ of_name c.payload y →
      (c.action ≡ a) × IsAgain b c → (c.action ≡ a) × IsAgain y c
  again_kept a b c x y same (is, (linked, unlinked)) = (
    is,
    (
      subst AreLinked same linked,
      λ h. unlinked (subst (λ l. AreLinked (l ++ c ∷ [])) (sym same) h),
    ),
  )

  open_kept : (b : List Change) (c : Change) (l x y : List Change) → r.ds ≡ b ++ c ∷ l →
      cs ≡ x ++ c ∷ y → of_name c.payload l ≡ of_name c.payload y → IsOpenEnd b c l →
      IsOpenEnd x c y
  open_kept b c l x y parts cs_is later (linked, none, opened) =
      let same : of_name c.payload (b ++ c ∷ l) ≡ of_name c.payload (x ++ c ∷ y) =
      ap (of_name c.payload) (sym parts) ∙ r.same_of c.payload ∙ ap (of_name c.payload) cs_is in
      (subst AreLinked same linked, sym later ∙ none, ap undecided (sym same) ∙ opened)

  pub refused_as : (f : OrderFault) → Outcome (Some f) r.ds ps → RefusesOrder f input places
  refused_as (faults.Flaw x) o = absurd o
  refused_as faults.NoIndex o = absurd o
  refused_as (faults.Duplicate n) o =
      refuses n (λ before c later. (c.action ≡ Announce) × IsAgain before c) o
      (λ x y parts cs_is before later h. again_kept Announce o.before o.c o.later x before h)
  refused_as (faults.Unknown n) o =
      refuses n (λ before c later. (c.action ≡ Withdraw) × IsAgain before c) o
      (λ x y parts cs_is before later h. again_kept Withdraw o.before o.c o.later x before h)
  refused_as (faults.Undecided n) o =
      refuses n IsOpenEnd o
      (λ x y parts cs_is before later h. open_kept o.before o.c o.later x y parts cs_is later h)
  refused_as faults.NoRoom o = absurd o

  pub orders_refused : (f : OrderFault) (before : List ℕ) → Some f ≡ first_wrong ps r.ds →
      Orders (Err f) input places before before
  orders_refused f before found =
      by_fault f (subst (λ x. Outcome x r.ds ps) (sym found) all_found)
    where
      all_found : Outcome (first_wrong ps r.ds) r.ds ps
      all_found = outcome ps r.ds (as_many input e.version ps r.ds r.units) r.ordered

      by_fault : (f : OrderFault) → Outcome (Some f) r.ds ps →
          Orders (Err f) input places before before
      by_fault (faults.Flaw x) o = absurd o
      by_fault faults.NoIndex o = absurd o
      by_fault (faults.Duplicate n) o = (refused_as (faults.Duplicate n) o, refl)
      by_fault (faults.Unknown n) o = (refused_as (faults.Unknown n) o, refl)
      by_fault (faults.Undecided n) o = (refused_as (faults.Undecided n) o, refl)
      by_fault faults.NoRoom o = absurd o

  pub writes : (before after : List ℕ) (n : Option ℕ) → None ≡ first_wrong ps r.ds →
      PlacesFront n (change_forms e.version (ordered r.ds) ++ end_list e) before after →
      WritesOrder n input places before after
  writes before after n found placed = record {
    cs = cs;
    e = e;
    sends = as_sends input os cs e s;
    enough = enough_of;
    right = λ q. right q
        (subst (λ x. Outcome x r.ds ps) (sym found)
        (outcome ps r.ds (as_many input e.version ps r.ds r.units) r.ordered) q);
    ns = ordered r.ds;
    nets = they_net cs r.ds r.ordered (all_plain input e.version ps r.ds r.units) r.same_of;
    written_form = placed;
  }
