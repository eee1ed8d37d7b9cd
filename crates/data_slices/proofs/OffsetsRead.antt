-- How far the places of units were read.
use Rattle.std.proofs.Common.{◌≡◌, ◌≢◌, ◌≤◌, ◌<◌, ℕ, ◌+◌, ◌-◌, List, [], ◌∷◌, ◌++◌, length, map}
use Rattle.std.proofs.Common.{take, Option, Some, None, refl, sym, ap, subst, ◌∙◌, arith}
use Rattle.std.proofs.Common.{append_assoc, append-nil, length-append}
use Rattle.std.proofs.Common.{inl, inr}
use Rattle.std.specs.List.{AllByRecursion}
use Rattle.rtr_units.specs.AnyEnd.{end_meaning}
use Rattle.rtr_units.specs.declared.end.EndOfData.{EndOfData}
use Rattle.rtr_payload.specs.Payloads.{Meaning}
use Rattle.rtr_payload.specs.Units.{IsUnit}
use Rattle.unit_views.specs.Faults.{IsFirstFault}
use Rattle.unit_views.specs.declared.fault.ViewFault.{ViewFault}
use Rattle.rtr_wire.specs.Sequences.{AreUnits}
use Rattle.data_memory.specs.Deltas.{unit_of}
use Rattle.data_memory.specs.Sequences.{change_of}
use Rattle.data_slices.specs.Items.{IsItem, meant}
use Rattle.data_slices.specs.Order.{AreOf, IsOther, IsStray, IsStrayAt}
use Rattle.data_slices.specs.AtOffsets.{IsOf}
use Rattle.data_slices.specs.PrivateOffsets.{OffsetsRead, UnitsAt}
use Rattle.data_slices.specs.declared.fault.Flaw.{Flaw}
use Rattle.data_slices.specs.declared.fault.Reason.TheVariants.{Refused, NotCanonical}
use Rattle.data_slices.specs.declared.item.Item.{Item}
use Rattle.data_slices.specs.declared.item.Item.TheVariants as items
use Rattle.data_slices.specs.declared.item.PayloadView.{PayloadView}
use Rattle.data_slices.proofs.Sequences.{shorter}

-- units at their places are units
pub at_units : (from : ℕ) (b : List ℕ) (ms : List Meaning) (os : List ℕ) → UnitsAt from b ms os →
    AreUnits b ms
at_units from b [] [] u = u
at_units from b [] (o ∷ os) u = absurd u
at_units from b (m ∷ ms) [] u = absurd u
at_units from b (m ∷ ms) (o ∷ os) (first, rest, parts, unit, is, u) =
    (first, rest, parts, unit, at_units (from + length first) rest ms os u)

-- one more unit
pub at_push : (from : ℕ) (b u : List ℕ) (ms : List Meaning) (m : Meaning) (os : List ℕ) (o : ℕ) →
    UnitsAt from b ms os → IsUnit u m → o ≡ from + length b →
    UnitsAt from (b ++ u) (ms ++ m ∷ []) (os ++ o ∷ [])
at_push from b u [] m [] o none unit is = (
  u,
  [],
  ap (λ l. l ++ u) none ∙ sym (append-nil u),
  unit,
  is ∙ ap (λ (l : List ℕ). from + length l) none ∙ omega arith,
  refl,
)
at_push from b u [] m (x ∷ os) o none unit is = absurd none
at_push from b u (n ∷ ms) m [] o none unit is = absurd none
at_push from b u (n ∷ ms) m (x ∷ os) o (first, rest, parts, other, at, more) unit is = (
  first,
  rest ++ u,
  ap (λ l. l ++ u) parts ∙ append_assoc first rest u,
  other,
  at,
  at_push (from + length first) rest u ms m os o more unit
      (omega (arith, is, ap length parts, length-append first rest)),
)

-- so much was read
pub record ReadSoFar (input rest : List ℕ) (version : Option ℕ) (count : ℕ)
    (index : List ℕ) : Type 0 where
  pub front : List ℕ
  pub parts : input ≡ front ++ rest
  pub ms : List Meaning
  pub os : List ℕ
  pub units : UnitsAt 0 front ms os
  pub one : AreOf version ms
  pub counts : count ≡ length os
  pub fewer : count ≤ length front
  pub held : count ≤ length index → take count index ≡ os

none_held : (index : List ℕ) → take 0 index ≡ []
none_held [] = refl
none_held (x ∷ index) = refl

pub starts : (input index : List ℕ) → ReadSoFar input input None 0 index
starts input index = record {
  front = [];
  parts = refl;
  ms = [];
  os = [];
  units = refl;
  one = refl;
  counts = refl;
  fewer = omega arith;
  held = λ h. none_held index;
}

all_push : (v : ℕ) (ms : List Meaning) (m : Meaning) → AllByRecursion (λ n. n.version ≡ v) ms →
    m.version ≡ v → AllByRecursion (λ n. n.version ≡ v) (ms ++ m ∷ [])
all_push v [] m h e = (e, tt)
all_push v (n ∷ ms) m (g, h) e = (g, all_push v ms m h e)

pushed : (ms : List Meaning) (m : Meaning) → ms ++ m ∷ [] ≢ []
pushed [] m e = absurd cc
pushed (n ∷ ms) m e = absurd cc

one_more : (version : Option ℕ) (ms : List Meaning) (m : Meaning) → AreOf version ms →
    IsOf version m.version → AreOf (Some m.version) (ms ++ m ∷ [])
one_more None ms m none is =
    subst (λ l. AreOf (Some m.version) (l ++ m ∷ [])) (sym none) (pushed [] m, (refl, tt))
one_more (Some v) ms m (some, all) is = (
  pushed ms m,
  all_push m.version ms m
      (subst (λ w. AllByRecursion (λ n. n.version ≡ w) ms) is all) refl,
)

-- units of one version make changes
remade : (v : ℕ) (ms : List Meaning) → AllByRecursion (λ n. n.version ≡ v) ms →
    ms ≡ map (unit_of v) (map change_of ms)
remade v [] h = refl
remade v (m ∷ ms) (e, h) =
    let rest = remade v ms h in
    (λ i. record { version = e i; action = m.action; payload = m.payload } ∷ rest i)

remade_as : (version : Option ℕ) (ms : List Meaning) (v : ℕ) → AreOf version ms →
    IsOf version v → ms ≡ map (unit_of v) (map change_of ms)
remade_as None ms v none is =
    none ∙ ap (λ l. map (unit_of v) (map change_of l)) (sym none)
remade_as (Some w) ms v (some, all) is =
    remade v ms (subst (λ x. AllByRecursion (λ n. n.version ≡ x) ms) is all)

module _ (input r : List ℕ) (version : Option ℕ) (count : ℕ) (index : List ℕ)
    (s : ReadSoFar input r version count index) where
  pub goes : (v : PayloadView) (b left : List ℕ) (now : List ℕ) → IsItem (items.Unit v) b →
      r ≡ b ++ left → IsOf version (meant v).version →
      (place : ℕ) → place ≡ length input - length r →
      ((os : List ℕ) → (count ≤ length index → take count index ≡ os) →
      count + 1 ≤ length now → take (count + 1) now ≡ os ++ place ∷ []) →
      ReadSoFar input left (Some (meant v).version) (count + 1) now
  goes v b left now is parts of place at put = record {
    front = s.front ++ b;
    parts =
        s.parts ∙ ap (λ l. s.front ++ l) parts ∙ sym (append_assoc s.front b left);
    ms = s.ms ++ meant v ∷ [];
    os = s.os ++ place ∷ [];
    units =
        at_push 0 s.front b s.ms (meant v) s.os place s.units is.0
        (omega (arith, at, ap length s.parts, length-append s.front r));
    one = one_more version s.ms (meant v) s.one of;
    counts = omega (arith, s.counts, length-append s.os (place ∷ []));
    fewer =
        omega (
          arith,
          s.fewer,
          length-append s.front b,
          shorter (items.Unit v) b r left is parts,
          ap length parts,
          length-append b left,
        );
    held = put s.os s.held;
  }

  pub few : (x : Item) (b left : List ℕ) → IsItem x b → r ≡ b ++ left → count < length input
  few x b left is parts =
      omega (
        arith,
        s.fewer,
        ap length s.parts,
        length-append s.front r,
        shorter x b r left is parts,
      )

  pub ends : (d : EndOfData) (b left : List ℕ) → IsItem (items.End d) b → r ≡ b ++ left →
      IsOf version (end_meaning d).version → OffsetsRead d count input index
  ends d b left is parts of = record {
    os = s.os;
    cs = map change_of s.ms;
    sends = record {
      front = s.front;
      last = b;
      rest = left;
      parts = s.parts ∙ ap (λ l. s.front ++ l) parts;
      units =
          subst (λ l. UnitsAt 0 s.front l s.os)
          (remade_as version s.ms (end_meaning d).version s.one of) s.units;
      end = is.1;
    };
    counts = s.counts;
    held = s.held;
    end_is = is.0 ∙ is.1.bytes;
  }

  -- ---- what is wrong

  module _ (f : Flaw) (size : f.offset ≡ length input - length r) where
    pub strays : IsStray f.reason version r → IsStrayAt input f
    strays wrong = record {
      front = s.front;
      left = r;
      parts = s.parts;
      size = omega (arith, size, ap length s.parts, length-append s.front r);
      meanings = s.ms;
      units = at_units 0 s.front s.ms s.os s.units;
      version = version;
      one = s.one;
      wrong = wrong;
    }

    pub refused : (e : ViewFault) → f.reason ≡ Refused e → IsFirstFault r e → IsStrayAt input f
    refused e is fault = strays (subst (λ x. IsStray x version r) (sym is) fault)

    other_unit : (version : Option ℕ) (v : PayloadView) (b left : List ℕ) →
        IsItem (items.Unit v) b → r ≡ b ++ left →
        (IsOf version (meant v).version → ⊥) → IsOther version r
    other_unit None v b left is parts not = absurd (not tt)
    other_unit (Some w) v b left is parts not =
        inl (
          record { bytes = b; means = meant v; rest = left; unit = is.0; parts = parts },
          λ e. not (sym e),
        )

    other_end : (version : Option ℕ) (d : EndOfData) (b left : List ℕ) →
        IsItem (items.End d) b → r ≡ b ++ left →
        (IsOf version (end_meaning d).version → ⊥) → IsOther version r
    other_end None d b left is parts not = absurd (not tt)
    other_end (Some w) d b left is parts not =
        inr (
          record { bytes = b; means = end_meaning d; rest = left; end = is.1; parts = parts },
          λ e. not (sym e),
        )

    pub stray_unit : f.reason ≡ NotCanonical → (v : PayloadView) (b left : List ℕ) →
        IsItem (items.Unit v) b → r ≡ b ++ left →
        (IsOf version (meant v).version → ⊥) → IsStrayAt input f
    stray_unit is v b left item parts not =
        strays (subst (λ x. IsStray x version r) (sym is)
        (other_unit version v b left item parts not))

    pub stray_end : f.reason ≡ NotCanonical → (d : EndOfData) (b left : List ℕ) →
        IsItem (items.End d) b → r ≡ b ++ left →
        (IsOf version (end_meaning d).version → ⊥) → IsStrayAt input f
    stray_end is d b left item parts not =
        strays (subst (λ x. IsStray x version r) (sym is)
        (other_end version d b left item parts not))
