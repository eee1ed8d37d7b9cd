-- An input has one first flaw.
use Rattle.std.proofs.Common.{◌≡◌, ℕ, ◌<◌, ◌≤◌, List, [], ◌∷◌, ◌++◌, length, map, refl, sym, ap}
use Rattle.std.proofs.Common.{subst}
use Rattle.std.proofs.Common.{◌∙◌, append_assoc, append-nil, arith, false, inl, inr}
use Rattle.std.proofs.lemmas.Bool.{cases_order}
use Rattle.std.proofs.lemmas.List.{length-append, length-map}
use Rattle.std.specs.Prelude.{◌⊎◌}
use Rattle.std.specs.List.{AllByRecursion}
use Rattle.std.specs.List.Sorted.{IsStrictlySortedBy}
use Rattle.rtr_payload.specs.FirstFault.{BeginsUnit}
use Rattle.rtr_payload.specs.Payloads.{Meaning, Payload}
use Rattle.rtr_payload.proofs.Apart.{unit_or_end}
use Rattle.rtr_payload.proofs.Fields.{units_same}
use Rattle.rtr_payload.proofs.Rests.{begins_unit_none}
use Rattle.rtr_wire.specs.Sequences.{AreUnits}
use Rattle.rtr_wire.proofs.Push.{units_push}
use Rattle.rtr_wire.proofs.Runs.{after, goes_on, same_run}
use Rattle.data_memory.specs.Data.{Change, IsData, announcement, has_name, withdrawal}
use Rattle.data_memory.specs.Deltas.{unit_of}
use Rattle.data_slices.specs.Canonical.{HasData}
use Rattle.data_slices.specs.CanonicalChanges.{AreOrdered, HasChanges}
use Rattle.data_slices.specs.Flaws.{AreAnnounced, AreUnitsOf, IsFirstFlaw, IsFlawOfChanges}
use Rattle.data_slices.specs.Flaws.{IsFlawOfData, IsWrongAfter}
use Rattle.data_slices.specs.declared.fault.Flaw.{Flaw}
use Rattle.data_slices.specs.declared.fault.Reason.{Reason}
use Rattle.data_slices.specs.declared.fault.Reason.TheVariants.{Refused, NotCanonical}
use Rattle.data_slices.proofs.Sequences.{not_refused}
use Rattle.data_slices.proofs.Units.{front_data}

-- ---- fronts of lists

-- the fewer of two lists of units are a front of the others
first_units : (a r c s : List ℕ) (ms ns : List Meaning) → AreUnits a ms → AreUnits c ns →
    a ++ r ≡ c ++ s → length ms ≤ length ns → (others : List Meaning) × (ns ≡ ms ++ others)
first_units a r c s [] ns h j eq few = (ns, refl)
first_units a r c s (m ∷ ms) [] h j eq few = absurd (omega arith)
first_units a r c s (m ∷ ms) (n ∷ ns) (x, more, at, u, h) (y, more', at', u', j) eq few =
    let t = units_same x y (more ++ r) (more' ++ s) m n u u'
    (sym (after a x more r at) ∙ eq ∙ after c y more' s at') in
    let (others, is) = first_units more r more' s ms ns h j t.2 (omega arith) in
    (others, λ i. sym t.1 i ∷ is i)

-- changes of which these are the first units
record First (v : ℕ) (cs : List Change) (ms : List Meaning) : Type 0 where
  front : List Change
  back : List Change
  all : cs ≡ front ++ back
  units : map (unit_of v) front ≡ ms

first_changes : (v : ℕ) (cs : List Change) (ms others : List Meaning) →
    map (unit_of v) cs ≡ ms ++ others → First v cs ms
first_changes v cs [] others e = record { front = []; back = cs; all = refl; units = refl }
first_changes v [] (m ∷ ms) others e = absurd cc
first_changes v (c ∷ cs) (m ∷ ms) others e =
    let head : unit_of v c ≡ m = cc in
    let tail : map (unit_of v) cs ≡ ms ++ others = cc in
    let f = first_changes v cs ms others tail in
    record {
      front = c ∷ f.front;
      back = f.back;
      all = ap (λ l. c ∷ l) f.all;
      units = λ i. head i ∷ f.units i;
    }

-- payloads of which the first make these changes
abbrev Firsts : (to : Payload → Change) (cs : List Change) (d : List Payload) → Type 0
Firsts to cs d = (ps qs : List Payload) × (d ≡ ps ++ qs) × (cs ≡ map to ps)

front_of : (to : Payload → Change) (cs ds : List Change) (d : List Payload) →
    cs ++ ds ≡ map to d → Firsts to cs d
front_of to [] ds d e = ([], d, refl, refl)
front_of to (c ∷ cs) ds [] e = absurd cc
front_of to (c ∷ cs) ds (p ∷ d) e =
    let head : c ≡ to p = cc in
    let tail : cs ++ ds ≡ map to d = cc in
    let (ps, qs, all, is) = front_of to cs ds d tail in
    (p ∷ ps, qs, ap (λ l. p ∷ l) all, λ i. head i ∷ is i)

front_announced : (cs ds : List Change) → AreAnnounced (cs ++ ds) → AreAnnounced cs
front_announced cs ds (d, is, s) =
    let (ps, qs, all, made) = front_of announcement cs ds d is in
    (ps, made, front_data ps qs (subst IsData all s))

-- a front of announcements and withdrawals ends in the ones or in the others
front_ordered : (cs ds : List Change) (announced withdrawn : List Payload) →
    cs ++ ds ≡ map announcement announced ++ map withdrawal withdrawn →
    Firsts announcement cs announced
    ⊎ ((ps qs : List Payload) × (withdrawn ≡ ps ++ qs)
    × (cs ≡ map announcement announced ++ map withdrawal ps))
front_ordered [] ds announced withdrawn e = inl ([], announced, refl, refl)
front_ordered (c ∷ cs) ds [] withdrawn e = inr (front_of withdrawal (c ∷ cs) ds withdrawn e)
front_ordered (c ∷ cs) ds (p ∷ announced) withdrawn e =
    let head : c ≡ announcement p = cc in
    let tail : cs ++ ds ≡ map announcement announced ++ map withdrawal withdrawn = cc in
    elim (front_ordered cs ds announced withdrawn tail) [
      | inl (ps, qs, all, is) ↦ inl (p ∷ ps, qs, ap (λ l. p ∷ l) all, λ i. head i ∷ is i)
      | inr (ps, qs, all, is) ↦ inr (ps, qs, all, λ i. head i ∷ is i)
    ]

front_apart : (those ps qs : List Payload) →
    AllByRecursion (λ p. has_name those p ≡ false) (ps ++ qs) →
    AllByRecursion (λ p. has_name those p ≡ false) ps
front_apart those [] qs h = tt
front_apart those (p ∷ ps) qs (g, h) = (g, front_apart those ps qs h)

front_changes : (cs ds : List Change) → AreOrdered (cs ++ ds) → AreOrdered cs
unfolding IsStrictlySortedBy
front_changes cs ds o = elim (front_ordered cs ds o.announced o.withdrawn o.parts) [
  | inl (ps, qs, all, is) ↦ record {
    announced = ps;
    withdrawn = [];
    parts = is ∙ sym (append-nil (map announcement ps));
    announced_in_order = front_data ps qs (subst IsData all o.announced_in_order);
    withdrawn_in_order = tt;
    apart = tt;
  }
  | inr (ps, qs, all, is) ↦ record {
    announced = o.announced;
    withdrawn = ps;
    parts = is;
    announced_in_order = o.announced_in_order;
    withdrawn_in_order = front_data ps qs (subst IsData all o.withdrawn_in_order);
    apart = front_apart o.announced ps qs
        (subst (AllByRecursion (λ p. has_name o.announced p ≡ false)) all o.apart);
  }
]

-- ---- two flaws

module _ (Such : List Change → Type 0) (Holds : List ℕ → Type 0)
    (front_such : (cs ds : List Change) → Such (cs ++ ds) → Such cs) where
  -- the fewer of two lists of units make such changes as well
  fewer : (a r c s : List ℕ) (ms : List Meaning) → AreUnits a ms → (g : AreUnitsOf Such c) →
      a ++ r ≡ c ++ s → length ms ≤ length g.changes → AreUnitsOf Such a
  fewer a r c s ms units g eq few =
      let (others, is) = first_units a r c s ms (map (unit_of g.version) g.changes) units g.units
      eq (omega (arith, few, length-map g.changes (unit_of g.version))) in
      let f = first_changes g.version g.changes ms others is in
      record {
        version = g.version;
        changes = f.front;
        units = subst (AreUnits a) (sym f.units) units;
        such = front_such f.front f.back (subst Such f.all g.such);
      }

  module _ (input : List ℕ) (f g : Flaw) (x : IsFirstFlaw Such Holds input f)
      (y : IsFirstFlaw Such Holds input g) where
    abbrev ms : List Meaning
    ms = map (unit_of x.before.version) x.before.changes

    abbrev ns : List Meaning
    ns = map (unit_of y.before.version) y.before.changes

    never_before : length ms < length ns → ⊥
    never_before less = by_reason f.reason x.wrong
      where
        unit : BeginsUnit x.left
        unit =
            goes_on x.front x.left y.front y.left ms ns x.before.units y.before.units
            (sym x.parts ∙ y.parts) less

        by_reason : (r : Reason) → IsWrongAfter Such Holds r x.front x.left → ⊥
        by_reason (Refused e) first = not_refused e x.left first (begins_unit_none x.left unit)
        by_reason NotCanonical (b, rest, at, inr (e, end), no_units, no_end) =
            unit_or_end unit.bytes b unit.rest rest unit.means e unit.unit end
            (sym unit.parts ∙ at)
        by_reason NotCanonical (b, rest, at, inl (m, u), no_units, no_end) =
            no_units
            (fewer (x.front ++ b) rest y.front y.left (ms ++ m ∷ [])
            (units_push x.front b ms m x.before.units u) y.before
            (append_assoc x.front b rest ∙ ap (λ l. x.front ++ l) (sym at) ∙ sym x.parts
            ∙ y.parts)
            (omega (
              arith,
              less,
              length-append ms (m ∷ []),
              length-map y.before.changes (unit_of y.before.version),
            )))

    same_offset : length ms ≡ length ns → f.offset ≡ g.offset
    same_offset e =
        let t = same_run x.front x.left y.front y.left ms ns x.before.units y.before.units
        (sym x.parts ∙ y.parts) e in
        x.size ∙ ap length t.0 ∙ sym y.size

  one_offset : (input : List ℕ) (f g : Flaw) → (x : IsFirstFlaw Such Holds input f) →
      (y : IsFirstFlaw Such Holds input g) → f.offset ≡ g.offset
  one_offset input f g x y =
      elim (cases_order
      (length (map (unit_of x.before.version) x.before.changes))
      (length (map (unit_of y.before.version) y.before.changes))) [
        | inl same ↦ same_offset input f g x y same
        | inr (inl less) ↦ absurd (never_before input f g x y less)
        | inr (inr more) ↦ absurd (never_before input g f y x more)
      ]

pub one_of_data : (input : List ℕ) (f g : Flaw) → IsFlawOfData input f → IsFlawOfData input g →
    f.offset ≡ g.offset
one_of_data = one_offset AreAnnounced HasData front_announced

pub one_of_changes : (input : List ℕ) (f g : Flaw) → IsFlawOfChanges input f →
    IsFlawOfChanges input g → f.offset ≡ g.offset
one_of_changes = one_offset AreOrdered HasChanges front_changes
